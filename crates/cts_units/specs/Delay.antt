-- Delays of a wire and of a buffer, doubled so that they are whole numbers.
use Rattle.std.specs.Prelude.{ℕ, ◌+◌, ◌*◌}
use Rattle.cts_units.specs.declared.params.Buffer.{Buffer}

-- The Elmore delay of a uniform wire of resistance r and capacitance c per unit, taken twice: its resistance
-- r·len drives half of its own capacitance c·len and all of the load at its lower end.
unfoldable pub wire_delay_of : ℕ → ℕ → ℕ → ℕ → ℕ
wire_delay_of r c len load = r * len * (c * len + 2 * load)

-- The delay of a linear buffer, taken twice: its intrinsic delay, and its output resistance into the load.
unfoldable pub buffer_delay_of : Buffer → ℕ → ℕ
buffer_delay_of buffer load = 2 * buffer.intrinsic + 2 * buffer.rout * load

-- The slew, in tenths of the unit of a doubled stage delay: eleven tenths of that delay. The factor is this
-- project's own.
abbrev pub slew_of : ℕ → ℕ
slew_of stage = 11 * stage
