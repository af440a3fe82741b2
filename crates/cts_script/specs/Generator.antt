-- The instance that a seed and a number of sinks make. The generator is a linear congruence, so that the same two numbers
-- give the same instance everywhere.
use Rattle.std.specs.Prelude.{ℕ, ◌+◌, ◌*◌, ◌/◌, ◌%◌, ◌^◌, pos, List, [], ◌∷◌, map}
use Rattle.std.specs.Fn.{iterate}
use Rattle.std.specs.List.{range_with_len}
use Rattle.cts_units.specs.declared.params.Sink.{Sink}
use Rattle.cts_block.specs.declared.blocks.Kind.TheVariants as kind
use Rattle.cts_instance.specs.declared.parts.Parts.{Parts}
use Rattle.cts_instance.specs.declared.version.Version.TheVariants.{One}

-- the state that comes after a state
unfoldable pub next_state : ℕ → ℕ
next_state state = (state * 1103515245 + 12345) % 2 ^ 31

-- the state after so many steps from the seed
unfoldable pub state_after : ℕ → ℕ → ℕ
state_after seed steps = iterate next_state steps seed

-- what a state draws of the numbers below a limit: the state's share of 2^31, of the limit
abbrev pub drawn : ℕ → ℕ → ℕ
drawn limit state = state * limit / 2 ^ 31

-- the draw of this number, from 0, which is taken from the state after one step more
abbrev pub draw : ℕ → ℕ → ℕ → ℕ
draw seed number limit = drawn limit (state_after seed (number + 1))

-- The sink of this number, from 0. It takes three draws: x, y, each up to 10 mm in nm, and 20 to 50 fF. It wants no offset.
abbrev pub made_sink : ℕ → ℕ → Sink
made_sink seed number = record {
  id = number + 1;
  x = pos (draw seed (3 * number) 10000001);
  y = pos (draw seed (3 * number + 1) 10000001);
  cap = (20 + draw seed (3 * number + 2) 31) * 10 ^ 6;
  offset = 0;
}

unfoldable pub made_sinks : ℕ → ℕ → List Sink
made_sinks seed count = map (made_sink seed) (range_with_len 0 count)

-- The parts with these sinks: a die of 10 mm by 10 mm with its source at the lower left corner, two buffers, and in the
-- middle a block of 2 mm by 2 mm that keeps out buffers alone.
abbrev pub parts_with : List Sink → Parts
parts_with sinks = record {
  version = One;
  die = record { x1 = pos 0; y1 = pos 0; x2 = pos 10000000; y2 = pos 10000000 };
  source_x = pos 0;
  source_y = pos 0;
  source_r = 61200000;
  params = record {
    wire = record { r = 100; c = 200 };
    library =
        record { cin = 35000000; rout = 61200000; intrinsic = 24500000000000000 }
        ∷ record { cin = 80000000; rout = 30000000; intrinsic = 20000000000000000 }
        ∷ [];
    insert_at = 500000000;
  };
  load_limit = 800000000;
  slew_limit = 200000000000000000;
  sinks = sinks;
  blocks = record { kind = kind.Buffer; x1 = pos 4000000; y1 = pos 4000000; x2 = pos 6000000; y2 = pos 6000000 } ∷ [];
}

-- the instance of a seed and a number of sinks
abbrev pub made_parts : ℕ → ℕ → Parts
made_parts seed count = parts_with (made_sinks seed count)
