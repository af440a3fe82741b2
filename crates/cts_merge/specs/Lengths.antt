-- The greatest length of a wire by the delay that it may add, and the greatest length of the first of two wires that share a distance.
use Rattle.std.specs.Prelude.{◌≡◌, ℕ, ◌-◌, ◌≤◌, ◌⊎◌}
use Rattle.cts_units.specs.declared.params.Wire.{Wire}
use Rattle.cts_units.specs.Delay.{wire_delay_of}
use Rattle.cts_merge.specs.declared.side.Side.{Side}
use Rattle.cts_merge.specs.Side.{delay_through}

-- the greatest length at which a wire into this load has at most this delay
pub record IsLongest (wire : Wire) (load delay len : ℕ) : Type 0 where
  pub fits : wire_delay_of wire.r wire.c len load ≤ delay
  pub greatest : (x : ℕ) → wire_delay_of wire.r wire.c x load ≤ delay → x ≤ len

-- with this length on the first side, and the rest of the distance on the second one, the first side is not slower
abbrev pub IsNotSlower : Wire → Side → Side → ℕ → ℕ → Type 0
IsNotSlower wire a b distance x = delay_through wire a x ≤ delay_through wire b (distance - x)

-- the greatest such length from 0 to the distance, or 0 where there is none
pub record IsTap (wire : Wire) (a b : Side) (distance len : ℕ) : Type 0 where
  pub inside : len ≤ distance
  pub fits : IsNotSlower wire a b distance len
      ⊎ ((len ≡ 0) × ((x : ℕ) → x ≤ distance → ¬ IsNotSlower wire a b distance x))
  pub greatest : (x : ℕ) → x ≤ distance → IsNotSlower wire a b distance x → x ≤ len
