-- Sides of a merge: the range of their numbers and regions, and their delays through a wire.
use Rattle.std.specs.Prelude.{ℕ, ◌+◌, ◌≤◌}
use Rattle.cts_geom.specs.Regions.{IsRegionInRange}
use Rattle.cts_units.specs.declared.params.Wire.{Wire}
use Rattle.cts_units.specs.Delay.{wire_delay_of}
use Rattle.cts_units.specs.Limits.{max_load, max_delay}
use Rattle.cts_merge.specs.declared.side.Side.{Side}

-- the limits of a greatest doubled delay and of a load
pub record IsSideInRange (side : Side) : Type 0 where
  pub greatest : side.greatest ≤ max_delay
  pub load : side.load ≤ max_load

-- a side that can be merged: its numbers and its region are in range
pub record IsMergeable (side : Side) : Type 0 where
  pub numbers : IsSideInRange side
  pub region : IsRegionInRange side.region

-- the greatest delay of a side through a wire of a length above it
abbrev pub delay_through : Wire → Side → ℕ → ℕ
delay_through wire side len = side.greatest + wire_delay_of wire.r wire.c len side.load
