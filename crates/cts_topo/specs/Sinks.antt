-- The sinks that a topology is made for.
use Rattle.std.specs.Prelude.{◌<◌, ◌≤◌, ◌≤ℤ◌, pos, List, length, All}
use Rattle.cts_units.specs.declared.params.Sink.{Sink}
use Rattle.cts_units.specs.Ids.{HasDistinctIds}
use Rattle.cts_units.specs.Limits.{max_coordinate, max_sinks}

-- a sink's coordinates are from 0 to 10^8 nm
pub record IsPlaced (sink : Sink) : Type 0 where
  pub x_low : pos 0 ≤ℤ sink.x
  pub x_high : sink.x ≤ℤ pos max_coordinate
  pub y_low : pos 0 ≤ℤ sink.y
  pub y_high : sink.y ≤ℤ pos max_coordinate

-- 1 to 65,536 sinks with distinct ids, each at a place within the limits
pub record AreSinks (sinks : List Sink) : Type 0 where
  pub some : 0 < length sinks
  pub few : length sinks ≤ max_sinks
  pub placed : All IsPlaced sinks
  pub distinct : HasDistinctIds (λ s. s.id) sinks
