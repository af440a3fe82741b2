-- The sinks that the pass goes up from.
use Rattle.std.specs.Prelude.{◌^◌, ◌<◌, ◌≤◌, ◌≤ℤ◌, List, length, All}
use Rattle.cts_geom.specs.declared.bounds.Die.{Die}
use Rattle.cts_units.specs.declared.params.Sink.{Sink}
use Rattle.cts_units.specs.Limits.{max_sinks, max_capacitance}
use Rattle.cts_topo.specs.Sinks.{IsPlaced}

-- a place, a capacitance in zF and an offset in 10^-27 s, not doubled, within the limits of an instance
pub record IsSinkInRange (sink : Sink) : Type 0 where
  pub placed : IsPlaced sink
  pub cap : sink.cap ≤ max_capacitance
  pub offset : sink.offset < 10 ^ 18

pub record AreSinksInRange (sinks : List Sink) : Type 0 where
  pub few : length sinks ≤ max_sinks
  pub each : All IsSinkInRange sinks

-- the sink lies in the die or on its edges
pub record IsOnDie (die : Die) (sink : Sink) : Type 0 where
  pub west : die.x1 ≤ℤ sink.x
  pub east : sink.x ≤ℤ die.x2
  pub south : die.y1 ≤ℤ sink.y
  pub north : sink.y ≤ℤ die.y2
