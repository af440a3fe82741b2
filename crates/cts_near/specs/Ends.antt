-- Why sinks have no nearest-pair topology.
use Rattle.std.specs.Prelude.{◌≡◌, ℕ, ◌<◌, List, length}
use Rattle.cts_units.specs.declared.params.Sink.{Sink}
use Rattle.cts_units.specs.declared.params.Params.{Params}
use Rattle.cts_near.specs.declared.end.NearEnd.{NearEnd}
use Rattle.cts_near.specs.declared.end.NearEnd.TheVariants.{Many, Beyond, NoMemory}
use Rattle.cts_near.specs.Parts.{Part}
use Rattle.cts_near.specs.Forest.{IsStuck}
use Rattle.cts_near.specs.NearShape.{IsNearBeyond}

-- the most sinks that it is made for
abbrev pub max_near_sinks : ℕ
max_near_sinks = 2048

-- it may end so: there are too many sinks, or a step is beyond the limits, or for want of memory
abbrev pub Ends : Params → List Sink → NearEnd → Type 0
Ends params sinks Many = max_near_sinks < length sinks
Ends params sinks (Beyond step) = IsNearBeyond params sinks step
Ends params sinks NoMemory = Unit {0}

-- a step may end so: it is the one that is beyond, or for want of memory
abbrev pub StepEnds : Params → List Part → ℕ → NearEnd → Type 0
StepEnds params parts step Many = ⊥
StepEnds params parts step (Beyond k) = (k ≡ step) × IsStuck params parts
StepEnds params parts step NoMemory = Unit {0}
