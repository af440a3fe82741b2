-- Why an instance has no tree over its nearest-pair topology.
use Rattle.std.specs.Prelude.{◌<◌, length}
use Rattle.cts_instance.specs.declared.parts.Parts.{Parts}
use Rattle.cts_near.specs.declared.end.NearEnd.{NearEnd}
use Rattle.cts_near.specs.declared.end.NearEnd.TheVariants as near
use Rattle.cts_near.specs.Ends.{max_near_sinks}
use Rattle.cts_near.specs.NearShape.{IsNearBeyond}
use Rattle.cts_plain.specs.declared.end.NoTree.TheVariants as plain
use Rattle.cts_plain.specs.Ends.{EndsBy}
use Rattle.cts_near.specs.declared.tree_end.NoNearTree.{NoNearTree}
use Rattle.cts_near.specs.declared.tree_end.NoNearTree.TheVariants.{Many, AtStep, Over}
use Rattle.cts_near.specs.Synthesis.{IsSynthesisNear}

-- it may end so: there are too many sinks, or this step is the first one that is beyond, or the synthesis over the shape
-- ends so, or for want of memory
abbrev pub NearEnds : Parts → NoNearTree → Type 0
NearEnds i Many = max_near_sinks < length i.sinks
NearEnds i (AtStep step) = IsNearBeyond i.params i.sinks step
NearEnds i (Over end) = EndsBy (IsSynthesisNear i) end

-- the end of the joining, as an end of the whole
abbrev pub of_shape : NearEnd → NoNearTree
of_shape near.Many = Many
of_shape (near.Beyond step) = AtStep step
of_shape near.NoMemory = Over plain.NoMemory
