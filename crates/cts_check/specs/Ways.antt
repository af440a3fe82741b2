-- Where wires begin, and the steps of their routes.
use Rattle.std.specs.Prelude.{◌≡◌, List}
use Rattle.std.specs.List.{AllZip}
use Rattle.cts_geom.specs.declared.bounds.Die.{Die}
use Rattle.cts_geom.specs.declared.points.Half.{Half}
use Rattle.cts_block.specs.declared.blocks.Block.{Block}
use Rattle.cts_block.specs.FreePoints.{IsFreeForWire}
use Rattle.cts_postorder.specs.Occurrence.{Occurrence, occurrences_of}
use Rattle.cts_tree.specs.declared.nodes.TreeNode.{TreeNode}
use Rattle.cts_tree.specs.Nodes.{tree_children}
use Rattle.cts_tree.specs.Path.{IsAxisStep, IsOnSegment, HasAxisSteps, AllAlong}
use Rattle.cts_instance.specs.declared.parts.Parts.{Parts}
use Rattle.cts_elmore.specs.Sound.{upper_end}

-- the point where the wire above a node begins
abbrev pub IsUpperEnd : Parts → Occurrence TreeNode → Half → Type 0
IsUpperEnd i o end = end ≡ upper_end i o.above

-- these points, by the numbers of the nodes
abbrev pub AreUpperEnds : Parts → List TreeNode → List Half → Type 0
AreUpperEnds i nodes ends = AllZip (IsUpperEnd i) (occurrences_of tree_children nodes) ends

-- the step runs along one axis and is longer than 0, and a wire may run through each of its points
pub record IsLegalStep (blocks : List Block) (die : Die) (p q : Half) : Type 0 where
  pub axis : IsAxisStep p q
  pub free : (r : Half) → IsOnSegment p q r → IsFreeForWire blocks die r

-- so it is with all steps of a way
pub record HasLegalSteps (blocks : List Block) (die : Die) (points : List Half) : Type 0 where
  pub axis : HasAxisSteps points
  pub free : AllAlong (IsFreeForWire blocks die) points
