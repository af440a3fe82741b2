-- What holds of the nearest-pair topology of every list of sinks.
use Rattle.std.specs.Prelude.{◌≡◌, List, length, All}
use Rattle.cts_units.specs.declared.params.Sink.{Sink}
use Rattle.cts_units.specs.declared.params.Params.{Params}
use Rattle.cts_units.specs.Ids.{HasDistinctIds}
use Rattle.cts_topo.specs.declared.shape.ShapeNode.{ShapeNode}
use Rattle.cts_topo.specs.Shape.{IsShapeOver}
use Rattle.cts_merge.specs.declared.side.Finished.{Finished}
use Rattle.cts_up.specs.Plan.{IsPlan}
use Rattle.cts_near.specs.Near.{Outcome, IsNear}
use Rattle.cts_near.specs.NearShape.{IsNearShape}
use Rattle.cts_tree.specs.declared.nodes.TreeNode.{TreeNode}
use Rattle.cts_instance.specs.declared.parts.Parts.{Parts}
use Rattle.cts_instance.specs.Validity.{IsValid}
use Rattle.cts_elmore.specs.Sound.{IsSound, StandsInDie}
use Rattle.cts_elmore.specs.Fits.{FitsInstance}
use Rattle.cts_plain.specs.Synthesis.{made}
use Rattle.cts_near.specs.Synthesis.{NearSynthesis, ComesNear, IsSynthesisNear}

-- sinks come to one thing alone: one shape, or one first step that is beyond, and never both
abbrev pub NearIsOne : Type 0
NearIsOne =
    (params : Params) (sinks : List Sink) (outcome other : Outcome) → HasDistinctIds (λ s. s.id) sinks
    → IsNear params sinks outcome → IsNear params sinks other → outcome ≡ other

-- the shape is one over the sinks: each is named by one leaf
abbrev pub NearShapesNameEachSink : Type 0
NearShapesNameEachSink =
    (params : Params) (sinks : List Sink) (nodes : List ShapeNode) → HasDistinctIds (λ s. s.id) sinks
    → IsNearShape params sinks nodes → IsShapeOver (length sinks) nodes

-- the shape has a plan: what each of its nodes is made of, with no pair beyond
abbrev pub NearShapesHavePlans : Type 0
NearShapesHavePlans =
    (params : Params) (sinks : List Sink) (nodes : List ShapeNode) → IsNearShape params sinks nodes
    → (plan : List Finished) × IsPlan params sinks nodes plan

-- a valid instance comes to one thing alone: one first step that is beyond, or one synthesis, and never to both
abbrev pub NearSynthesesAreOne : Type 0
NearSynthesesAreOne = (i : Parts) (a b : NearSynthesis) → IsValid i → ComesNear i a → ComesNear i b → a ≡ b

-- the tree is sound, stands in the die, and is made of the instance's sinks and buffers
abbrev pub NearTreesAreSound : Type 0
NearTreesAreSound =
    (i : Parts) (tree : List TreeNode) → IsValid i → IsSynthesisNear i (made tree)
    → IsSound i tree × All (StandsInDie i.die) tree × FitsInstance i tree
