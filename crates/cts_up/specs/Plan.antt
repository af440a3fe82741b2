-- The upward pass of deferred-merge embedding (Chao, Hsu, Ho 1992): what each node of a tree over sinks is made of, told
-- from its parts alone. Whole lengths, buffers and limits are this project's own rules.
use Rattle.std.specs.List.{AllZip}
use Rattle.std.specs.Prelude.{ℕ, List, slice_get, Option, None, MatchOption}
use Rattle.cts_units.specs.declared.params.Sink.{Sink}
use Rattle.cts_units.specs.declared.params.Params.{Params}
use Rattle.cts_postorder.specs.BinaryTree.{BinaryTree, tip, fork}
use Rattle.cts_postorder.specs.PostOrder.{trees_of}
use Rattle.cts_postorder.specs.Pass.{IsLeastFailure}
use Rattle.cts_topo.specs.declared.shape.ShapeNode.{ShapeNode}
use Rattle.cts_topo.specs.declared.shape.ShapeNode.TheVariants.{Leaf, Pair}
use Rattle.cts_topo.specs.Shape.{children}
use Rattle.cts_merge.specs.declared.side.Finished.{Finished}
use Rattle.cts_merge.specs.Merge.{IsLeaf, IsMerged, IsBeyond}

-- the sink that a leaf names, and none at a pair
abbrev pub sink_of : List Sink → ShapeNode → Option Sink
sink_of sinks (Leaf sink) = slice_get sinks sink
sink_of sinks (Pair left right) = None

-- What a tree's root is made of: at a leaf what its sink gives, and at a pair what the sides of its two parts give,
-- the left one first.
unfoldable pub IsFinished : Params → List Sink → BinaryTree ShapeNode → Finished → Type 0
IsFinished params sinks (tip n) f = MatchOption (sink_of sinks n) ⊥ (λ sink. IsLeaf sink f)
IsFinished params sinks (fork l r n) f =
    (a : Finished) × (b : Finished) × IsFinished params sinks l a × IsFinished params sinks r b
    × IsMerged params a.side b.side f

-- A pair is beyond: both its parts are finished, and with their least pair of lengths it is over the limits of wires,
-- loads or delays.
unfoldable pub IsBeyondPair : Params → List Sink → BinaryTree ShapeNode → Type 0
IsBeyondPair params sinks (tip n) = ⊥
IsBeyondPair params sinks (fork l r n) =
    (a : Finished) × (b : Finished) × IsFinished params sinks l a × IsFinished params sinks r b
    × IsBeyond params a.side b.side

-- the plan of a shape: what each of its nodes is made of, by number
abbrev pub IsPlan : Params → List Sink → List ShapeNode → List Finished → Type 0
IsPlan params sinks nodes plan = AllZip (IsFinished params sinks) (trees_of children nodes) plan

-- the least number of a node that is beyond
abbrev pub IsLeastBeyond : Params → List Sink → List ShapeNode → ℕ → Type 0
IsLeastBeyond params sinks nodes k = IsLeastFailure children nodes (IsBeyondPair params sinks) k
