-- What the numbers of subtrees say of one another.
use Rattle.std.specs.Prelude.{◌≡◌, ◌≢◌, ℕ, ◌<◌, ◌≤◌, List, length, slice_get, set, Some}
use mathlib.Core.List.{IsPrefix}
use Rattle.std.specs.Thread.{IsSync}
use Rattle.cts_units.specs.declared.params.Sink.{Sink}
use Rattle.cts_units.specs.declared.params.Params.{Params}
use Rattle.cts_postorder.specs.BinaryTree.{BinaryTree, depth}
use Rattle.cts_postorder.specs.PostOrder.{root_of}
use Rattle.cts_topo.specs.declared.shape.ShapeNode.{ShapeNode}
use Rattle.cts_topo.specs.Shape.{children, IsShapeOver}
use Rattle.cts_topo.specs.Sinks.{AreSinks}
use Rattle.cts_topo.specs.Topology.{shape_of}
use Rattle.cts_up.specs.Plan.{IsFinished}
use Rattle.cts_memo.specs.declared.entry.MemoEntry.{MemoEntry}
use Rattle.cts_memo.specs.contracts.memo.Memo as memo
use Rattle.cts_memo.specs.Sound.{EntryAt, IsSound}
use Rattle.cts_memo.specs.Numbers.{number_of, missing, AreKnown}

-- a number in a list is the number in every list that begins with it
abbrev pub NumbersStay : Type 0
NumbersStay =
    (seen longer : List MemoEntry) (sinks : List Sink) (t : BinaryTree ShapeNode) (n : ℕ) → IsPrefix seen longer
    → number_of seen sinks t ≡ Some n → number_of longer sinks t ≡ Some n

-- the entry of a tree's number is what the upward pass makes of the tree
abbrev pub NumberedIsFinished : Type 0
NumberedIsFinished =
    (params : Params) (seen : List MemoEntry) (sinks : List Sink) (t : BinaryTree ShapeNode) (n : ℕ) → IsSound params seen
    → number_of seen sinks t ≡ Some n → EntryAt seen n (λ e. IsFinished params sinks t e.finished)

-- where every node of a shape has a number nothing is missing
abbrev pub NothingIsMissing : Type 0
NothingIsMissing =
    (seen : List MemoEntry) (sinks : List Sink) (nodes : List ShapeNode) → AreKnown seen sinks nodes → missing seen sinks nodes ≡ 0

-- and every node has one where the root has
abbrev pub RootTellsAll : Type 0
RootTellsAll =
    (seen : List MemoEntry) (sinks : List Sink) (count : ℕ) (nodes : List ShapeNode) (t : BinaryTree ShapeNode) (n : ℕ)
    → IsShapeOver count nodes → root_of children nodes ≡ Some t → number_of seen sinks t ≡ Some n → AreKnown seen sinks nodes

-- the lists are the same but for one sink
pub record DifferAt (s : ℕ) (sinks sinks' : List Sink) : Type 0 where
  pub place : s < length sinks
  pub others : (i : ℕ) → i ≢ s → slice_get sinks' i ≡ slice_get sinks i

-- after one sink has changed at most the pairs above it have none: no more than the depth
abbrev pub OneChangeMissesDepth : Type 0
OneChangeMissesDepth =
    (seen : List MemoEntry) (sinks sinks' : List Sink) (s : ℕ) (nodes : List ShapeNode) (t : BinaryTree ShapeNode)
    → IsShapeOver (length sinks) nodes → root_of children nodes ≡ Some t → DifferAt s sinks sinks' → AreKnown seen sinks nodes
    → missing seen sinks' nodes ≤ depth t

-- the sinks with another capacitance at one of them
abbrev pub with_cap : List Sink → ℕ → Sink → ℕ → List Sink
with_cap sinks s sink cap = set sinks s (record sink { cap = cap })

-- a capacitance has no part in the shape over a list of sinks, and after one has changed at most 16 pairs have no number
abbrev pub OneCapMissesSixteen : Type 0
OneCapMissesSixteen =
    (seen : List MemoEntry) (sinks : List Sink) (s : ℕ) (sink : Sink) (cap : ℕ) → AreSinks sinks → slice_get sinks s ≡ Some sink
    → AreKnown seen sinks (shape_of sinks)
    → (shape_of (with_cap sinks s sink cap) ≡ shape_of sinks) × (missing seen (with_cap sinks s sink cap) (shape_of sinks) ≤ 16)

-- threads may share a memo
abbrev pub MemoIsShared : Type 0
MemoIsShared = IsSync memo.the_row
