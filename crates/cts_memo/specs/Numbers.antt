-- The numbers that subtrees of a shape have in a list of entries, and how many pairs have none.
use Rattle.std.specs.Prelude.{ℕ, Bool, false, List, position, count_by, is_none, Option, Some, None, All, IsSome}
use Rattle.std.specs.Option.{option_and_then}
use Rattle.cts_units.specs.declared.params.Sink.{Sink}
use Rattle.cts_postorder.specs.BinaryTree.{BinaryTree, tip, fork}
use Rattle.cts_postorder.specs.PostOrder.{trees_of}
use Rattle.cts_topo.specs.declared.shape.ShapeNode.{ShapeNode}
use Rattle.cts_topo.specs.Shape.{children}
use Rattle.cts_up.specs.Plan.{sink_of}
use Rattle.cts_memo.specs.declared.key.Key.{Key}
use Rattle.cts_memo.specs.declared.key.Key.TheVariants.{Pair}
use Rattle.cts_memo.specs.declared.entry.MemoEntry.{MemoEntry}
use Rattle.cts_memo.specs.Keys.{leaf_key, same_key}

-- the position of a key's entry
abbrev pub position_of : List MemoEntry → Key → Option ℕ
position_of seen key = position (λ e. same_key e.key key) seen

-- the number of a pair by those of its two parts
abbrev pub pair_number : List MemoEntry → Option ℕ → Option ℕ → Option ℕ
pair_number seen (Some left) (Some right) = position_of seen (Pair left right)
pair_number seen (Some left) None = None
pair_number seen None right = None

-- The number of a tree's root: at a leaf the position of its sink's key, and at a pair the position of the key that its
-- two parts' numbers make, where both have one.
unfoldable pub number_of : List MemoEntry → List Sink → BinaryTree ShapeNode → Option ℕ
number_of seen sinks (tip n) = option_and_then (λ sink. position_of seen (leaf_key sink)) (sink_of sinks n)
number_of seen sinks (fork l r n) = pair_number seen (number_of seen sinks l) (number_of seen sinks r)

-- a pair without a number
unfoldable pub is_missing : List MemoEntry → List Sink → BinaryTree ShapeNode → Bool
is_missing seen sinks (tip n) = false
is_missing seen sinks (fork l r n) = is_none (number_of seen sinks (fork l r n))

-- how many of these trees are pairs without a number
abbrev pub missing_in : List MemoEntry → List Sink → List (BinaryTree ShapeNode) → ℕ
missing_in seen sinks trees = count_by (is_missing seen sinks) trees

-- how many pairs of a shape have none
abbrev pub missing : List MemoEntry → List Sink → List ShapeNode → ℕ
missing seen sinks nodes = missing_in seen sinks (trees_of children nodes)

-- all nodes of a shape have a number
abbrev pub AreKnown : List MemoEntry → List Sink → List ShapeNode → Type 0
AreKnown seen sinks nodes = All (λ t. IsSome (number_of seen sinks t)) (trees_of children nodes)
