-- What is known of a node that is done with, over a memo.
use Rattle.std.specs.Prelude.{◌≡◌, ℕ, List, slice_get, slice_index_or, length, Option, Some, None, MatchOption, IfSome}
use mathlib.Core.List.{IsPrefix}
use Rattle.cts_units.specs.declared.params.Sink.{Sink}
use Rattle.cts_units.specs.declared.params.Params.{Params}
use Rattle.cts_postorder.specs.BinaryTree.{BinaryTree, tip, fork}
use Rattle.cts_postorder.specs.PostOrder.{trees_of}
use Rattle.cts_topo.specs.declared.shape.ShapeNode.{ShapeNode}
use Rattle.cts_topo.specs.declared.shape.ShapeNode.TheVariants.{Leaf, Pair}
use Rattle.cts_topo.specs.Shape.{children}
use Rattle.cts_merge.specs.declared.side.Finished.{Finished}
use Rattle.cts_merge.specs.Merge.{IsLeaf}
use Rattle.cts_up.specs.Plan.{IsFinished}
use Rattle.cts_turn.specs.declared.turn.Pass.{Pass}
use Rattle.cts_turn.specs.Passes.{seen_by, share_of}
use Rattle.cts_memo.specs.declared.key.Key.{Key}
use Rattle.cts_memo.specs.declared.entry.MemoEntry.{MemoEntry}
use Rattle.cts_memo.specs.declared.entry.MemoCall.{MemoCall}
use Rattle.cts_memo.specs.declared.entry.MemoReply.{MemoReply}
use Rattle.cts_memo.specs.declared.table.Table.{Table}
use Rattle.cts_memo.specs.declared.memo.Memo.{Memo}
use Rattle.cts_memo.specs.Keys.{entry, leaf_key}
use Rattle.cts_memo.specs.Numbers.{number_of, position_of}
use Rattle.cts_memo.specs.Passes.{IsPassOf}
use Rattle.cts_memo.specs.Replies.{IsAbsent}
use Rattle.cts_memo.specs.Sound.{max_entries}
use Rattle.cts_work.specs.declared.node.Built.{Built}

-- the pass is still the memo's, with its share, and has seen no less
pub record GoesOn (memo : Memo) (pass pass' : Pass Table MemoEntry MemoCall MemoReply) : Type 0 where
  pub own : IsPassOf memo pass'
  pub share : share_of pass' ≡ share_of pass
  pub goes_on : IsPrefix (seen_by pass) (seen_by pass')

-- what was made of a key stands in the list at this number, or the list is full and hasn't the key
abbrev pub IsKept : List MemoEntry → Key → Finished → Option ℕ → Type 0
IsKept seen key f number =
    MatchOption number (IsAbsent seen key × (length seen ≡ max_entries)) (λ n. slice_get seen n ≡ Some (entry key f))

-- Where a node has a number the entry of this number has its key and what it is made of.
abbrev pub IsNoted : List MemoEntry → Built → Type 0
IsNoted seen b = IfSome b.number (λ n. IfSome b.key (λ key. slice_get seen n ≡ Some (entry key b.finished)))

-- a leaf: what its sink gives, and the position of its key, or a full list without the key
pub record IsBuiltLeaf (seen : List MemoEntry) (sink : Sink) (b : Built) : Type 0 where
  pub leaf : IsLeaf sink b.finished
  pub number : position_of seen (leaf_key sink) ≡ b.number
  pub full : b.number ≡ None → length seen ≡ max_entries
  pub noted : IsNoted seen b

-- What a tree's root is made of, and its number in the list, or a full list in which it has none.
pub record IsBuilt (params : Params) (sinks : List Sink) (seen : List MemoEntry) (t : BinaryTree ShapeNode) (b : Built) : Type 0 where
  pub finished : IsFinished params sinks t b.finished
  pub number : number_of seen sinks t ≡ b.number
  pub full : b.number ≡ None → length seen ≡ max_entries
  pub noted : IsNoted seen b

-- the tree at a number of a list of nodes
abbrev pub tree_at : List ShapeNode → ℕ → BinaryTree ShapeNode
tree_at nodes k = slice_index_or (trees_of children nodes) k (tip (Leaf 0))

-- the tree at number k is the pair of those at its children's numbers
abbrev pub IsPairAt : List ShapeNode → ℕ → ℕ → ℕ → Type 0
IsPairAt nodes k left right = tree_at nodes k ≡ fork (tree_at nodes left) (tree_at nodes right) (Pair left right)
