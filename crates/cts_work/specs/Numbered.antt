-- The numbers of nodes that were brought into a memo.
use Rattle.std.specs.Prelude.{◌≡◌, ℕ, ◌<◌, List, length, slice_get, slice_index_or, Option, Some, None}
use Rattle.cts_units.specs.declared.params.Sink.{Sink}
use Rattle.cts_postorder.specs.BinaryTree.{BinaryTree}
use Rattle.cts_topo.specs.declared.shape.ShapeNode.{ShapeNode}
use Rattle.cts_memo.specs.declared.key.Key.{Key}
use Rattle.cts_memo.specs.declared.entry.MemoEntry.{MemoEntry}
use Rattle.cts_memo.specs.declared.entry.Answer.{Answer}
use Rattle.cts_memo.specs.declared.entry.Answer.TheVariants.{Have, Absent}
use Rattle.cts_memo.specs.Keys.{entry}
use Rattle.cts_memo.specs.Numbers.{number_of}
use Rattle.cts_memo.specs.Sound.{max_entries}
use Rattle.cts_work.specs.declared.publishing.Brought.{Brought}
use Rattle.cts_work.specs.Built.{tree_at}

-- An answer for a key holds in the list where the entry that it names is the key's. `Absent` was true of an earlier list,
-- and says nothing of this one.
abbrev pub HoldsFor : List MemoEntry → Key → Answer → Type 0
HoldsFor seen key (Have n f) = slice_get seen n ≡ Some (entry key f)
HoldsFor seen key Absent = Unit {0}

-- a tree's number in the list, or a full list in which it has none
pub record HasNumber (seen : List MemoEntry) (sinks : List Sink) (t : BinaryTree ShapeNode) (number : Option ℕ) : Type 0 where
  pub is : number_of seen sinks t ≡ number
  pub full : number ≡ None → length seen ≡ max_entries

-- the nodes from 0 on have such numbers
pub record AreNumbered (seen : List MemoEntry) (sinks : List Sink) (nodes : List ShapeNode) (bs : List Brought) : Type 0 where
  pub each : (i : ℕ) (d : Brought) → i < length bs → HasNumber seen sinks (tree_at nodes i) (slice_index_or bs i d).number
