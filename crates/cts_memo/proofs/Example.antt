-- The numbers of a worked shape: two sinks and the pair over them, in a list of three entries and in shorter ones.
use Rattle.std.proofs.Common.{◌≡◌, pos, List, [], ◌∷◌, Some, None, refl}
use Rattle.cts_units.specs.declared.params.Sink.{Sink}
use Rattle.cts_postorder.specs.BinaryTree.{BinaryTree, tip, fork}
use Rattle.cts_postorder.specs.PostOrder.{trees_of, grow, tree_over}
use Rattle.cts_topo.specs.declared.shape.ShapeNode.{ShapeNode}
use Rattle.cts_topo.specs.declared.shape.ShapeNode.TheVariants as shape
use Rattle.cts_merge.specs.declared.side.Finished.{Finished}
use Rattle.cts_merge.proofs.Exists.{sink_leaf}
use Rattle.cts_memo.specs.declared.key.Key.TheVariants.{Leaf, Pair}
use Rattle.cts_memo.specs.declared.entry.MemoEntry.{MemoEntry}
use Rattle.cts_memo.specs.Keys.{entry}
use Rattle.cts_memo.specs.Numbers.{number_of, is_missing, missing}

abbrev first : Sink
first = record { id = 1; x = pos 0; y = pos 0; cap = 5; offset = 0 }

abbrev second : Sink
second = record { id = 2; x = pos 10; y = pos 0; cap = 10; offset = 0 }

-- the second sink with another capacitance
abbrev heavier : Sink
heavier = record { id = 2; x = pos 10; y = pos 0; cap = 12; offset = 0 }

-- the second sink with an offset
abbrev earlier : Sink
earlier = record { id = 2; x = pos 10; y = pos 0; cap = 10; offset = 40 }

-- what an entry has plays no part in its number
abbrev some_finished : Finished
some_finished = sink_leaf first

abbrev leaves : List MemoEntry
leaves = entry (Leaf (pos 10) (pos 0) 10 0) some_finished ∷ entry (Leaf (pos 0) (pos 0) 5 0) some_finished ∷ []

abbrev all : List MemoEntry
all = entry (Leaf (pos 10) (pos 0) 10 0) some_finished ∷ entry (Leaf (pos 0) (pos 0) 5 0) some_finished ∷ entry (Pair 1 0) some_finished ∷ []

abbrev turned : List MemoEntry
turned = entry (Leaf (pos 10) (pos 0) 10 0) some_finished ∷ entry (Leaf (pos 0) (pos 0) 5 0) some_finished ∷ entry (Pair 0 1) some_finished ∷ []

abbrev pair : BinaryTree ShapeNode
pair = fork (tip (shape.Leaf 0)) (tip (shape.Leaf 1)) (shape.Pair 0 1)

abbrev nodes : List ShapeNode
nodes = shape.Leaf 0 ∷ shape.Leaf 1 ∷ shape.Pair 0 1 ∷ []

-- the leaves have the positions of their keys, the pair that of the key that their numbers make
number_of_leaf : number_of all (first ∷ second ∷ []) (tip (shape.Leaf 0)) ≡ Some 1
unfolding number_of
number_of_leaf = refl

number_of_pair : number_of all (first ∷ second ∷ []) pair ≡ Some 2
unfolding number_of
number_of_pair = refl

-- with its parts the other way round it is another pair
not_turned : number_of turned (first ∷ second ∷ []) pair ≡ None
unfolding number_of
not_turned = refl

-- so nothing is missing, one pair where the list is shorter, and one after a change of a capacitance or of an offset
nothing_missing : missing all (first ∷ second ∷ []) nodes ≡ 0
unfolding number_of is_missing trees_of grow tree_over
nothing_missing = refl

one_missing : missing leaves (first ∷ second ∷ []) nodes ≡ 1
unfolding number_of is_missing trees_of grow tree_over
one_missing = refl

one_changed : missing all (first ∷ heavier ∷ []) nodes ≡ 1
unfolding number_of is_missing trees_of grow tree_over
one_changed = refl

one_earlier : missing all (first ∷ earlier ∷ []) nodes ≡ 1
unfolding number_of is_missing trees_of grow tree_over
one_earlier = refl
