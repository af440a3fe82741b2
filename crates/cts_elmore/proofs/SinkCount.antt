-- A sound tree has as many leaves as the instance has sinks: its leaves are counted sink by sink, and leaf by leaf.
use Rattle.std.proofs.Common.{◌≡◌, ℕ, zero, suc, ◌+◌, ◌*◌, ◌<◌, ◌==◌, Bool, true, false, cond, List, [], ◌∷◌, ◌++◌, length, get_or, Option, Some, None, MatchOption, refl, sym, ap, subst, ◌∙◌, arith, length-append}
use Rattle.std.specs.Prelude.{count_by, sum_by}
use Rattle.std.specs.List.{All, Contains, cons_option}
use Rattle.std.proofs.lemmas.Bool.Decides.{nat_tests}
use Rattle.std.proofs.lemmas.List.Elements.{All-cons, All-head, All-nil, All-tail, filter_map-append}
use Rattle.std.proofs.lemmas.List.Sums.{sum_by-cons}
use Rattle.cts_units.specs.declared.params.Sink.{Sink}
use Rattle.cts_units.specs.Ids.{HasDistinctIds}
use Rattle.cts_postorder.specs.BinaryTree.{BinaryTree, tip, fork, labels, size, IsNumbered}
use Rattle.cts_postorder.proofs.Lists.{Whole, whole_of}
use Rattle.cts_tree.specs.declared.nodes.NodeKind.{NodeKind}
use Rattle.cts_tree.specs.declared.nodes.NodeKind.TheVariants.{Leaf, Pair}
use Rattle.cts_tree.specs.declared.nodes.TreeNode.{TreeNode}
use Rattle.cts_tree.specs.Nodes.{children_of, leaf_id, tree_children}
use Rattle.cts_elmore.specs.Laws.{SoundTreesHaveOneLeafASink}
use Rattle.cts_elmore.specs.Sound.{IsSinkAt, leaf_ids}

-- a sum of ones
sum_ones : {A : Type 0} (f : A → ℕ) (xs : List A) → All (λ x. f x ≡ 1) xs → sum_by f xs ≡ length xs
sum_ones f [] all = refl
sum_ones f (x ∷ xs) all =
    omega (
      arith,
      sum_by-cons f x xs,
      All-head (λ y. f y ≡ 1) x xs all,
      sum_ones f xs (All-tail (λ y. f y ≡ 1) x xs all),
    )

-- how often a sink's id stands among ids, and how many sinks have an id
abbrev times : List ℕ → Sink → ℕ
times ids sink = count_by (λ id. id == sink.id) ids

abbrev having : List Sink → ℕ → ℕ
having sinks id = count_by (λ (sink : Sink). id == sink.id) sinks

-- one id more
times_more : (id : ℕ) (ids : List ℕ) (sinks : List Sink)
    → sum_by (times (id ∷ ids)) sinks ≡ having sinks id + sum_by (times ids) sinks
times_more id ids [] = refl
times_more id ids (sink ∷ sinks) =
    omega (
      arith,
      sum_by-cons (times (id ∷ ids)) sink sinks,
      sum_by-cons (times ids) sink sinks,
      sum_by-cons (λ x. cond (x == sink.id) 1 0) id ids,
      sum_by-cons (λ (s : Sink). cond (id == s.id) 1 0) sink sinks,
      times_more id ids sinks,
    )

-- the pairs of a sink and a leaf with its id, counted by sinks and by leaves
counted_twice : (ids : List ℕ) (sinks : List Sink) → sum_by (times ids) sinks ≡ sum_by (having sinks) ids
counted_twice [] [] = refl
counted_twice [] (sink ∷ sinks) = omega (arith, sum_by-cons (times []) sink sinks, counted_twice [] sinks)
counted_twice (id ∷ ids) sinks =
    omega (arith, times_more id ids sinks, sum_by-cons (having sinks) id ids, counted_twice ids sinks)

abbrev one_if : Bool → ℕ
one_if b = cond b 1 0

-- of sinks with distinct ids one has the id of one of them
none_has : (sinks : List Sink) (id : ℕ) → ((k : ℕ) (d : Sink) → k < length sinks → (get_or sinks k d).id ≡ id → ⊥) → having sinks id ≡ 0
none_has [] id none = refl
none_has (sink ∷ sinks) id none =
    let here : (id == sink.id) ≡ false = differ id sink.id (λ e. none 0 sink (omega arith) (sym e)) in
    omega (
      arith,
      sum_by-cons (λ (s : Sink). cond (id == s.id) 1 0) sink sinks,
      ap one_if here,
      none_has sinks id (λ k d h e. none (suc k) d (omega (arith, h)) e),
    )
  where
    differ : (a b : ℕ) → (a ≡ b → ⊥) → (a == b) ≡ false
    differ a b h = grind (arith, nat_tests, h)

one_has : (sinks : List Sink) → HasDistinctIds (λ (s : Sink). s.id) sinks → (sink : Sink) → Contains sinks sink
    → having sinks sink.id ≡ 1
one_has [] distinct sink (k, h, at) = absurd (omega (arith, h))
one_has (q ∷ sinks) distinct sink (zero, h, at) =
    let none : having sinks sink.id ≡ 0 =
    none_has sinks sink.id (λ k d within e. distinct 0 (suc k) d (omega arith) (omega (arith, within)) (ap (λ (s : Sink). s.id) at ∙ sym e)) in
    let here : (sink.id == q.id) ≡ true = same sink.id q.id (ap (λ (s : Sink). s.id) (sym at)) in
    omega (arith, sum_by-cons (λ (s : Sink). cond (sink.id == s.id) 1 0) q sinks, ap one_if here, none)
  where
    same : (a b : ℕ) → a ≡ b → (a == b) ≡ true
    same a b h = grind (arith, nat_tests, h)
one_has (q ∷ sinks) distinct sink (suc k, h, at) =
    let here : (sink.id == q.id) ≡ false =
    differ sink.id q.id (λ e. distinct 0 (suc k) sink (omega arith) h (sym e ∙ ap (λ (s : Sink). s.id) (sym at))) in
    omega (
      arith,
      sum_by-cons (λ (s : Sink). cond (sink.id == s.id) 1 0) q sinks,
      ap one_if here,
      one_has sinks (λ a b d less within. distinct (suc a) (suc b) d (omega (arith, less)) (omega (arith, within))) sink
          (k, omega (arith, h), at),
    )
  where
    differ : (a b : ℕ) → (a ≡ b → ⊥) → (a == b) ≡ false
    differ a b h = grind (arith, nat_tests, h)

-- so it is with the id of each leaf
module _ (sinks : List Sink) (distinct : HasDistinctIds (λ (s : Sink). s.id) sinks) where
  abbrev Names : TreeNode → Type 0
  Names node = MatchOption (leaf_id node.kind) (Unit {0}) (IsSinkAt sinks node)

  leaf_has : (nodes : List TreeNode) → All Names nodes
      → All (λ id. having sinks id ≡ 1) (leaf_ids nodes)
  leaf_has [] all = All-nil (λ id. having sinks id ≡ 1)
  leaf_has (node ∷ nodes) all =
      by (leaf_id node.kind) (All-head Names node nodes all) (leaf_has nodes (All-tail Names node nodes all))
    where
      by : (o : Option ℕ) → MatchOption o (Unit {0}) (IsSinkAt sinks node) → All (λ id. having sinks id ≡ 1) (leaf_ids nodes)
          → All (λ id. having sinks id ≡ 1) (cons_option o (leaf_ids nodes))
      by None names rest = rest
      by (Some id) names rest =
          All-cons (λ x. having sinks x ≡ 1) id (leaf_ids nodes)
          (ap (having sinks) (sym names.id_is) ∙ one_has sinks distinct names.sink names.among) rest

-- the leaves of a tree are its tips, one more than the pairs
own_id : (n : TreeNode) → tree_children n ≡ None → length (leaf_ids (n ∷ [])) ≡ 1
own_id n is = by n.kind is
  where
    by : (k : NodeKind) → children_of k ≡ None → length (cons_option (leaf_id k) []) ≡ 1
    by (Leaf id sink) e = refl
    by (Pair left right buffer) e = cc

no_id : (n : TreeNode) (c : ℕ × ℕ) → tree_children n ≡ Some c → length (leaf_ids (n ∷ [])) ≡ 0
no_id n c is = by n.kind is
  where
    by : (k : NodeKind) → children_of k ≡ Some c → length (cons_option (leaf_id k) []) ≡ 0
    by (Leaf id sink) e = cc
    by (Pair left right buffer) e = refl

two_each : (offset : ℕ) (t : BinaryTree TreeNode) → IsNumbered tree_children offset t → 2 * length (leaf_ids (labels t)) ≡ size t + 1
unfolding labels size IsNumbered
two_each offset (tip n) numbered = omega (arith, own_id n numbered)
two_each offset (fork l r n) numbered =
    let id : TreeNode → Option ℕ = λ node. leaf_id node.kind in
    let parts : leaf_ids (labels l ++ labels r ++ n ∷ []) ≡ leaf_ids (labels l) ++ leaf_ids (labels r) ++ leaf_ids (n ∷ []) =
    filter_map-append id (labels l ++ labels r) (n ∷ [])
    ∙ ap (λ ids. ids ++ leaf_ids (n ∷ [])) (filter_map-append id (labels l) (labels r)) in
    let long : length (leaf_ids (labels l) ++ leaf_ids (labels r) ++ leaf_ids (n ∷ []))
    ≡ length (leaf_ids (labels l)) + length (leaf_ids (labels r)) + length (leaf_ids (n ∷ [])) =
    simp length-append (omega arith) in
    omega (
      arith,
      ap length parts,
      long,
      no_id n _ (numbered.2),
      two_each offset l (numbered.0),
      two_each (offset + size l) r (numbered.1),
    )

pub one_leaf_a_sink : SoundTreesHaveOneLeafASink
one_leaf_a_sink i nodes valid ok sound =
    let w : Whole tree_children nodes = whole_of tree_children nodes ok in
    let leaves : 2 * length (leaf_ids nodes) ≡ size w.tree + 1 =
    subst (λ ns. 2 * length (leaf_ids ns) ≡ size w.tree + 1) w.labels_are (two_each 0 w.tree w.numbered) in
    let by_sinks : sum_by (times (leaf_ids nodes)) i.sinks ≡ length i.sinks =
    sum_ones (times (leaf_ids nodes)) i.sinks sound.sinks.once in
    let by_leaves : sum_by (having i.sinks) (leaf_ids nodes) ≡ length (leaf_ids nodes) =
    sum_ones (having i.sinks) (leaf_ids nodes) (leaf_has i.sinks valid.ids nodes sound.sinks.leaves) in
    omega (arith, leaves, w.size_is, by_sinks, by_leaves, counted_twice (leaf_ids nodes) i.sinks)
