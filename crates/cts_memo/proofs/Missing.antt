-- How many pairs of a shape have no number.
use Rattle.std.proofs.Common.{◌≡◌, ℕ, suc, ◌+◌, ◌-◌, ◌<◌, ◌≤◌, ◌==◌, Bool, true, false, cond, List, [], ◌∷◌, ◌++◌, length, get_or, count_by, is_none, is_some, Option, Some, None, IsSome, refl, sym, ap, ◌∙◌, subst, inl, inr, arith, true≢false, All}
use Rattle.std.proofs.lemmas.Bool.{cases_lt}
use Rattle.std.proofs.lemmas.Bool.Decides.{Decides-eqb}
use Rattle.std.proofs.lemmas.List.Elements.{filter_map-append, All-append, All-cons}
use Rattle.std.proofs.lemmas.List.Sums.{sum_by-append}
use Rattle.std.specs.Option.{option_and_then}
use Rattle.std.proofs.lemmas.Option.{slice_get_within, get_or_from_slice_get}
use mathlib.Core.List.{IsPrefix}
use Rattle.cts_units.specs.declared.params.Sink.{Sink}
use Rattle.cts_postorder.specs.BinaryTree.{BinaryTree, tip, fork, depth, labels, subtrees}
use Rattle.cts_postorder.specs.PostOrder.{trees_of, root_of}
use Rattle.cts_postorder.proofs.Lists.{Whole, whole_of}
use Rattle.cts_topo.specs.declared.shape.ShapeNode.{ShapeNode}
use Rattle.cts_topo.specs.declared.shape.ShapeNode.TheVariants.{Leaf, Pair}
use Rattle.cts_topo.specs.Shape.{children, leaf_sink, leaf_sinks}
use Rattle.cts_topo.proofs.Ranks.{count_by-cons}
use Rattle.cts_up.specs.Plan.{sink_of}
use Rattle.cts_memo.specs.declared.entry.MemoEntry.{MemoEntry}
use Rattle.cts_memo.specs.Keys.{leaf_key}
use Rattle.cts_memo.specs.Numbers.{number_of, pair_number, position_of, is_missing, missing_in, AreKnown}
use Rattle.cts_memo.specs.Laws.{NothingIsMissing, RootTellsAll, DifferAt, OneChangeMissesDepth}
use Rattle.cts_memo.proofs.Numbering.{number_stays, pair_parts}

one_le : (a b : Bool) → (a ≡ true → b ≡ true) → ◌≤◌ (cond a 1 0) (cond b 1 0)
one_le false b has = omega arith
one_le true b has = let here : ◌≡◌ {A = ℕ} (cond b 1 0) 1 = ap (λ c. cond c 1 0) (has refl) in omega (arith, here)

at_most_one : (b : Bool) → ◌≤◌ (cond b 1 0) 1
at_most_one true = omega arith
at_most_one false = omega arith

module _ {X : Type 0} where
  pub count_by-append : (p : X → Bool) (xs ys : List X) → count_by p (xs ++ ys) ≡ count_by p xs + count_by p ys
  count_by-append p xs ys = sum_by-append (λ x. cond (p x) 1 0) xs ys

  count_none : (p : X → Bool) (xs : List X) → ((k : ℕ) (d : X) → k < length xs → p (get_or xs k d) ≡ false) → count_by p xs ≡ 0
  count_none p [] fails = refl
  count_none p (x ∷ xs) fails =
      let here : ◌≡◌ {A = ℕ} (cond (p x) 1 0) 0 = ap (λ b. cond b 1 0) (fails 0 x (omega arith)) in
      omega (arith, count_by-cons p x xs, here, count_none p xs (λ k d h. fails (suc k) d (omega arith)))

  count_le : (p q : X → Bool) → ((x : X) → p x ≡ true → q x ≡ true) → (xs : List X) → count_by p xs ≤ count_by q xs
  count_le p q has [] = omega arith
  count_le p q has (x ∷ xs) =
      omega (arith, count_by-cons p x xs, count_by-cons q x xs, one_le (p x) (q x) (has x), count_le p q has xs)

-- a tree with a number isn't missing
none_some : (o : Option ℕ) → IsSome o → is_none o ≡ false
none_some None some = absurd (true≢false (sym some))
none_some (Some n) some = refl

pub known_here : (seen : List MemoEntry) (sinks : List Sink) (t : BinaryTree ShapeNode) → IsSome (number_of seen sinks t)
    → is_missing seen sinks t ≡ false
unfolding is_missing
known_here seen sinks (tip n) some = refl
known_here seen sinks (fork l r n) some = none_some (number_of seen sinks (fork l r n)) some

pub known_missing : NothingIsMissing
known_missing seen sinks nodes known =
    count_none (is_missing seen sinks) (trees_of children nodes) (λ k d h. known_here seen sinks (get_or (trees_of children nodes) k d) (known k d h))

-- one that is missing in a longer list is missing in the shorter one
missing_before : (seen longer : List MemoEntry) (sinks : List Sink) (t : BinaryTree ShapeNode) → IsPrefix seen longer
    → is_missing longer sinks t ≡ true → is_missing seen sinks t ≡ true
unfolding is_missing
missing_before seen longer sinks (tip n) more is = is
missing_before seen longer sinks (fork l r n) more is = by (number_of seen sinks (fork l r n)) refl is
  where
    by : (o : Option ℕ) → number_of seen sinks (fork l r n) ≡ o → is_none (number_of longer sinks (fork l r n)) ≡ true
        → is_none (number_of seen sinks (fork l r n)) ≡ true
    by None at is = ap is_none at
    by (Some k) at is =
        let there = number_stays seen longer sinks (fork l r n) k more at in
        absurd (true≢false (sym is ∙ ap is_none there))

pub missing_falls : (seen longer : List MemoEntry) (sinks : List Sink) (trees : List (BinaryTree ShapeNode)) → IsPrefix seen longer
    → missing_in longer sinks trees ≤ missing_in seen sinks trees
missing_falls seen longer sinks trees more = count_le (is_missing longer sinks) (is_missing seen sinks) (λ t is. missing_before seen longer sinks t more is) trees

module _ (seen : List MemoEntry) (sinks : List Sink) where
  -- the pairs of a tree without a number: those of its parts, and the tree itself
  pub missing-fork : (l r : BinaryTree ShapeNode) (n : ShapeNode)
      → missing_in seen sinks (subtrees (fork l r n))
      ≡ missing_in seen sinks (subtrees l) + missing_in seen sinks (subtrees r) + cond (is_none (number_of seen sinks (fork l r n))) 1 0
  unfolding subtrees is_missing
  missing-fork l r n =
      omega (
        arith,
        count_by-append (is_missing seen sinks) (subtrees l ++ subtrees r) (fork l r n ∷ []),
        count_by-append (is_missing seen sinks) (subtrees l) (subtrees r),
        count_by-cons (is_missing seen sinks) (fork l r n) [],
      )

  pub missing-tip : (n : ShapeNode) → missing_in seen sinks (subtrees (tip n)) ≡ 0
  unfolding subtrees is_missing
  missing-tip n = omega (arith, count_by-cons (is_missing seen sinks) (tip n) [])

  all_one : (u : BinaryTree ShapeNode) → IsSome (number_of seen sinks u) → All (λ u. IsSome (number_of seen sinks u)) (u ∷ [])
  all_one u some = All-cons (λ u. IsSome (number_of seen sinks u)) u [] some (λ k d h. absurd (omega arith))

  -- a tree with a number has all its parts' numbers
  pub all_known : (t : BinaryTree ShapeNode) (n : ℕ) → number_of seen sinks t ≡ Some n → All (λ u. IsSome (number_of seen sinks u)) (subtrees t)
  unfolding subtrees number_of
  all_known (tip k) n at = all_one (tip k) (ap is_some at)
  all_known (fork l r k) n at =
      let parts = pair_parts seen (number_of seen sinks l) (number_of seen sinks r) n at in
      All-append (λ u. IsSome (number_of seen sinks u)) (subtrees l ++ subtrees r) (fork l r k ∷ [])
      (All-append (λ u. IsSome (number_of seen sinks u)) (subtrees l) (subtrees r) (all_known l (parts.0) (parts.2)) (all_known r (parts.1) (parts.3)))
      (all_one (fork l r k) (ap is_some at))

  -- so it misses nothing
  pub known_tree : (t : BinaryTree ShapeNode) (n : ℕ) → number_of seen sinks t ≡ Some n → missing_in seen sinks (subtrees t) ≡ 0
  known_tree t n at =
      count_none (is_missing seen sinks) (subtrees t)
      (λ k d h. known_here seen sinks (get_or (subtrees t) k d) (all_known t n at k d h))

-- the tree of a shape is its root
pub root_is : (nodes : List ShapeNode) (w : Whole children nodes) (t : BinaryTree ShapeNode) → root_of children nodes ≡ Some t → w.tree ≡ t
root_is nodes w t root = let one : Some (w.tree) ≡ Some t = sym w.root_is ∙ root in cc

pub root_known : RootTellsAll
root_known seen sinks count nodes t n over root at =
    let w : Whole children nodes = whole_of children nodes over.post_order in
    let same = root_is nodes w t root in
    subst (λ ts. All (λ u. IsSome (number_of seen sinks u)) ts) (ap subtrees (sym same) ∙ sym w.trees_are) (all_known seen sinks t n at)

-- how often a tree's leaves name a sink
abbrev names : ℕ → BinaryTree ShapeNode → ℕ
names s t = count_by (λ named. named == s) (leaf_sinks (labels t))

names-fork : (s : ℕ) (l r : BinaryTree ShapeNode) (n : ShapeNode) → names s l + names s r ≤ names s (fork l r n)
unfolding labels
names-fork s l r n =
    let p = λ (named : ℕ). named == s in
    omega (
      arith,
      ap (count_by p) (filter_map-append leaf_sink (labels l ++ labels r) (n ∷ [])),
      ap (count_by p) (filter_map-append leaf_sink (labels l) (labels r)),
      count_by-append p (leaf_sinks (labels l ++ labels r)) (leaf_sinks (n ∷ [])),
      count_by-append p (leaf_sinks (labels l)) (leaf_sinks (labels r)),
    )

module _ (seen : List MemoEntry) (sinks sinks' : List Sink) (s : ℕ) (differ : DifferAt s sinks sinks') where
  leaf_alike : (n : ShapeNode) → names s (tip n) ≡ 0 → sink_of sinks' n ≡ sink_of sinks n
  unfolding labels
  leaf_alike (Leaf k) none = differ.others k (λ is. own is)
    where
      own : k ≡ s → ⊥
      own is =
          let here : ◌≡◌ {A = ℕ} (cond (k == s) 1 0) 1 = ap (λ b. cond b 1 0) ((Decides-eqb k s).1 is) in
          omega (arith, count_by-cons (λ named. named == s) k [], here, none)
  leaf_alike (Pair l r) none = refl

  -- a subtree that doesn't name the sink has the number that it had
  pub untouched : (t : BinaryTree ShapeNode) → names s t ≡ 0 → number_of seen sinks' t ≡ number_of seen sinks t
  unfolding number_of
  untouched (tip n) none = ap (option_and_then (λ sink. position_of seen (leaf_key sink))) (leaf_alike n none)
  untouched (fork l r n) none =
      let left = untouched l (omega (arith, names-fork s l r n, none)) in
      let right = untouched r (omega (arith, names-fork s l r n, none)) in
      λ k. pair_number seen (left k) (right k)

  still_known : (t : BinaryTree ShapeNode) (n : ℕ) → number_of seen sinks t ≡ Some n → names s t ≡ 0 → missing_in seen sinks' (subtrees t) ≡ 0
  still_known t n at none = known_tree seen sinks' t n (untouched t none ∙ at)

  -- one that names it once misses at most the pairs above it
  pub touched : (t : BinaryTree ShapeNode) (n : ℕ) → number_of seen sinks t ≡ Some n → names s t ≤ 1 → missing_in seen sinks' (subtrees t) ≤ depth t
  unfolding number_of depth
  touched (tip k) n at once = omega (arith, missing-tip seen sinks' k)
  touched (fork l r k) n at once =
      let parts = pair_parts seen (number_of seen sinks l) (number_of seen sinks r) n at in
      elim (cases_lt 0 (names s l)) [
        | inl some ↦
            let none : names s r ≡ 0 = omega (arith, names-fork s l r k) in
            omega (
              arith,
              missing-fork seen sinks' l r k,
              at_most_one (is_none (number_of seen sinks' (fork l r k))),
              touched l (parts.0) (parts.2) (omega (arith, names-fork s l r k)),
              still_known r (parts.1) (parts.3) none,
            )
        | inr few ↦
            let none : names s l ≡ 0 = omega arith in
            omega (
              arith,
              missing-fork seen sinks' l r k,
              at_most_one (is_none (number_of seen sinks' (fork l r k))),
              touched r (parts.1) (parts.3) (omega (arith, names-fork s l r k)),
              still_known l (parts.0) (parts.2) none,
            )
      ]

some_number : (o : Option ℕ) → IsSome o → (n : ℕ) × (o ≡ Some n)
some_number None some = absurd (true≢false (sym some))
some_number (Some n) some = (n, refl)

-- the root of a known shape has a number
root_number_known : (seen : List MemoEntry) (sinks : List Sink) (nodes : List ShapeNode) (w : Whole children nodes) → AreKnown seen sinks nodes
    → (n : ℕ) × (number_of seen sinks w.tree ≡ Some n)
unfolding root_of
root_number_known seen sinks nodes w known =
    let at = slice_get_within (trees_of children nodes) (length nodes - 1) w.tree w.root_is in
    let here = get_or_from_slice_get (trees_of children nodes) (length nodes - 1) w.tree w.tree w.root_is in
    some_number (number_of seen sinks w.tree)
    (subst (λ t. IsSome (number_of seen sinks t)) here (known (length nodes - 1) w.tree at))

pub change_misses : OneChangeMissesDepth
change_misses seen sinks sinks' s nodes t over root differ known =
    let w : Whole children nodes = whole_of children nodes over.post_order in
    let same = root_is nodes w t root in
    let at = root_number_known seen sinks nodes w known in
    let once : names s w.tree ≤ 1 = omega (arith, ap (λ ns. count_by (λ named. named == s) (leaf_sinks ns)) w.labels_are, over.once s differ.place) in
    omega (arith, ap (missing_in seen sinks') w.trees_are, touched seen sinks sinks' s differ w.tree (at.0) (at.1) once, ap depth same)
