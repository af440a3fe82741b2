-- Passes that stop at a failure: which number it is, and where the root stands.
use Rattle.std.proofs.Common.{◌≡◌, ℕ, zero, suc, ◌+◌, ◌-◌, ◌<◌, ◌≤◌, inl, inr, ⊎_elim, List, [], ◌∷◌, ◌++◌, map, take, drop, length, get_or, slice_get, Option, Some, sym, ap, subst, ◌∙◌, arith, length-drop, get_or-take}
use Rattle.std.specs.List.{All}
use Rattle.std.proofs.lemmas.List.{drop_more, drop_all, get_or-drop, length-take-le}
use Rattle.std.proofs.lemmas.List.Elements.{All-cons, All-nil, All-take}
use Rattle.std.proofs.lemmas.Bool.{cases_lt}
use Rattle.std.proofs.lemmas.Option.{slice_get-get_or, slice_get_within, get_or_from_slice_get}
use Rattle.cts_postorder.specs.BinaryTree.{BinaryTree, tip, fork, size, subtrees}
use Rattle.cts_postorder.specs.PostOrder.{IsPostOrder, trees_of, root_of}
use Rattle.cts_postorder.specs.Occurrence.{Occurrence, occurrences_of}
use Rattle.cts_postorder.specs.Pass.{FailsOrAtRoot, IsLeastFailure, IsGreatestFailure}
use Rattle.cts_postorder.proofs.Sizes.{length-subtrees}
use Rattle.cts_postorder.proofs.Growth.{length-trees_of}
use Rattle.cts_postorder.proofs.Places.{place, in_left, in_right, at_root, past, get_or-left, get_or-right, get_or-root}
use Rattle.cts_postorder.proofs.Lists.{Whole, whole_of, length-occurrences_of}

-- a subtree has no more nodes than stand up to its number
pub size-subtree : {N : Type 0} (t : BinaryTree N) (j : ℕ) (d : BinaryTree N) → j < size t
    → size (get_or (subtrees t) j d) ≤ j + 1
unfolding subtrees size
size-subtree (tip n) zero d h = omega arith
size-subtree (tip n) (suc j) d h = absurd (omega arith)
size-subtree (fork l r n) j d h =
    elim (place (size l) (size r) j) [
      | in_left w ↦
          let here : size (get_or (subtrees l ++ subtrees r ++ fork l r n ∷ []) j d) ≡ size (get_or (subtrees l) j d) =
          ap size (get_or-left (subtrees l) (subtrees r) (fork l r n) j d (omega (arith, length-subtrees l))) in
          omega (arith, here, size-subtree l j d w)
      | in_right i is w ↦
          let here : size (get_or (subtrees l ++ subtrees r ++ fork l r n ∷ []) j d) ≡ size (get_or (subtrees r) i d) =
          ap (λ k. size (get_or (subtrees l ++ subtrees r ++ fork l r n ∷ []) k d)) is
          ∙ ap size (get_or-right (subtrees l) (subtrees r) (fork l r n) (size l) i d (length-subtrees l) (omega (arith, length-subtrees r))) in
          omega (arith, here, size-subtree r i d w)
      | at_root is ↦
          let here : size (get_or (subtrees l ++ subtrees r ++ fork l r n ∷ []) j d) ≡ size l + size r + 1 =
          ap (λ k. size (get_or (subtrees l ++ subtrees r ++ fork l r n ∷ []) k d)) is
          ∙ ap size (get_or-root (subtrees l) (subtrees r) (fork l r n) (size l) (size r) d (length-subtrees l) (length-subtrees r)) in
          omega (arith, here)
      | past w ↦ absurd (omega arith)
    ]

module _ {N : Type 0} (kids : N → Option (ℕ × ℕ)) (nodes : List N) where
  -- so has the tree at a number
  pub size-tree : IsPostOrder (map kids nodes) → (k : ℕ) (d : BinaryTree N) → k < length nodes
      → size (get_or (trees_of kids nodes) k d) ≤ k + 1
  size-tree ok k d h =
      let w : Whole kids nodes = whole_of kids nodes ok in
      let same : size (get_or (trees_of kids nodes) k d) ≡ size (get_or (subtrees w.tree) k d) =
      ap (λ ts. size (get_or ts k d)) w.trees_are in
      omega (arith, same, size-subtree w.tree k d (omega (arith, w.size_is)))

  -- and no tree before the last is the root
  pub not_root_before : IsPostOrder (map kids nodes) → (k : ℕ) (t : BinaryTree N) → k + 1 < length nodes
      → slice_get (trees_of kids nodes) k ≡ Some t → ¬ (root_of kids nodes ≡ Some t)
  not_root_before ok k t h here = λ root_is.
      let w : Whole kids nodes = whole_of kids nodes ok in
      let names : Some w.tree ≡ Some t = sym w.root_is ∙ root_is in
      let same : w.tree ≡ t = cc in
      let counted : size (get_or (trees_of kids nodes) k t) ≡ size w.tree =
      ap size (get_or_from_slice_get (trees_of kids nodes) k t t here ∙ sym same) in
      absurd (omega (arith, counted, size-tree ok k t (omega arith), w.size_is))

  -- the tree at the last number is the root
  pub root_is_last : (k : ℕ) (t : BinaryTree N) → k + 1 ≡ length nodes → slice_get (trees_of kids nodes) k ≡ Some t
      → root_of kids nodes ≡ Some t
  unfolding root_of
  root_is_last k t last here =
      let number : length nodes - 1 ≡ k = omega arith in ap (slice_get (trees_of kids nodes)) number ∙ here

module _ {N : Type 0} (kids : N → Option (ℕ × ℕ)) (nodes : List N) (Fails : Occurrence N → Type 0) where
  -- before the first step nothing has failed
  pub none_failed_at_start : IsPostOrder (map kids nodes) → (k : ℕ) → length nodes ≤ k
      → All (λ o. ¬ Fails o) (drop k (occurrences_of kids nodes))
  none_failed_at_start ok k h =
      subst (All (λ o. ¬ Fails o)) (sym (drop_all k (occurrences_of kids nodes) (omega (arith, length-occurrences_of kids nodes ok))))
      (All-nil _)

  -- one number further down
  pub none_failed_next : IsPostOrder (map kids nodes) → (k : ℕ) (o : Occurrence N) → k < length nodes
      → get_or (occurrences_of kids nodes) k o ≡ o → ¬ Fails o
      → All (λ o. ¬ Fails o) (drop (k + 1) (occurrences_of kids nodes))
      → All (λ o. ¬ Fails o) (drop k (occurrences_of kids nodes))
  none_failed_next ok k o h here right after =
      subst (All (λ o. ¬ Fails o))
      (sym (drop_more (occurrences_of kids nodes) k o (omega (arith, length-occurrences_of kids nodes ok))))
      (All-cons (λ o. ¬ Fails o) _ _ (subst (λ p. ¬ Fails p) (sym here) right) after)

  -- where the next one fails, its number is the greatest
  pub greatest_failure : IsPostOrder (map kids nodes) → (k : ℕ) (o : Occurrence N) → k < length nodes
      → get_or (occurrences_of kids nodes) k o ≡ o → Fails o
      → All (λ o. ¬ Fails o) (drop (k + 1) (occurrences_of kids nodes)) → IsGreatestFailure kids nodes Fails k
  greatest_failure ok k o h here fails after = record {
    here = o;
    found = slice_get-get_or (occurrences_of kids nodes) k o (omega (arith, length-occurrences_of kids nodes ok)) ∙ ap Some here;
    fails = fails;
    none_after = after;
  }

  -- where none fails there is no greatest
  pub none_greatest : (k : ℕ) → All (λ o. ¬ Fails o) (occurrences_of kids nodes) → ¬ IsGreatestFailure kids nodes Fails k
  none_greatest k all f =
      let os : List (Occurrence N) = occurrences_of kids nodes in
      let within : k < length os = slice_get_within os k f.here f.found in
      all k f.here within (subst Fails (sym (get_or_from_slice_get os k f.here f.here f.found)) f.fails)

  not_after : (j k : ℕ) → IsGreatestFailure kids nodes Fails j → IsGreatestFailure kids nodes Fails k → ¬ (j < k)
  not_after j k f g h =
      let os : List (Occurrence N) = occurrences_of kids nodes in
      let within : k < length os = slice_get_within os k g.here g.found in
      let place : j + 1 + (k - (j + 1)) ≡ k = omega arith in
      let is : get_or (drop (j + 1) os) (k - (j + 1)) g.here ≡ g.here =
      get_or-drop (j + 1) os (k - (j + 1)) g.here ∙ ap (λ i. get_or os i g.here) place
      ∙ get_or_from_slice_get os k g.here g.here g.found in
      f.none_after (k - (j + 1)) g.here (omega (arith, length-drop (j + 1) os)) (subst Fails (sym is) g.fails)

  pub greatest_failure_unique : (j k : ℕ) → IsGreatestFailure kids nodes Fails j → IsGreatestFailure kids nodes Fails k
      → j ≡ k
  greatest_failure_unique j k f g =
      elim (cases_lt j k) [
        | inl h ↦ absurd (not_after j k f g h)
        | inr h ↦ elim (cases_lt k j) [
          | inl w ↦ absurd (not_after k j g f w)
          | inr w ↦ omega arith
        ]
      ]

-- A pass upward that fails where P holds of a tree, and at the root where Q holds of it, too.
module _ {N : Type 0} (kids : N → Option (ℕ × ℕ)) (nodes : List N) (ok : IsPostOrder (map kids nodes))
    (P Q : BinaryTree N → Type 0) where
  -- before the last number nothing fails but by P
  none_by_root : (k : ℕ) → k < length nodes → All (λ t. ¬ P t) (take k (trees_of kids nodes))
      → All (λ t. ¬ FailsOrAtRoot kids nodes P Q t) (take k (trees_of kids nodes))
  none_by_root k h none = λ j d w.
      let trees : List (BinaryTree N) = trees_of kids nodes in
      let long : length trees ≡ length nodes = length-trees_of kids nodes in
      let front : length (take k trees) ≡ k = length-take-le k trees (omega arith) in
      let is : get_or (take k trees) j d ≡ get_or trees j d = get_or-take k trees j d (omega arith) in
      ⊎_elim (none j d w) (λ q. not_root_before kids nodes ok j (get_or (take k trees) j d) (omega arith)
      (slice_get-get_or trees j d (omega arith) ∙ ap Some (sym is)) q.0)

  -- the least failure by P is the least of all
  pub failed_before_root : (k : ℕ) → IsLeastFailure kids nodes P k → IsLeastFailure kids nodes (FailsOrAtRoot kids nodes P Q) k
  failed_before_root k f = record {
    tree = f.tree;
    found = f.found;
    fails = inl f.fails;
    none_before = none_by_root k
        (let within : k < length (trees_of kids nodes) = slice_get_within (trees_of kids nodes) k f.tree f.found in
        omega (arith, length-trees_of kids nodes)) f.none_before;
  }

  -- where nothing fails by P, the root may
  pub failed_at_root : (k : ℕ) (root : BinaryTree N) → k + 1 ≡ length nodes → root_of kids nodes ≡ Some root
      → All (λ t. ¬ P t) (trees_of kids nodes) → Q root → IsLeastFailure kids nodes (FailsOrAtRoot kids nodes P Q) k
  unfolding root_of
  failed_at_root k root last root_is none q =
      let number : length nodes - 1 ≡ k = omega arith in record {
        tree = root;
        found = sym (ap (slice_get (trees_of kids nodes)) number) ∙ root_is;
        fails = inr (root_is, q);
        none_before = none_by_root k (omega arith) (All-take (λ t. ¬ P t) k (trees_of kids nodes) none);
      }

  -- and where it doesn't, nothing fails
  pub none_failed_at_root : (root : BinaryTree N) → root_of kids nodes ≡ Some root → All (λ t. ¬ P t) (trees_of kids nodes)
      → ¬ Q root → All (λ t. ¬ FailsOrAtRoot kids nodes P Q t) (trees_of kids nodes)
  none_failed_at_root root root_is none right = λ j d w.
      ⊎_elim (none j d w) (λ q.
      let names : Some root ≡ Some (get_or (trees_of kids nodes) j d) = sym root_is ∙ q.0 in
      let same : root ≡ get_or (trees_of kids nodes) j d = cc in
      right (subst Q (sym same) q.1))
