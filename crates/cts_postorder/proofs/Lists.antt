-- What is known of a list of nodes in post-order, by number.
use Rattle.std.proofs.Common.{◌≡◌, ℕ, ◌+◌, ◌-◌, ◌<◌, List, [], ◌∷◌, map, length, get_or, slice_get, append-nil, Option, Some, refl, sym, ap, subst, ◌∙◌, arith}
use Rattle.std.specs.Option.{option_map_or}
use Rattle.std.proofs.lemmas.List.{get_or-map}
use Rattle.std.proofs.lemmas.Option.{slice_get-get_or}
use Rattle.cts_postorder.specs.BinaryTree.{BinaryTree, tip, fork, size, labels, subtrees, root_number, IsNumbered}
use Rattle.cts_postorder.specs.PostOrder.{IsPostOrder, trees_of, root_of}
use Rattle.cts_postorder.specs.Occurrence.{Occurrence, occurrence, occurrences, occurrences_of}
use Rattle.cts_postorder.proofs.Sizes.{size_pos, length-labels, length-subtrees, length-occurrences, root_number-next, map-here-occurrences}
use Rattle.cts_postorder.proofs.Spelling.{Spelling, spelling_of, trees_of-labels, get_or-root_number}
use Rattle.cts_postorder.proofs.Places.{PairAt, pair_at}

-- the tree that a list of nodes in post-order spells, and what it gives at each number
pub record Whole {N : Type 0} (kids : N → Option (ℕ × ℕ)) (nodes : List N) : Type 0 where
  pub tree : BinaryTree N
  pub numbered : IsNumbered kids 0 tree
  pub labels_are : labels tree ≡ nodes
  pub size_is : size tree ≡ length nodes
  pub trees_are : trees_of kids nodes ≡ subtrees tree
  pub root_is : root_of kids nodes ≡ Some tree
  pub occurrences_are : occurrences_of kids nodes ≡ occurrences [] tree

module _ {N : Type 0} (kids : N → Option (ℕ × ℕ)) where
  -- the root of a numbered tree's nodes is the tree
  pub root_of-labels : (t : BinaryTree N) → IsNumbered kids 0 t → root_of kids (labels t) ≡ Some t
  unfolding root_of
  root_of-labels t numbered =
      let last : length (labels t) - 1 ≡ root_number 0 t = omega (arith, length-labels t, root_number-next 0 t) in
      let inside : root_number 0 t < length (subtrees t) = omega (arith, length-subtrees t, root_number-next 0 t) in
      let found : get_or (subtrees t) (root_number 0 t) t ≡ t =
      ap (λ ts. get_or ts (root_number 0 t) t) (sym (append-nil (subtrees t))) ∙ get_or-root_number [] t [] t 0 refl in
      ap (λ ts. slice_get ts (length (labels t) - 1)) (trees_of-labels kids t numbered)
      ∙ ap (slice_get (subtrees t)) last ∙ slice_get-get_or (subtrees t) (root_number 0 t) t inside ∙ ap Some found

  pub whole_of : (nodes : List N) → IsPostOrder (map kids nodes) → Whole kids nodes
  unfolding occurrences_of
  whole_of nodes ok =
      let s : Spelling kids nodes = spelling_of kids nodes ok in
      let root : root_of kids nodes ≡ Some s.whole = ap (root_of kids) (sym s.spelled) ∙ root_of-labels s.whole s.numbered in
      record {
        tree = s.whole;
        numbered = s.numbered;
        labels_are = s.spelled;
        size_is = sym (length-labels s.whole) ∙ ap length s.spelled;
        trees_are = ap (trees_of kids) (sym s.spelled) ∙ trees_of-labels kids s.whole s.numbered;
        root_is = root;
        occurrences_are = ap (λ o. option_map_or (occurrences []) o []) root;
      }

  pub length_pos : (nodes : List N) → IsPostOrder (map kids nodes) → 0 < length nodes
  length_pos nodes ok =
      let w : Whole kids nodes = whole_of nodes ok in omega (arith, size_pos w.tree, w.size_is)

  pub length-occurrences_of : (nodes : List N) → IsPostOrder (map kids nodes)
      → length (occurrences_of kids nodes) ≡ length nodes
  length-occurrences_of nodes ok =
      let w : Whole kids nodes = whole_of nodes ok in
      ap length w.occurrences_are ∙ length-occurrences [] w.tree ∙ w.size_is

  -- the occurrences carry the trees
  pub map-here-occurrences_of : (nodes : List N) → IsPostOrder (map kids nodes)
      → map (λ (o : Occurrence N). o.here) (occurrences_of kids nodes) ≡ trees_of kids nodes
  map-here-occurrences_of nodes ok =
      let w : Whole kids nodes = whole_of nodes ok in
      ap (map (λ (o : Occurrence N). o.here)) w.occurrences_are ∙ map-here-occurrences [] w.tree ∙ sym w.trees_are

  pub trees_of-here : (nodes : List N) → IsPostOrder (map kids nodes) → (k : ℕ) (d : BinaryTree N) (o : Occurrence N)
      → k < length nodes → get_or (trees_of kids nodes) k d ≡ (get_or (occurrences_of kids nodes) k o).here
  trees_of-here nodes ok k d o h =
      ap (λ ts. get_or ts k d) (sym (map-here-occurrences_of nodes ok))
      ∙ get_or-map (λ (x : Occurrence N). x.here) (occurrences_of kids nodes) k o d (omega (arith, length-occurrences_of nodes ok))

-- The pair of number k names the children p. The right child is the node before it, the left child the node before
-- all of the right part, and both have this pair as the nearest above them.
pub record IsPair {N : Type 0} (kids : N → Option (ℕ × ℕ)) (nodes : List N) (k : ℕ) (p : ℕ × ℕ) (n : N) : Type 0 where
  pub left : BinaryTree N
  pub right : BinaryTree N
  pub above : List (BinaryTree N)
  pub left_number : p.0 + size right + 1 ≡ k
  pub right_number : p.1 + 1 ≡ k
  pub left_below : p.0 < k
  pub right_below : p.1 < k
  pub tree : (d : BinaryTree N) → get_or (trees_of kids nodes) k d ≡ fork left right n
  pub left_tree : (d : BinaryTree N) → get_or (trees_of kids nodes) (p.0) d ≡ left
  pub right_tree : (d : BinaryTree N) → get_or (trees_of kids nodes) (p.1) d ≡ right
  pub own : (d : Occurrence N) → get_or (occurrences_of kids nodes) k d ≡ occurrence above (fork left right n)
  pub at_left : (d : Occurrence N)
      → get_or (occurrences_of kids nodes) (p.0) d ≡ occurrence (fork left right n ∷ above) left
  pub at_right : (d : Occurrence N)
      → get_or (occurrences_of kids nodes) (p.1) d ≡ occurrence (fork left right n ∷ above) right

module _ {N : Type 0} (kids : N → Option (ℕ × ℕ)) where
  pub is_pair : (nodes : List N) → IsPostOrder (map kids nodes) → (k : ℕ) (e : N) (p : ℕ × ℕ) → k < length nodes
      → kids (get_or nodes k e) ≡ Some p → IsPair kids nodes k p (get_or nodes k e)
  is_pair nodes ok k e p h pair =
      let w : Whole kids nodes = whole_of kids nodes ok in
      let same : get_or (labels w.tree) k e ≡ get_or nodes k e = ap (λ ns. get_or ns k e) w.labels_are in
      let v : PairAt 0 [] w.tree k p (get_or nodes k e) =
      subst (PairAt 0 [] w.tree k p) same
      (pair_at kids w.tree [] 0 k e p w.numbered (omega (arith, w.size_is)) (ap kids same ∙ pair)) in
      let left_is : p.0 ≡ v.left_place = omega (arith, v.left_named) in
      let right_is : p.1 ≡ v.right_place = omega (arith, v.right_named) in
      let own : (d : Occurrence N) → get_or (occurrences_of kids nodes) k d ≡ occurrence v.above (fork v.left v.right (get_or nodes k e)) =
      λ d. ap (λ os. get_or os k d) w.occurrences_are ∙ v.own d in
      let at_left : (d : Occurrence N) → get_or (occurrences_of kids nodes) (p.0) d
      ≡ occurrence (fork v.left v.right (get_or nodes k e) ∷ v.above) v.left =
      λ d. ap (λ os. get_or os (p.0) d) w.occurrences_are ∙ ap (λ i. get_or (occurrences [] w.tree) i d) left_is ∙ v.at_left d in
      let at_right : (d : Occurrence N) → get_or (occurrences_of kids nodes) (p.1) d
      ≡ occurrence (fork v.left v.right (get_or nodes k e) ∷ v.above) v.right =
      λ d. ap (λ os. get_or os (p.1) d) w.occurrences_are ∙ ap (λ i. get_or (occurrences [] w.tree) i d) right_is ∙ v.at_right d in
      let o : Occurrence N = occurrence [] (tip e) in
      record {
        left = v.left;
        right = v.right;
        above = v.above;
        left_number = omega (arith, v.left_next);
        right_number = omega (arith, v.right_next);
        left_below = omega (arith, v.left_next);
        right_below = omega (arith, v.right_next);
        tree = λ d. trees_of-here kids nodes ok k d o h ∙ ap (λ (x : Occurrence N). x.here) (own o);
        left_tree = λ d. trees_of-here kids nodes ok (p.0) d o (omega (arith, v.left_next)) ∙ ap (λ (x : Occurrence N). x.here) (at_left o);
        right_tree = λ d. trees_of-here kids nodes ok (p.1) d o (omega (arith, v.right_next)) ∙ ap (λ (x : Occurrence N). x.here) (at_right o);
        own = own;
        at_left = at_left;
        at_right = at_right;
      }
