-- Two trees of the same form whose nodes are related, place by place.
use Rattle.std.proofs.Common.{◌≡◌, ℕ, ◌+◌, List, [], ◌∷◌, ◌++◌, map, Option, Some, refl, sym, ap, ap₂, subst, ◌∙◌, arith}
use Rattle.std.specs.List.{AllZip}
use Rattle.cts_postorder.specs.BinaryTree.{BinaryTree, tip, fork, label, size, labels, subtrees, root_number, IsNumbered}
use Rattle.cts_postorder.specs.PostOrder.{IsPostOrder, trees_of, root_of}
use Rattle.cts_postorder.specs.Occurrence.{Occurrence, occurrence, occurrences, occurrences_of}
use Rattle.cts_postorder.proofs.Spelling.{trees_of-labels}
use Rattle.std.proofs.lemmas.Simd.{map-map}
use Rattle.cts_postorder.proofs.Growth.{map-label-trees_of}
use Rattle.cts_postorder.proofs.Lists.{Whole, whole_of, root_of-labels, map-here-occurrences_of}

module _ {N M : Type 0} (R : Occurrence N → M → Type 0) where
  -- the second tree has the form of the first, and each of its nodes is related to the place of the first
  unfoldable pub IsAlike : List (BinaryTree N) → BinaryTree N → BinaryTree M → Type 0
  IsAlike up (tip n) (tip m) = R (occurrence up (tip n)) m
  IsAlike up (tip n) (fork l' r' m) = ⊥
  IsAlike up (fork l r n) (tip m) = ⊥
  IsAlike up (fork l r n) (fork l' r' m) =
      IsAlike (fork l r n ∷ up) l l' × IsAlike (fork l r n ∷ up) r r' × R (occurrence up (fork l r n)) m

  -- what two lists have in common is found again after a front of the first
  pub record Split (xs ys : List (Occurrence N)) (zs : List M) : Type 0 where
    pub front : List M
    pub back : List M
    pub whole : front ++ back ≡ zs
    pub front_all : AllZip R xs front
    pub back_all : AllZip R ys back

  split : (xs ys : List (Occurrence N)) (zs : List M) → AllZip R (xs ++ ys) zs → Split xs ys zs
  split [] ys zs all = record { front = []; back = zs; whole = refl; front_all = tt; back_all = all }
  split (x ∷ xs) ys [] all = absurd all
  split (x ∷ xs) ys (z ∷ zs) all =
      let s : Split xs ys zs = split xs ys zs (all.1) in
      record {
        front = z ∷ s.front;
        back = s.back;
        whole = ap (λ l. z ∷ l) s.whole;
        front_all = (all.0, s.front_all);
        back_all = s.back_all;
      }

  -- the tree that related nodes make
  pub record AlikeTree (up : List (BinaryTree N)) (t : BinaryTree N) (ms : List M) : Type 0 where
    pub tree : BinaryTree M
    pub alike : IsAlike up t tree
    pub labels_are : labels tree ≡ ms

  alike_tip : (up : List (BinaryTree N)) (n : N) (ms : List M) → AllZip R (occurrence up (tip n) ∷ []) ms
      → AlikeTree up (tip n) ms
  unfolding IsAlike labels
  alike_tip up n [] all = absurd all
  alike_tip up n (m ∷ []) all = record { tree = tip m; alike = all.0; labels_are = refl }
  alike_tip up n (m ∷ k ∷ ms) all = absurd (all.1)

  alike_top : (up : List (BinaryTree N)) (l r : BinaryTree N) (n : N) (front back : List M)
      → (a : AlikeTree (fork l r n ∷ up) l front) (b : AlikeTree (fork l r n ∷ up) r back)
      → (last : List M) → AllZip R (occurrence up (fork l r n) ∷ []) last
      → AlikeTree up (fork l r n) (front ++ back ++ last)
  unfolding IsAlike labels
  alike_top up l r n front back a b [] all = absurd all
  alike_top up l r n front back a b (m ∷ []) all = record {
    tree = fork a.tree b.tree m;
    alike = (a.alike, b.alike, all.0);
    labels_are = ap₂ (λ x y. x ++ y ++ m ∷ []) a.labels_are b.labels_are;
  }
  alike_top up l r n front back a b (m ∷ k ∷ last) all = absurd (all.1)

  pub alike_tree : (up : List (BinaryTree N)) (t : BinaryTree N) (ms : List M) → AllZip R (occurrences up t) ms
      → AlikeTree up t ms
  unfolding occurrences
  alike_tree up (tip n) ms all = alike_tip up n ms all
  alike_tree up (fork l r n) ms all =
      let first : List (Occurrence N) = occurrences (fork l r n ∷ up) l in
      let second : List (Occurrence N) = occurrences (fork l r n ∷ up) r in
      let outer : Split (first ++ second) (occurrence up (fork l r n) ∷ []) ms =
      split (first ++ second) (occurrence up (fork l r n) ∷ []) ms all in
      let inner : Split first second outer.front = split first second outer.front outer.front_all in
      subst (AlikeTree up (fork l r n)) (ap (λ x. x ++ outer.back) inner.whole ∙ outer.whole)
      (alike_top up l r n inner.front inner.back (alike_tree (fork l r n ∷ up) l inner.front inner.front_all)
      (alike_tree (fork l r n ∷ up) r inner.back inner.back_all) outer.back outer.back_all)

  -- nodes that name the same children are numbered as the first tree's are
  module _ (kids : N → Option (ℕ × ℕ)) (kids' : M → Option (ℕ × ℕ))
      (same : (o : Occurrence N) (m : M) → R o m → kids' m ≡ kids (label o.here)) where
    alike_size : (up : List (BinaryTree N)) (t : BinaryTree N) (t' : BinaryTree M) → IsAlike up t t' → size t' ≡ size t
    unfolding IsAlike size
    alike_size up (tip n) (tip m) a = refl
    alike_size up (tip n) (fork l' r' m) a = absurd a
    alike_size up (fork l r n) (tip m) a = absurd a
    alike_size up (fork l r n) (fork l' r' m) a =
        omega (arith, alike_size (fork l r n ∷ up) l l' (a.0), alike_size (fork l r n ∷ up) r r' (a.1))

    alike_root : (offset : ℕ) (up : List (BinaryTree N)) (t : BinaryTree N) (t' : BinaryTree M) → IsAlike up t t'
        → root_number offset t' ≡ root_number offset t
    unfolding IsAlike root_number
    alike_root offset up (tip n) (tip m) a = refl
    alike_root offset up (tip n) (fork l' r' m) a = absurd a
    alike_root offset up (fork l r n) (tip m) a = absurd a
    alike_root offset up (fork l r n) (fork l' r' m) a =
        omega (arith, alike_size (fork l r n ∷ up) l l' (a.0), alike_size (fork l r n ∷ up) r r' (a.1))

    alike_numbered : (offset : ℕ) (up : List (BinaryTree N)) (t : BinaryTree N) (t' : BinaryTree M) → IsAlike up t t'
        → IsNumbered kids offset t → IsNumbered kids' offset t'
    unfolding IsAlike IsNumbered label
    alike_numbered offset up (tip n) (tip m) a numbered = same (occurrence up (tip n)) m a ∙ numbered
    alike_numbered offset up (tip n) (fork l' r' m) a numbered = absurd a
    alike_numbered offset up (fork l r n) (tip m) a numbered = absurd a
    alike_numbered offset up (fork l r n) (fork l' r' m) a numbered =
        let top : BinaryTree N = fork l r n in
        let s : size l' ≡ size l = alike_size (top ∷ up) l l' (a.0) in (
          alike_numbered offset (top ∷ up) l l' (a.0) (numbered.0),
          subst (λ i. IsNumbered kids' (offset + i) r') (sym s) (alike_numbered (offset + size l) (top ∷ up) r r' (a.1) (numbered.1)),
          same (occurrence up top) m (a.2) ∙ numbered.2
              ∙ ap Some (ap₂ (λ x y. (x, y)) (sym (alike_root offset (top ∷ up) l l' (a.0)))
              (sym (alike_root (offset + size l) (top ∷ up) r r' (a.1)) ∙ ap (λ i. root_number (offset + i) r') (sym s))),
        )

    -- the trees of two lists of nodes that are related place by place
    pub record AlikeLists (nodes : List N) (ms : List M) : Type 0 where
      pub first : BinaryTree N
      pub second : BinaryTree M
      pub first_is : root_of kids nodes ≡ Some first
      pub second_is : root_of kids' ms ≡ Some second
      pub second_trees : trees_of kids' ms ≡ subtrees second
      pub second_labels : labels second ≡ ms
      pub alike : IsAlike [] first second

    pub alike_lists : (nodes : List N) → IsPostOrder (map kids nodes) → (ms : List M)
        → AllZip R (occurrences_of kids nodes) ms → AlikeLists nodes ms
    alike_lists nodes ok ms all =
        let w : Whole kids nodes = whole_of kids nodes ok in
        let a : AlikeTree [] w.tree ms = alike_tree [] w.tree ms (subst (λ os. AllZip R os ms) w.occurrences_are all) in
        let numbered : IsNumbered kids' 0 a.tree = alike_numbered 0 [] w.tree a.tree a.alike w.numbered in
        record {
          first = w.tree;
          second = a.tree;
          first_is = w.root_is;
          second_is = ap (root_of kids') (sym a.labels_are) ∙ root_of-labels kids' a.tree numbered;
          second_trees = ap (trees_of kids') (sym a.labels_are) ∙ trees_of-labels kids' a.tree numbered;
          second_labels = a.labels_are;
          alike = a.alike;
        }

-- the roots are related
pub alike_label : {N M : Type 0} (R : Occurrence N → M → Type 0) (up : List (BinaryTree N)) (t : BinaryTree N) (t' : BinaryTree M)
    → IsAlike R up t t' → R (occurrence up t) (label t')
unfolding IsAlike label
alike_label R up (tip n) (tip m) a = a
alike_label R up (tip n) (fork l' r' m) a = absurd a
alike_label R up (fork l r n) (tip m) a = absurd a
alike_label R up (fork l r n) (fork l' r' m) a = a.2

-- the places of a list of nodes carry the nodes
pub map-node-occurrences_of : {N : Type 0} (kids : N → Option (ℕ × ℕ)) (nodes : List N) → IsPostOrder (map kids nodes)
    → map (λ (o : Occurrence N). label o.here) (occurrences_of kids nodes) ≡ nodes
map-node-occurrences_of {N} kids nodes ok =
    sym (map-map label (λ (o : Occurrence N). o.here) (occurrences_of kids nodes))
    ∙ ap (map label) (map-here-occurrences_of kids nodes ok) ∙ map-label-trees_of kids nodes

-- two relations of lists, one after the other
pub all_zip-then : {A B C : Type 0} (P : A → B → Type 0) (Q : B → C → Type 0) (xs : List A) (ys : List B) (zs : List C)
    → AllZip P xs ys → AllZip Q ys zs → AllZip (λ x z. (y : B) × P x y × Q y z) xs zs
all_zip-then P Q [] [] [] p q = tt
all_zip-then P Q [] [] (z ∷ zs) p q = absurd q
all_zip-then P Q [] (y ∷ ys) zs p q = absurd p
all_zip-then P Q (x ∷ xs) [] zs p q = absurd p
all_zip-then P Q (x ∷ xs) (y ∷ ys) [] p q = absurd q
all_zip-then P Q (x ∷ xs) (y ∷ ys) (z ∷ zs) p q = ((y, p.0, q.0), all_zip-then P Q xs ys zs (p.1) (q.1))

-- nodes that stand place by place for those of a list, and name the same children, are in post-order with them
module _ {N M : Type 0} (kids : N → Option (ℕ × ℕ)) (kids' : M → Option (ℕ × ℕ)) (R : Occurrence N → M → Type 0)
    (same : (o : Occurrence N) (m : M) → R o m → kids' m ≡ kids (label o.here)) where
  same_all : (os : List (Occurrence N)) (ms : List M) → AllZip R os ms
      → map kids' ms ≡ map (λ (o : Occurrence N). kids (label o.here)) os
  same_all [] [] all = refl
  same_all [] (m ∷ ms) all = absurd all
  same_all (o ∷ os) [] all = absurd all
  same_all (o ∷ os) (m ∷ ms) all = ap₂ (λ c cs. c ∷ cs) (same o m (all.0)) (same_all os ms (all.1))

  pub same_children : (nodes : List N) → IsPostOrder (map kids nodes) → (ms : List M)
      → AllZip R (occurrences_of kids nodes) ms → map kids' ms ≡ map kids nodes
  same_children nodes ok ms all =
      same_all (occurrences_of kids nodes) ms all
      ∙ sym (map-map (λ t. kids (label t)) (λ (o : Occurrence N). o.here) (occurrences_of kids nodes))
      ∙ ap (map (λ t. kids (label t))) (map-here-occurrences_of kids nodes ok)
      ∙ sym (map-map kids label (trees_of kids nodes)) ∙ ap (map kids) (map-label-trees_of kids nodes)
