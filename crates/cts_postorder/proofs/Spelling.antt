-- A list of nodes is in post-order exactly where a tree, numbered from 0, has these nodes.
use Rattle.std.proofs.Common.{◌≡◌, ℕ, ◌+◌, List, [], ◌∷◌, ◌++◌, map, length, get_or, Option, Some, None, refl, sym, ap, ap₂, subst, ◌∙◌, arith, length-append, append_assoc, append-nil}
use Rattle.std.proofs.lemmas.List.{get_or_at, map-append}
use Rattle.cts_postorder.specs.BinaryTree.{BinaryTree, tip, fork, size, labels, subtrees, root_number, IsNumbered}
use Rattle.cts_postorder.specs.PostOrder.{tree_over, grow, trees_of, IsPostOrder, IsPostOrderFrom}
use Rattle.cts_postorder.proofs.Sizes.{length-subtrees}

-- a tree stands among its subtrees at its root's number
pub get_or-root_number : {N : Type 0} (before : List (BinaryTree N)) (t : BinaryTree N) (after : List (BinaryTree N))
    (d : BinaryTree N) (offset : ℕ) → length before ≡ offset
    → get_or (before ++ subtrees t ++ after) (root_number offset t) d ≡ t
unfolding subtrees root_number
get_or-root_number before (tip n) after d offset h =
    ap (λ ts. get_or ts offset d) (append_assoc before (tip n ∷ []) after) ∙ get_or_at before (tip n) after d offset h
get_or-root_number before (fork l r n) after d offset h =
    let below : List _ = subtrees l ++ subtrees r in
    let regroup : before ++ (below ++ fork l r n ∷ []) ++ after ≡ (before ++ below) ++ fork l r n ∷ after =
    simp append_assoc in
    let long : length (before ++ below) ≡ offset + size l + size r =
    simp length-append (omega (arith, length-subtrees l, length-subtrees r)) in
    ap (λ ts. get_or ts (offset + size l + size r) d) regroup ∙ get_or_at (before ++ below) (fork l r n) after d _ long

module _ {N : Type 0} (kids : N → Option (ℕ × ℕ)) where
  -- a numbered tree grows from its nodes
  pub grow-labels : (t : BinaryTree N) (before : List (BinaryTree N)) (rest : List N) (offset : ℕ)
      → length before ≡ offset → IsNumbered kids offset t
      → grow kids before (labels t ++ rest) ≡ grow kids (before ++ subtrees t) rest
  unfolding grow labels subtrees tree_over IsNumbered
  grow-labels (tip n) before rest offset h numbered =
      ap (λ c. grow kids (before ++ tree_over c before n ∷ []) rest) numbered
  grow-labels (fork l r n) before rest offset h numbered =
      let left : List (BinaryTree N) = before ++ subtrees l in
      let both : List (BinaryTree N) = left ++ subtrees r in
      let long : length left ≡ offset + size l = simp length-append (omega (arith, length-subtrees l)) in
      let regroup : labels l ++ labels r ++ n ∷ [] ++ rest ≡ labels l ++ (labels r ++ (n ∷ rest)) = simp append_assoc in
      let found_left : get_or both (root_number offset l) (tip n) ≡ l =
      get_or-root_number before l (subtrees r) (tip n) offset h in
      let found_right : get_or both (root_number (offset + size l) r) (tip n) ≡ r =
      ap (λ ts. get_or ts (root_number (offset + size l) r) (tip n)) (sym (append-nil both))
      ∙ get_or-root_number left r [] (tip n) (offset + size l) long in
      let over : tree_over (kids n) both n ≡ fork l r n =
      ap (λ c. tree_over c both n) (numbered.2) ∙ ap₂ (λ x y. fork x y n) found_left found_right in
      ap (grow kids before) regroup
      ∙ grow-labels l before (labels r ++ (n ∷ rest)) offset h (numbered.0)
      ∙ grow-labels r left (n ∷ rest) (offset + size l) long (numbered.1)
      ∙ ap (λ t. grow kids (both ++ t ∷ []) rest) over
      ∙ ap (λ ts. grow kids ts rest) (simp append_assoc)

  -- the trees of a numbered tree's nodes are its subtrees
  pub trees_of-labels : (t : BinaryTree N) → IsNumbered kids 0 t → trees_of kids (labels t) ≡ subtrees t
  unfolding trees_of grow
  trees_of-labels t numbered =
      ap (grow kids []) (sym (append-nil (labels t))) ∙ grow-labels t [] [] 0 refl numbered

  -- a numbered tree's nodes are read to the end, and leave its root on the stack
  pub IsPostOrderFrom-labels : (t : BinaryTree N) (rest : List (Option (ℕ × ℕ))) (stack : List ℕ) (offset : ℕ)
      → IsNumbered kids offset t → IsPostOrderFrom rest (root_number offset t ∷ stack) (offset + size t)
      → IsPostOrderFrom (map kids (labels t) ++ rest) stack offset
  unfolding IsPostOrderFrom labels size root_number IsNumbered
  IsPostOrderFrom-labels (tip n) rest stack offset numbered then =
      subst (λ c. IsPostOrderFrom (c ∷ rest) stack offset) (sym numbered) then
  IsPostOrderFrom-labels (fork l r n) rest stack offset numbered then =
      let a : ℕ = root_number offset l in
      let b : ℕ = root_number (offset + size l) r in
      let regroup : map kids (labels l) ++ (map kids (labels r) ++ (kids n ∷ rest))
      ≡ map kids (labels l ++ labels r ++ n ∷ []) ++ rest = simp (map-append, append_assoc) in
      let count : offset + (size l + size r + 1) ≡ offset + size l + size r + 1 = omega arith in
      let pair : IsPostOrderFrom (Some (a, b) ∷ rest) (b ∷ a ∷ stack) (offset + size l + size r) =
      (refl, subst (λ k. IsPostOrderFrom rest ((offset + size l + size r) ∷ stack) k) count then) in
      subst (λ ns. IsPostOrderFrom ns stack offset) regroup
      (IsPostOrderFrom-labels l (map kids (labels r) ++ (kids n ∷ rest)) stack offset (numbered.0)
      (IsPostOrderFrom-labels r (kids n ∷ rest) (a ∷ stack) (offset + size l) (numbered.1)
      (subst (λ c. IsPostOrderFrom (c ∷ rest) (b ∷ a ∷ stack) (offset + size l + size r)) (sym (numbered.2)) pair)))

  pub IsPostOrder-labels : (t : BinaryTree N) → IsNumbered kids 0 t → IsPostOrder (map kids (labels t))
  unfolding IsPostOrderFrom
  IsPostOrder-labels t numbered =
      subst (λ ns. IsPostOrderFrom ns [] 0) (append-nil (map kids (labels t)))
      (IsPostOrderFrom-labels t [] [] 0 numbered tt)

-- The trees that wait on the stack, the latest first, with the numbers of their roots: their nodes are those below k.
unfoldable IsForest : {N : Type 0} → (N → Option (ℕ × ℕ)) → ℕ → List (BinaryTree N) → List ℕ → Type 0
IsForest kids k [] [] = k ≡ 0
IsForest kids k [] (a ∷ stack) = ⊥
IsForest kids k (t ∷ forest) [] = ⊥
IsForest kids k (t ∷ forest) (a ∷ stack) =
    (offset : ℕ) × (IsNumbered kids offset t × (a ≡ root_number offset t) × (k ≡ offset + size t)
    × IsForest kids offset forest stack)

unfoldable forest_labels : {N : Type 0} → List (BinaryTree N) → List N
forest_labels [] = []
forest_labels (t ∷ forest) = forest_labels forest ++ labels t

-- a tree that the nodes spell
pub record Spelling {N : Type 0} (kids : N → Option (ℕ × ℕ)) (nodes : List N) : Type 0 where
  pub whole : BinaryTree N
  pub numbered : IsNumbered kids 0 whole
  pub spelled : labels whole ≡ nodes

-- the stack and its forest once one more node is read
record Step {N : Type 0} (kids : N → Option (ℕ × ℕ)) (k : ℕ) (forest : List (BinaryTree N)) (n : N)
    (rest : List (Option (ℕ × ℕ))) : Type 0 where
  stack : List ℕ
  grown : List (BinaryTree N)
  is_forest : IsForest kids (k + 1) grown stack
  reads : IsPostOrderFrom rest stack (k + 1)
  adds : forest_labels grown ≡ forest_labels forest ++ n ∷ []

module _ {N : Type 0} (kids : N → Option (ℕ × ℕ)) where
  step : (n : N) (rest : List (Option (ℕ × ℕ))) (children : Option (ℕ × ℕ)) → kids n ≡ children
      → (forest : List (BinaryTree N)) (stack : List ℕ) (k : ℕ) → IsForest kids k forest stack
      → IsPostOrderFrom (children ∷ rest) stack k → Step kids k forest n rest
  unfolding IsPostOrderFrom IsForest forest_labels IsNumbered labels size root_number
  step n rest None e forest stack k f p =
      record { stack = k ∷ stack; grown = tip n ∷ forest; is_forest = (k, (e, refl, refl, f)); reads = p; adds = refl }
  step n rest (Some q) e forest [] k f p = absurd p
  step n rest (Some q) e forest (b ∷ []) k f p = absurd p
  step n rest (Some q) e [] (b ∷ a ∷ stack) k f p = absurd f
  step n rest (Some q) e (r ∷ []) (b ∷ a ∷ stack) k f p = absurd (f.1.3)
  step n rest (Some q) e (r ∷ l ∷ forest) (b ∷ a ∷ stack) k f p =
      let at_r = f.1 in
      let at_l = at_r.3.1 in
      let offset : ℕ = at_r.3.0 in
      let left_end : f.0 ≡ offset + size l = at_l.2 in
      let right : IsNumbered kids (offset + size l) r = subst (λ o. IsNumbered kids o r) left_end (at_r.0) in
      let b_is : b ≡ root_number (offset + size l) r = at_r.1 ∙ ap (λ o. root_number o r) left_end in
      let names : kids n ≡ Some (root_number offset l, root_number (offset + size l) r) =
      e ∙ ap Some (p.0 ∙ ap₂ (λ x y. (x, y)) (at_l.1) b_is) in
      let own : k ≡ offset + size l + size r = omega (arith, at_r.2, left_end) in
      record {
        stack = k ∷ stack;
        grown = fork l r n ∷ forest;
        is_forest = (offset, ((at_l.0, right, names), own, omega arith, at_l.3));
        reads = p.1;
        adds = simp append_assoc;
      }

  read_on : (nodes : List N) (forest : List (BinaryTree N)) (stack : List ℕ) (k : ℕ) → IsForest kids k forest stack
      → IsPostOrderFrom (map kids nodes) stack k → Spelling kids (forest_labels forest ++ nodes)
  unfolding IsPostOrderFrom IsForest forest_labels
  read_on [] forest [] k f p = absurd p
  read_on [] forest (a ∷ b ∷ stack) k f p = absurd p
  read_on [] [] (a ∷ []) k f p = absurd f
  read_on [] (t ∷ u ∷ forest) (a ∷ []) k f p = absurd (f.1.3)
  read_on [] (t ∷ []) (a ∷ []) k f p = record {
    whole = t;
    numbered = subst (λ o. IsNumbered kids o t) (f.1.3) (f.1.0);
    spelled = sym (append-nil (labels t));
  }
  read_on (n ∷ nodes) forest stack k f p =
      let s : Step kids k forest n (map kids nodes) = step n (map kids nodes) (kids n) refl forest stack k f p in
      subst (Spelling kids) (ap (λ ns. ns ++ nodes) s.adds ∙ append_assoc (forest_labels forest) (n ∷ []) nodes)
      (read_on nodes s.grown s.stack (k + 1) s.is_forest s.reads)

  -- what is read to one tree spells a numbered tree
  pub spelling_of : (nodes : List N) → IsPostOrder (map kids nodes) → Spelling kids nodes
  unfolding IsForest forest_labels
  spelling_of nodes p = read_on nodes [] [] 0 refl p
