-- The trees of a list of nodes, read front by front.
use Rattle.std.proofs.Common.{◌≡◌, ℕ, ◌+◌, ◌<◌, ◌≤◌, List, [], ◌∷◌, ◌++◌, Some, None, map, take, drop, length, get_or, Option, refl, sym, ap, ◌∙◌, arith, length-append, append_assoc, append-nil, take_all, take-take, take_at, take-append-drop, length-take-le}
use Rattle.std.proofs.lemmas.List.{take_more, get_or-take, get_or-map, map_push, get_or_push}
use Rattle.cts_postorder.specs.BinaryTree.{BinaryTree, label}
use Rattle.cts_postorder.specs.PostOrder.{tree_over, grow, trees_of}

-- the tree at a node carries the node
label-tree_over : {N : Type 0} (children : Option (ℕ × ℕ)) (before : List (BinaryTree N)) (n : N)
    → label (tree_over children before n) ≡ n
unfolding label tree_over
label-tree_over None before n = refl
label-tree_over (Some p) before n = refl

module _ {N : Type 0} (kids : N → Option (ℕ × ℕ)) where
  pub length-grow : (before : List (BinaryTree N)) (nodes : List N)
      → length (grow kids before nodes) ≡ length before + length nodes
  unfolding grow
  length-grow before [] = omega arith
  length-grow before (n ∷ nodes) =
      let longer : length (before ++ tree_over (kids n) before n ∷ []) ≡ length before + 1 = simp length-append in
      omega (arith, length-grow (before ++ tree_over (kids n) before n ∷ []) nodes, longer)

  pub grow-append : (before : List (BinaryTree N)) (xs ys : List N)
      → grow kids before (xs ++ ys) ≡ grow kids (grow kids before xs) ys
  unfolding grow
  grow-append before [] ys = refl
  grow-append before (n ∷ xs) ys = grow-append (before ++ tree_over (kids n) before n ∷ []) xs ys

  -- growth changes nothing that is there
  pub take-grow : (before : List (BinaryTree N)) (nodes : List N)
      → take (length before) (grow kids before nodes) ≡ before
  unfolding grow
  take-grow before [] = take_all _ _ (omega arith)
  take-grow before (n ∷ nodes) =
      let next : BinaryTree N = tree_over (kids n) before n in
      let longer : length (before ++ next ∷ []) ≡ length before + 1 = simp length-append in
      sym (take-take (length before) (length (before ++ next ∷ [])) (grow kids (before ++ next ∷ []) nodes) (omega arith))
      ∙ ap (take (length before)) (take-grow (before ++ next ∷ []) nodes)
      ∙ take_at before (next ∷ []) (length before) refl

  -- there is one tree for each node
  pub length-trees_of : (nodes : List N) → length (trees_of kids nodes) ≡ length nodes
  unfolding trees_of
  length-trees_of nodes = omega (arith, length-grow [] nodes)

  -- the trees of a front are the front of the trees
  pub trees_of-take : (nodes : List N) (k : ℕ) → k ≤ length nodes
      → trees_of kids (take k nodes) ≡ take k (trees_of kids nodes)
  unfolding trees_of
  trees_of-take nodes k h =
      let front : List (BinaryTree N) = grow kids [] (take k nodes) in
      let long : length front ≡ k = omega (arith, length-grow [] (take k nodes), length-take-le k nodes h) in
      let whole : grow kids [] nodes ≡ grow kids front (drop k nodes) =
      ap (grow kids []) (sym (take-append-drop k nodes)) ∙ grow-append [] (take k nodes) (drop k nodes) in
      sym (take-grow front (drop k nodes)) ∙ ap (λ i. take i (grow kids front (drop k nodes))) long
      ∙ ap (take k) (sym whole)

  -- the tree at a node stands over the trees before it
  pub trees_of-more : (nodes : List N) (k : ℕ) (e : N) → k < length nodes
      → take (k + 1) (trees_of kids nodes)
      ≡ take k (trees_of kids nodes)
      ++ tree_over (kids (get_or nodes k e)) (take k (trees_of kids nodes)) (get_or nodes k e) ∷ []
  unfolding trees_of grow
  trees_of-more nodes k e h =
      let n : N = get_or nodes k e in
      let front : trees_of kids (take k nodes) ≡ take k (trees_of kids nodes) = trees_of-take nodes k (omega arith) in
      sym (trees_of-take nodes (k + 1) (omega arith)) ∙ ap (trees_of kids) (take_more nodes k e h)
      ∙ grow-append [] (take k nodes) (n ∷ [])
      ∙ ap (λ before. before ++ tree_over (kids n) before n ∷ []) front

  pub trees_of-at : (nodes : List N) (k : ℕ) (e : N) (d : BinaryTree N) → k < length nodes
      → get_or (trees_of kids nodes) k d
      ≡ tree_over (kids (get_or nodes k e)) (take k (trees_of kids nodes)) (get_or nodes k e)
  trees_of-at nodes k e d h =
      let front : List (BinaryTree N) = take k (trees_of kids nodes) in
      let long : length front ≡ k = length-take-le k (trees_of kids nodes) (omega (arith, length-trees_of nodes)) in
      sym (get_or-take (k + 1) (trees_of kids nodes) k d (omega arith))
      ∙ ap (λ ts. get_or ts k d) (trees_of-more nodes k e h) ∙ get_or_push front _ d k long

  -- the trees carry the nodes
  map-label-grow : (before : List (BinaryTree N)) (nodes : List N)
      → map label (grow kids before nodes) ≡ map label before ++ nodes
  unfolding grow
  map-label-grow before [] = sym (append-nil (map label before))
  map-label-grow before (n ∷ nodes) =
      let next : BinaryTree N = tree_over (kids n) before n in
      map-label-grow (before ++ next ∷ []) nodes
      ∙ ap (λ ns. ns ++ nodes) (map_push label before next ∙ ap (λ m. map label before ++ m ∷ []) (label-tree_over (kids n) before n))
      ∙ append_assoc (map label before) (n ∷ []) nodes

  pub map-label-trees_of : (nodes : List N) → map label (trees_of kids nodes) ≡ nodes
  unfolding trees_of
  map-label-trees_of nodes = map-label-grow [] nodes

  pub label-tree : (nodes : List N) (k : ℕ) (d : BinaryTree N) (e : N) → k < length nodes
      → label (get_or (trees_of kids nodes) k d) ≡ get_or nodes k e
  label-tree nodes k d e h =
      sym (get_or-map label (trees_of kids nodes) k d e (omega (arith, length-trees_of nodes)))
      ∙ ap (λ ns. get_or ns k e) (map-label-trees_of nodes)
