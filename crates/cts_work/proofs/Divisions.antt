-- Parts are divided into pieces, which stand in their order.
use Rattle.std.proofs.Common.{◌≡◌, ℕ, ◌+◌, ◌-◌, ◌*◌, ◌/◌, ◌<◌, ◌≤◌, inl, inr, true, false, cond, nat_lt, List, [], ◌∷◌, ◌++◌, length, get_or, All, refl, sym, ap, ◌∙◌, subst, arith, length-append}
use Rattle.std.proofs.lemmas.List.Elements.{All-cons}
use Rattle.std.proofs.lemmas.Bool.{cases_lt, lt-ltb, le-ltb}
use Rattle.cts_postorder.specs.BinaryTree.{BinaryTree, tip, fork, size, root_number}
use Rattle.cts_postorder.proofs.Lists.{IsPair, is_pair, length_pos}
use Rattle.cts_postorder.proofs.Nested.{size-tip, size-fork}
use Rattle.cts_postorder.proofs.Sizes.{root_number-next}
use Rattle.cts_topo.specs.declared.shape.ShapeNode.{ShapeNode}
use Rattle.cts_topo.specs.declared.shape.ShapeNode.TheVariants.{Leaf, Pair}
use Rattle.cts_topo.specs.Shape.{children, IsShapeOver}
use Rattle.cts_work.specs.declared.pieces.Piece.{Piece}
use Rattle.cts_work.specs.Built.{tree_at}
use Rattle.cts_work.specs.Pieces.{piece, pieces_of, AreInOrder, begins_at}
use Rattle.cts_work.specs.Done.{ArePieces}
use Rattle.cts_work.specs.Work.{IsPart}
use Rattle.cts_work.proofs.Nodes.{tip_at}
use Rattle.cts_work.proofs.Parts.{whole_is_part}

-- a tree of one lot is a piece
pub one_lot : (first lots root : ℕ) (t : BinaryTree ShapeNode) → lots < 2 → first + size t ≡ root + 1 → pieces_of first lots t ≡ piece first root ∷ []
unfolding pieces_of
one_lot first lots root (tip n) few whole =
    let same : first ≡ root = omega (arith, whole, size-tip n) in ap (λ k. piece first k ∷ []) same
one_lot first lots root (fork l r n) few whole =
    let small : nat_lt lots 2 ≡ true = lt-ltb lots 2 few in
    let same : root_number first (fork l r n) ≡ root = omega (arith, whole, root_number-next first (fork l r n)) in
    ap (λ b. cond b (piece first (root_number first (fork l r n)) ∷ []) (pieces_of first (lots - lots / 2) l ++ pieces_of (first + size l) (lots / 2) r)) small
    ∙ ap (λ k. piece first k ∷ []) same

-- so is a leaf
pub one_leaf : (first lots root : ℕ) (t : BinaryTree ShapeNode) (n : ShapeNode) → t ≡ tip n → first + size t ≡ root + 1
    → pieces_of first lots t ≡ piece first root ∷ []
unfolding pieces_of
one_leaf first lots root t n is whole =
    let same : first ≡ root = omega (arith, whole, ap size is, size-tip n) in
    ap (pieces_of first lots) is ∙ ap (λ k. piece first k ∷ []) same

-- any other has the pieces of its parts
pub two_parts : (first lots : ℕ) (l r : BinaryTree ShapeNode) (n : ShapeNode) → 2 ≤ lots
    → pieces_of first lots (fork l r n) ≡ pieces_of first (lots - lots / 2) l ++ pieces_of (first + size l) (lots / 2) r
unfolding pieces_of
two_parts first lots l r n many =
    let large : nat_lt lots 2 ≡ false = le-ltb lots 2 many in
    ap (λ b. cond b (piece first (root_number first (fork l r n)) ∷ []) (pieces_of first (lots - lots / 2) l ++ pieces_of (first + size l) (lots / 2) r)) large

module _ (count : ℕ) (nodes : List ShapeNode) (ok : IsShapeOver count nodes) (first root : ℕ) (part : IsPart nodes first root)
    (e : ShapeNode) (left right : ℕ) (names : get_or nodes root e ≡ Pair left right) where
  here : IsPair children nodes root (left, right) (get_or nodes root e)
  here = is_pair children nodes ok.post_order root e (left, right) part.within (ap children names)

  sized : size (tree_at nodes root) ≡ size here.left + size here.right + 1
  sized = ap size (here.tree (tip (Leaf 0))) ∙ size-fork here.left here.right (get_or nodes root e)

  pub left_before : left + 1 ≤ root
  left_before = omega (arith, here.left_number)

  pub right_before : right + 1 ≡ root
  right_before = here.right_number

  -- its parts are parts
  pub left_part : IsPart nodes first left
  left_part = record {
    within = omega (arith, here.left_below, part.within);
    whole = omega (arith, part.whole, sized, here.left_number, ap size (here.left_tree (tip (Leaf 0))));
  }

  pub right_part : IsPart nodes (left + 1) right
  right_part = record {
    within = omega (arith, here.right_below, part.within);
    whole = omega (arith, here.left_number, here.right_number, ap size (here.right_tree (tip (Leaf 0))));
  }

  pub parts_pieces : (lots : ℕ) → 2 ≤ lots
      → pieces_of first lots (tree_at nodes root) ≡ pieces_of first (lots - lots / 2) (tree_at nodes left) ++ pieces_of (left + 1) (lots / 2) (tree_at nodes right)
  parts_pieces lots many =
      let next : first + size here.left ≡ left + 1 = omega (arith, part.whole, sized, here.left_number) in
      ap (pieces_of first lots) (here.tree (tip (Leaf 0)))
      ∙ two_parts first lots here.left here.right (get_or nodes root e) many
      ∙ ap (λ k. pieces_of first (lots - lots / 2) here.left ++ pieces_of k (lots / 2) here.right) next
      ∙ λ z. pieces_of first (lots - lots / 2) (sym (here.left_tree (tip (Leaf 0))) z) ++ pieces_of (left + 1) (lots / 2) (sym (here.right_tree (tip (Leaf 0))) z)

-- there are no more pieces than lots
pub pieces_few : (first lots : ℕ) (t : BinaryTree ShapeNode) → 1 ≤ lots → length (pieces_of first lots t) ≤ lots
unfolding pieces_of
pieces_few first lots (tip n) some = some
pieces_few first lots (fork l r n) some =
    elim (cases_lt lots 2) [
      | inl few ↦
          omega (arith, some, ap length (one_lot first lots (root_number first (fork l r n)) (fork l r n) few (sym (root_number-next first (fork l r n)))))
      | inr many ↦
          omega (
            arith,
            ap length (two_parts first lots l r n many),
            length-append (pieces_of first (lots - lots / 2) l) (pieces_of (first + size l) (lots / 2) r),
            pieces_few first (lots - lots / 2) l (omega (arith, many)),
            pieces_few (first + size l) (lots / 2) r (omega (arith, many)),
          )
    ]

-- the pieces of a tree begin with its first node
begins_append : (ps qs : List Piece) (to : ℕ) → begins_at (ps ++ qs) to ≡ begins_at ps (begins_at qs to)
begins_append [] qs to = refl
begins_append (p ∷ ps) qs to = refl

begins_first : (first lots to : ℕ) (t : BinaryTree ShapeNode) → begins_at (pieces_of first lots t) to ≡ first
unfolding pieces_of
begins_first first lots to (tip n) = refl
begins_first first lots to (fork l r n) =
    elim (cases_lt lots 2) [
      | inl few ↦
          ap (λ ps. begins_at ps to) (one_lot first lots (root_number first (fork l r n)) (fork l r n) few (sym (root_number-next first (fork l r n))))
      | inr many ↦
          ap (λ ps. begins_at ps to) (two_parts first lots l r n many)
          ∙ begins_append (pieces_of first (lots - lots / 2) l) (pieces_of (first + size l) (lots / 2) r) to
          ∙ begins_first first (lots - lots / 2) (begins_at (pieces_of (first + size l) (lots / 2) r) to) l
    ]

module _ (nodes : List ShapeNode) where
  in_order_lower : (from from' to : ℕ) (ps : List Piece) → from' ≤ from → AreInOrder nodes from ps to → AreInOrder nodes from' ps to
  unfolding AreInOrder
  in_order_lower from from' to [] h order = omega (arith, order)
  in_order_lower from from' to (p ∷ ps) h order = (omega (arith, order.0), order.1, order.2)

  in_order_append : (from mid to : ℕ) (ps qs : List Piece) → AreInOrder nodes from ps mid → AreInOrder nodes mid qs to
      → AreInOrder nodes from (ps ++ qs) to
  unfolding AreInOrder
  in_order_append from mid to [] qs order more = in_order_lower mid from to qs order more
  in_order_append from mid to (p ∷ ps) qs order more = (order.0, order.1, in_order_append (p.root + 1) mid to ps qs (order.2) more)

  in_order_upper : (from to to' : ℕ) (ps : List Piece) → to ≤ to' → AreInOrder nodes from ps to → AreInOrder nodes from ps to'
  unfolding AreInOrder
  in_order_upper from to to' [] h order = omega (arith, order)
  in_order_upper from to to' (p ∷ ps) h order = (order.0, order.1, in_order_upper (p.root + 1) to to' ps h (order.2))

  one_in_order : (first root : ℕ) (ps : List Piece) → ps ≡ piece first root ∷ [] → IsPart nodes first root → AreInOrder nodes first ps (root + 1)
  unfolding AreInOrder
  one_in_order first root ps is part =
      subst (λ l. AreInOrder nodes first l (root + 1)) (sym is) (omega arith, part, omega arith)

  abbrev pub left_of : BinaryTree ShapeNode → BinaryTree ShapeNode
  left_of (tip n) = tip n
  left_of (fork l r n) = l

  abbrev pub right_of : BinaryTree ShapeNode → BinaryTree ShapeNode
  right_of (tip n) = tip n
  right_of (fork l r n) = r

  -- the pieces of a part stand in their order
  pub in_order : (count : ℕ) → IsShapeOver count nodes → (t : BinaryTree ShapeNode) (first lots root : ℕ) → tree_at nodes root ≡ t
      → IsPart nodes first root → AreInOrder nodes first (pieces_of first lots t) (root + 1)
  in_order count ok (tip n) first lots root is part =
      one_in_order first root (pieces_of first lots (tip n))
      (one_leaf first lots root (tip n) n refl (omega (arith, part.whole, ap size is))) part
  in_order count ok (fork l r n) first lots root is part =
      elim (cases_lt lots 2) [
        | inl few ↦
            one_in_order first root (pieces_of first lots (fork l r n))
            (one_lot first lots root (fork l r n) few (omega (arith, part.whole, ap size is))) part
        | inr many ↦
            by (get_or nodes root (Leaf 0)) refl many (λ f w k e q. in_order count ok l f w k e q) (λ f w k e q. in_order count ok r f w k e q)
      ]
    where
      by : (x : ShapeNode) → get_or nodes root (Leaf 0) ≡ x → 2 ≤ lots
          → ((f w k : ℕ) → tree_at nodes k ≡ l → IsPart nodes f k → AreInOrder nodes f (pieces_of f w l) (k + 1))
          → ((f w k : ℕ) → tree_at nodes k ≡ r → IsPart nodes f k → AreInOrder nodes f (pieces_of f w r) (k + 1))
          → AreInOrder nodes first (pieces_of first lots (fork l r n)) (root + 1)
      by (Leaf s) names many left_order right_order =
          let tipped : tip (Leaf s) ≡ fork l r n = sym (tip_at nodes root part.within (Leaf 0) s names) ∙ is in absurd (cc)
      by (Pair left right) names many left_order right_order =
          let p : IsPair children nodes root (left, right) (get_or nodes root (Leaf 0)) =
          is_pair children nodes ok.post_order root (Leaf 0) (left, right) part.within (ap children names) in
          let forked : fork p.left p.right (get_or nodes root (Leaf 0)) ≡ fork l r n = sym (p.tree (tip (Leaf 0))) ∙ is in
          let left_is : tree_at nodes left ≡ l = p.left_tree (tip (Leaf 0)) ∙ ap left_of forked in
          let right_is : tree_at nodes right ≡ r = p.right_tree (tip (Leaf 0)) ∙ ap right_of forked in
          let lp = left_part count nodes ok first root part (Leaf 0) left right names in
          let rp = right_part count nodes ok first root part (Leaf 0) left right names in
          let next : first + size l ≡ left + 1 = omega (arith, lp.whole, ap size left_is) in
          subst (λ ps. AreInOrder nodes first ps (root + 1)) (sym (two_parts first lots l r n many))
          (subst (λ k. AreInOrder nodes first (pieces_of first (lots - lots / 2) l ++ pieces_of k (lots / 2) r) (root + 1)) (sym next)
          (in_order_append first (left + 1) (root + 1) (pieces_of first (lots - lots / 2) l) (pieces_of (left + 1) (lots / 2) r)
          (left_order first (lots - lots / 2) left left_is lp)
          (in_order_upper (left + 1) (right + 1) (root + 1) (pieces_of (left + 1) (lots / 2) r) (omega (arith, p.right_number))
          (right_order (left + 1) (lots / 2) right right_is rp))))

  -- each of them is a part
  parts_of : (from to : ℕ) (ps : List Piece) → AreInOrder nodes from ps to → All (λ p. IsPart nodes p.first p.root) ps
  unfolding AreInOrder
  parts_of from to [] order = λ k d h. absurd (omega arith)
  parts_of from to (p ∷ ps) order = All-cons (λ p. IsPart nodes p.first p.root) p ps (order.1) (parts_of (p.root + 1) to ps (order.2))

  -- the pieces of the whole
  module _ (count : ℕ) (ok : IsShapeOver count nodes) (workers : ℕ) (some : 1 ≤ workers) (few : workers ≤ 64) (ps : List Piece)
      (is : ps ≡ pieces_of 0 (4 * workers) (tree_at nodes (length nodes - 1))) where
    long : length nodes - 1 + 1 ≡ length nodes
    long = omega (arith, length_pos children nodes ok.post_order)

    pub whole_in_order : AreInOrder nodes 0 ps (length nodes)
    whole_in_order =
        subst (λ n. AreInOrder nodes 0 ps n) long
        (subst (λ l. AreInOrder nodes 0 l (length nodes - 1 + 1)) (sym is)
        (in_order count ok (tree_at nodes (length nodes - 1)) 0 (4 * workers) (length nodes - 1) refl
        (whole_is_part nodes count (length nodes - 1) ok long)))

    pub whole_begins : begins_at ps (length nodes) ≡ 0
    whole_begins = ap (λ l. begins_at l (length nodes)) is ∙ begins_first 0 (4 * workers) (length nodes) (tree_at nodes (length nodes - 1))

    pub whole_pieces : ArePieces nodes ps
    whole_pieces = record {
      few = omega (arith, ap length is, pieces_few 0 (4 * workers) (tree_at nodes (length nodes - 1)) (omega (arith, some)), few);
      parts = parts_of 0 (length nodes) ps whole_in_order;
    }
