-- The tree over pins: it does not see their order, and what it has for nodes, leaves and depth.
use Rattle.std.proofs.Common.{◌≡◌, ℕ, zero, suc, ◌+◌, ◌*◌, ◌^◌, ◌<◌, ◌≤◌, not, List, [], ◌∷◌, ◌++◌, map, length, refl, sym, ap, subst, ◌∙◌, arith, append-nil, pow-suc}
use Rattle.std.proofs.lemmas.List.{map-append}
use Rattle.std.proofs.lemmas.List.Elements.{filter_map-append}
use Rattle.std.proofs.lemmas.List.Sorted.{IsPermutation-filter_both}
use Rattle.cts_postorder.specs.BinaryTree.{BinaryTree, size, depth, labels, root_number, IsNumbered}
use Rattle.cts_topo.specs.declared.shape.ShapeNode.{ShapeNode}
use Rattle.cts_topo.specs.declared.shape.ShapeNode.TheVariants.{Pair}
use Rattle.cts_topo.specs.declared.pin.Pin.{Pin}
use Rattle.cts_topo.specs.Shape.{children, leaf_sink, leaf_sinks}
use Rattle.cts_topo.proofs.Apart.{AreApart}
use Rattle.cts_topo.specs.Topology.{is_early, left_size, left_part, right_part, pair_over, division}
use Rattle.cts_topo.specs.Laws.{IsDivided}
use Rattle.cts_topo.proofs.Shuffles.{Shuffled, same, chain, shuffled_of, length-Shuffled, map-Shuffled, append-Shuffled, Shuffled-one}
use Rattle.cts_topo.proofs.Parts.{left_part-Shuffled, right_part-Shuffled, left_size_pos, left_size_lt, left_size_half}
use Rattle.cts_topo.proofs.Sorted.{Halves, halves_of}

-- the tree over two or more pins is a pair of the trees over their parts
pub division-pair : (limit first : ℕ) (ps : List Pin) → 2 ≤ length ps
    → division (suc limit) first ps
    ≡ pair_over first (division limit first (left_part ps))
    (division limit (first + size (division limit first (left_part ps))) (right_part ps))
unfolding division
division-pair limit first [] h = absurd (omega arith)
division-pair limit first (p ∷ []) h = absurd (omega arith)
division-pair limit first (p ∷ q ∷ ps) h = refl

-- the order of the pins does not matter
pub division-Shuffled : (limit first : ℕ) (ps qs : List Pin) → Shuffled ps qs
    → division limit first ps ≡ division limit first qs
unfolding division
division-Shuffled limit first [] [] s = refl
division-Shuffled limit first [] (q ∷ qs) s = absurd (omega (arith, length-Shuffled s))
division-Shuffled limit first (p ∷ []) qs s = ap (division limit first) (sym (Shuffled-one p qs s))
division-Shuffled limit first (p ∷ p' ∷ ps) [] s = absurd (omega (arith, length-Shuffled s))
division-Shuffled limit first (p ∷ p' ∷ ps) (q ∷ []) s = absurd (omega (arith, length-Shuffled s))
division-Shuffled zero first (p ∷ p' ∷ ps) (q ∷ q' ∷ qs) s = refl
division-Shuffled (suc limit) first (p ∷ p' ∷ ps) (q ∷ q' ∷ qs) s =
    let us : List Pin = p ∷ p' ∷ ps in
    let vs : List Pin = q ∷ q' ∷ qs in
    let left : division limit first (left_part us) ≡ division limit first (left_part vs) =
    division-Shuffled limit first (left_part us) (left_part vs) (left_part-Shuffled s) in
    ap (λ l. pair_over first l (division limit (first + size l) (right_part us))) left
    ∙ ap (pair_over first (division limit first (left_part vs)))
    (division-Shuffled limit (first + size (division limit first (left_part vs))) (right_part us) (right_part vs)
    (right_part-Shuffled s))

-- its nodes are numbered in post-order
pub IsNumbered-division : (limit first : ℕ) (ps : List Pin) → IsNumbered children first (division limit first ps)
unfolding division IsNumbered
IsNumbered-division limit first [] = refl
IsNumbered-division limit first (p ∷ []) = refl
IsNumbered-division zero first (p ∷ q ∷ ps) = refl
IsNumbered-division (suc limit) first (p ∷ q ∷ ps) = (
  IsNumbered-division limit first (left_part (p ∷ q ∷ ps)),
  IsNumbered-division limit (first + size (division limit first (left_part (p ∷ q ∷ ps)))) (right_part (p ∷ q ∷ ps)),
  refl,
)

-- both parts have pins, and fewer than all
record Smaller (ps : List Pin) (limit : ℕ) : Type 0 where
  left_some : 0 < length (left_part ps)
  left_few : length (left_part ps) ≤ limit
  right_some : 0 < length (right_part ps)
  right_few : length (right_part ps) ≤ limit
  total : length (left_part ps) + length (right_part ps) ≡ length ps

smaller_of : (ps : List Pin) (limit : ℕ) → 2 ≤ length ps → length ps ≤ suc limit → AreApart ps → Smaller ps limit
smaller_of ps limit h fits distinct =
    let v : Halves ps = halves_of ps distinct in
    let some : 0 < left_size (length ps) = left_size_pos (length ps) (omega arith) in
    let less : left_size (length ps) < length ps = left_size_lt (length ps) h in
    record {
      left_some = omega (arith, v.left_long);
      left_few = omega (arith, v.left_long);
      right_some = omega (arith, v.right_long);
      right_few = omega (arith, v.right_long);
      total = omega (arith, v.left_long, v.right_long);
    }

-- a tree over n pins has 2n - 1 nodes
pub size-division : (limit first : ℕ) (ps : List Pin) → 0 < length ps → length ps ≤ limit → AreApart ps
    → size (division limit first ps) + 1 ≡ 2 * length ps
unfolding division size
size-division limit first [] some fits distinct = absurd (omega arith)
size-division limit first (p ∷ []) some fits distinct = refl
size-division zero first (p ∷ q ∷ ps) some fits distinct = absurd (omega arith)
size-division (suc limit) first (p ∷ q ∷ ps) some fits distinct =
    let all : List Pin = p ∷ q ∷ ps in
    let s : Smaller all limit = smaller_of all limit (omega arith) fits distinct in
    let v : Halves all = halves_of all distinct in
    let l : BinaryTree ShapeNode = division limit first (left_part all) in
    omega (
      arith,
      size-division limit first (left_part all) s.left_some s.left_few v.left_distinct,
      size-division limit (first + size l) (right_part all) s.right_some s.right_few v.right_distinct,
      s.total,
    )

-- its leaves are the pins' sinks, each once
pub leaf_sinks-division : (limit first : ℕ) (ps : List Pin) → 0 < length ps → length ps ≤ limit → AreApart ps
    → Shuffled (map (λ (p : Pin). p.sink) ps) (leaf_sinks (labels (division limit first ps)))
unfolding division labels left_part right_part
leaf_sinks-division limit first [] some fits distinct = absurd (omega arith)
leaf_sinks-division limit first (p ∷ []) some fits distinct = same
leaf_sinks-division zero first (p ∷ q ∷ ps) some fits distinct = absurd (omega arith)
leaf_sinks-division (suc limit) first (p ∷ q ∷ ps) some fits distinct =
    let all : List Pin = p ∷ q ∷ ps in
    let s : Smaller all limit = smaller_of all limit (omega arith) fits distinct in
    let v : Halves all = halves_of all distinct in
    let l : BinaryTree ShapeNode = division limit first (left_part all) in
    let r : BinaryTree ShapeNode = division limit (first + size l) (right_part all) in
    let n : ShapeNode = Pair (root_number first l) (root_number (first + size l) r) in
    let parts : Shuffled all (left_part all ++ right_part all) =
    shuffled_of _ _ (IsPermutation-filter_both (is_early all) (λ x. not (is_early all x)) (λ x. refl) all) in
    let named : map (λ (x : Pin). x.sink) (left_part all ++ right_part all)
    ≡ map (λ (x : Pin). x.sink) (left_part all) ++ map (λ (x : Pin). x.sink) (right_part all) =
    map-append (λ (x : Pin). x.sink) (left_part all) (right_part all) in
    let leaves : leaf_sinks (labels l) ++ leaf_sinks (labels r) ≡ leaf_sinks (labels l ++ labels r ++ n ∷ []) =
    sym (append-nil _) ∙ ap (λ xs. xs ++ []) (sym (filter_map-append leaf_sink (labels l) (labels r)))
    ∙ sym (filter_map-append leaf_sink (labels l ++ labels r) (n ∷ [])) in
    subst (Shuffled (map (λ (x : Pin). x.sink) all)) leaves
    (chain (subst (Shuffled (map (λ (x : Pin). x.sink) all)) named (map-Shuffled (λ (x : Pin). x.sink) parts))
    (append-Shuffled
    (leaf_sinks-division limit first (left_part all) s.left_some s.left_few v.left_distinct)
    (leaf_sinks-division limit (first + size l) (right_part all) s.right_some s.right_few v.right_distinct)))

-- over at most 2^d pins at most d pairs stand one above another
pub depth-division : (d limit first : ℕ) (ps : List Pin) → length ps ≤ 2 ^ d → AreApart ps
    → depth (division limit first ps) ≤ d
unfolding division depth
depth-division d limit first [] fits distinct = omega arith
depth-division d limit first (p ∷ []) fits distinct = omega arith
depth-division d zero first (p ∷ q ∷ ps) fits distinct = omega arith
depth-division zero (suc limit) first (p ∷ q ∷ ps) fits distinct = absurd (omega arith)
depth-division (suc d) (suc limit) first (p ∷ q ∷ ps) fits distinct =
    let all : List Pin = p ∷ q ∷ ps in
    let v : Halves all = halves_of all distinct in
    let double : length all ≤ 2 * 2 ^ d = omega (arith, pow-suc 2 d) in
    let half = left_size_half (length all) (2 ^ d) double in
    let l : BinaryTree ShapeNode = division limit first (left_part all) in
    omega (
      arith,
      depth-division d limit first (left_part all) (omega (arith, v.left_long, half.0)) v.left_distinct,
      depth-division d limit (first + size l) (right_part all) (omega (arith, v.right_long, half.1)) v.right_distinct,
    )

-- it is divided by the rule
pub IsDivided-division : (limit first : ℕ) (ps : List Pin) → 0 < length ps → length ps ≤ limit → AreApart ps
    → IsDivided ps (division limit first ps)
unfolding division IsDivided
IsDivided-division limit first [] some fits distinct = absurd (omega arith)
IsDivided-division limit first (p ∷ []) some fits distinct = (p, (refl, refl))
IsDivided-division zero first (p ∷ q ∷ ps) some fits distinct = absurd (omega arith)
IsDivided-division (suc limit) first (p ∷ q ∷ ps) some fits distinct =
    let all : List Pin = p ∷ q ∷ ps in
    let s : Smaller all limit = smaller_of all limit (omega arith) fits distinct in
    let v : Halves all = halves_of all distinct in
    let l : BinaryTree ShapeNode = division limit first (left_part all) in (
      omega arith,
      v.left_long,
      IsDivided-division limit first (left_part all) s.left_some s.left_few v.left_distinct,
      IsDivided-division limit (first + size l) (right_part all) s.right_some s.right_few v.right_distinct,
    )
