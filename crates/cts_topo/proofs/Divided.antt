-- One division of pins that are sorted along their axis: what the parts are, and that the nodes of the two trees and
-- the pair over them are the nodes of the tree over all.
use Rattle.std.proofs.Common.{◌≡◌, ℕ, zero, suc, ◌+◌, ◌<◌, ◌≤◌, Bool, not, List, [], ◌∷◌, ◌++◌, take, drop, length, get_or, filter, IsSortedBy, refl, sym, ap, ap₂, subst, ◌∙◌, arith, append_assoc, length-append, length-drop}
use Rattle.std.specs.Int.{div_ceil}
use Rattle.std.proofs.lemmas.List.{length-take-le}
use Rattle.cts_postorder.specs.BinaryTree.{BinaryTree, size, labels, root_number}
use Rattle.cts_postorder.proofs.Sizes.{length-labels, root_number-next}
use Rattle.cts_topo.specs.declared.shape.ShapeNode.{ShapeNode}
use Rattle.cts_topo.specs.declared.shape.ShapeNode.TheVariants.{Leaf, Pair}
use Rattle.cts_topo.specs.declared.pin.Pin.{Pin}
use Rattle.cts_topo.specs.Topology.{is_before, is_wide, left_size, left_part, right_part, division, AddsTree}
use Rattle.cts_topo.specs.Divisible.{IsDivisible, AreHalves}
use Rattle.cts_topo.proofs.Apart.{AreApart, apart-Shuffled, apart-take, apart-drop}
use Rattle.cts_topo.proofs.Shuffles.{Shuffled, same, turned_round, length-Shuffled}
use Rattle.cts_topo.proofs.Parts.{rises_of, parts_of_sorted, left_size_pos, left_size_lt}
use Rattle.cts_topo.proofs.Pivots.{parts_ready, back_again}
use Rattle.cts_topo.proofs.Divisions.{division-pair, division-Shuffled}

-- the other way round, pins are divided along the other axis
pub divisible_turned : (wide : Bool) (along across : List Pin) → IsDivisible wide along across → IsDivisible (not wide) across along
divisible_turned wide along across pins = record {
  some = omega (arith, length-Shuffled pins.same, pins.some);
  distinct = apart-Shuffled pins.same pins.distinct;
  sorted_along = pins.sorted_across;
  sorted_across = back_again wide along pins.sorted_along;
  same = turned_round pins.same;
}

-- half of the pins, rounded up, are some, and some are left
pub half_within : (n half : ℕ) → 2 ≤ n → half ≡ div_ceil n 2 → (0 < half) × (half < n)
unfolding left_size
half_within n half two is =
    (subst (λ k. 0 < k) (sym is) (left_size_pos n (omega arith)), subst (λ k. k < n) (sym is) (left_size_lt n two))

-- the halves of pins that are sorted along their axis
pub halves_of_split : (wide : Bool) (along across all : List Pin) (half : ℕ) (d : Pin) → 2 ≤ length along
    → IsDivisible wide along across → is_wide along ≡ wide → half ≡ div_ceil (length along) 2
    → all ≡ filter (λ p. is_before wide p (get_or along half d)) across ++ filter (λ p. not (is_before wide p (get_or along half d))) across
    → AreHalves wide along all half
unfolding left_size
halves_of_split wide along across all half d two pins axis is split =
    let within = half_within (length along) half two is in
    let parts =
    parts_ready wide along across all (take half along) (drop half along) (take half all) (drop half all) half d two pins.distinct pins.sorted_along
    pins.sorted_across pins.same is split refl refl refl refl in
    let sorted : IsSortedBy (is_before (is_wide along)) along =
    subst (λ w. IsSortedBy (is_before w) along) (sym axis) pins.sorted_along in
    let named = parts_of_sorted along along same (rises_of (is_wide along) along sorted pins.distinct) in
    record {
      left_is = subst (λ n. Shuffled (left_part along) (take n along)) (sym is) (named.0);
      right_is = subst (λ n. Shuffled (right_part along) (drop n along)) (sym is) (named.1);
      left = record {
        some = omega (arith, length-take-le half along (omega (arith, within.1)), within.0);
        distinct = apart-take along half pins.distinct;
        sorted_along = parts.0.along;
        sorted_across = parts.0.across;
        same = parts.0.items;
      };
      right = record {
        some = omega (arith, length-drop half along, within.1);
        distinct = apart-drop along half pins.distinct;
        sorted_along = parts.1.along;
        sorted_across = parts.1.across;
        same = parts.1.items;
      };
    }

module _ (first : ℕ) where
  -- one pin
  pub divided_one : (ps : List Pin) (nodes : List ShapeNode) (d : Pin) → length ps ≡ 1
      → AddsTree first ps nodes (nodes ++ Leaf (get_or ps 0 d).sink ∷ [])
  unfolding division labels
  divided_one [] nodes d h limit fits = absurd (omega arith)
  divided_one (p ∷ []) nodes d h limit fits = refl
  divided_one (p ∷ q ∷ ps) nodes d h limit fits = absurd (omega arith)

  -- more pins: the trees over the two parts one after the other, and then the pair over these
  pub divided_pair : (ps ls rs : List Pin) → 2 ≤ length ps → Shuffled (left_part ps) ls → Shuffled (right_part ps) rs
      → 0 < length ls → 0 < length rs → length ls + length rs ≡ length ps
      → (nodes left both : List ShapeNode) → AddsTree first ls nodes left → AddsTree first rs left both
      → (i j : ℕ) → i + 1 ≡ first + length left → j + 1 ≡ first + length both
      → AddsTree first ps nodes (both ++ Pair i j ∷ [])
  unfolding labels
  divided_pair ps ls rs two left_same right_same left_some right_some total nodes left both left_is both_is i j i_is j_is zero fits =
      absurd (omega arith)
  divided_pair ps ls rs two left_same right_same left_some right_some total nodes left both left_is both_is i j i_is j_is (suc limit) fits =
      let base : ℕ = first + length nodes in
      let l : BinaryTree ShapeNode = division limit base (left_part ps) in
      let r : BinaryTree ShapeNode = division limit (base + size l) (right_part ps) in
      let left_tree : left ≡ nodes ++ labels l =
      left_is limit (omega (arith, total, right_some))
      ∙ ap (λ t. nodes ++ labels t) (sym (division-Shuffled limit base (left_part ps) ls left_same)) in
      let left_long : first + length left ≡ base + size l =
      omega (arith, ap length left_tree ∙ length-append nodes (labels l), length-labels l) in
      let both_tree : both ≡ left ++ labels r =
      both_is limit (omega (arith, total, left_some))
      ∙ ap (λ n. left ++ labels (division limit n rs)) left_long
      ∙ ap (λ t. left ++ labels t)
      (sym (division-Shuffled limit (base + size l) (right_part ps) rs right_same)) in
      let both_long : first + length both ≡ base + size l + size r =
      omega (arith, ap length both_tree ∙ length-append left (labels r), left_long, length-labels r) in
      let a : i ≡ root_number base l = omega (arith, i_is, left_long, root_number-next base l) in
      let b : j ≡ root_number (base + size l) r =
      omega (arith, j_is, both_long, root_number-next (base + size l) r) in
      let n : ShapeNode = Pair (root_number base l) (root_number (base + size l) r) in
      let regroup : (nodes ++ labels l) ++ labels r ++ n ∷ [] ≡ nodes ++ (labels l ++ labels r ++ n ∷ []) = simp append_assoc in
      ap₂ (λ x y. both ++ Pair x y ∷ []) a b
      ∙ ap (λ ns. ns ++ Pair (root_number base l) (root_number (base + size l) r) ∷ [])
      (both_tree ∙ ap (λ ns. ns ++ labels r) left_tree)
      ∙ regroup
      ∙ ap (λ t. nodes ++ labels t) (sym (division-pair limit base ps two))

  -- two pins in their order
  pub divided_two : (ps : List Pin) (nodes : List ShapeNode) (d e : Pin) → length ps ≡ 2 → AreApart ps
      → IsSortedBy (is_before (is_wide ps)) ps
      → AddsTree first ps nodes (nodes ++ Leaf (get_or ps 0 d).sink ∷ Leaf (get_or ps 1 e).sink ∷ Pair (first + length nodes) (first + length nodes + 1) ∷ [])
  unfolding left_size
  divided_two [] nodes d e h distinct sorted limit fits = absurd (omega arith)
  divided_two (p ∷ []) nodes d e h distinct sorted limit fits = absurd (omega arith)
  divided_two (p ∷ q ∷ r ∷ ps) nodes d e h distinct sorted limit fits = absurd (omega arith)
  divided_two (p ∷ q ∷ []) nodes d e h distinct sorted limit fits =
      let ps : List Pin = p ∷ q ∷ [] in
      let left : List ShapeNode = nodes ++ Leaf p.sink ∷ [] in
      let both : List ShapeNode = left ++ Leaf q.sink ∷ [] in
      let left_long : length left ≡ length nodes + 1 = length-append nodes (Leaf p.sink ∷ []) in
      let both_long : length both ≡ length nodes + 1 + 1 = length-append left (Leaf q.sink ∷ []) ∙ ap (λ n. n + 1) left_long in
      let named = parts_of_sorted ps ps same (rises_of (is_wide ps) ps sorted distinct) in
      let regroup : both ++ Pair (first + length nodes) (first + length nodes + 1) ∷ []
      ≡ nodes ++ Leaf p.sink ∷ Leaf q.sink ∷ Pair (first + length nodes) (first + length nodes + 1) ∷ [] = simp append_assoc in
      sym regroup
      ∙ divided_pair ps (p ∷ []) (q ∷ []) (omega arith) (named.0) (named.1) (omega arith) (omega arith) refl nodes left both
      (divided_one (p ∷ []) nodes p refl) (divided_one (q ∷ []) left q refl) _ _ (omega (arith, left_long)) (omega (arith, both_long)) limit fits
