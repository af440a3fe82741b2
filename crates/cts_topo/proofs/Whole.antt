-- The shape over a list of sinks: each sink once, its nodes, its depth.
use Rattle.std.proofs.Common.{◌≡◌, ℕ, zero, suc, ◌+◌, ◌*◌, ◌^◌, ◌<◌, ◌≤◌, ◌==◌, true, false, cond, List, [], ◌∷◌, ◌++◌, map, length, count_by, IsSortedBy, Some, refl, sym, ap, ◌∙◌, arith}
use Rattle.std.specs.List.{AllByRecursion}
use Rattle.std.proofs.lemmas.List.Elements.{All-from_recursion}
use Rattle.std.proofs.lemmas.Bool.Decides.{nat_tests}
use Rattle.cts_units.specs.declared.params.Sink.{Sink}
use Rattle.cts_postorder.specs.BinaryTree.{depth, labels, IsNumbered}
use Rattle.cts_postorder.specs.PostOrder.{IsPostOrder, root_of}
use Rattle.cts_postorder.proofs.Sizes.{length-labels}
use Rattle.cts_postorder.proofs.Spelling.{IsPostOrder-labels}
use Rattle.cts_postorder.proofs.Lists.{root_of-labels}
use Rattle.cts_topo.specs.declared.shape.ShapeNode.{ShapeNode}
use Rattle.cts_topo.specs.declared.pin.Pin.{Pin}
use Rattle.cts_topo.specs.Shape.{children, leaf_sinks, IsShapeOver}
use Rattle.cts_topo.specs.Sinks.{AreSinks}
use Rattle.cts_topo.specs.Laws.{IsDivided, ShapesAreDivided, ShapesNameEachSink, ShapesAreShallow}
use Rattle.cts_topo.proofs.Apart.{AreApart, apart-Shuffled}
use Rattle.cts_topo.specs.Topology.{is_before, pins_from, division, topology_of, shape_of, AddsTree}
use Rattle.cts_topo.specs.Divisible.{IsDivisible}
use Rattle.cts_topo.proofs.Shuffles.{Shuffled, same, skip, turn, chain, sum_by-Shuffled}
use Rattle.cts_topo.proofs.Ranks.{count_by-cons}
use Rattle.cts_topo.proofs.Divisions.{division-Shuffled, IsNumbered-division, size-division, leaf_sinks-division, depth-division, IsDivided-division}
use Rattle.cts_topo.proofs.Shuffles.{Shuffled, length-Shuffled}
use Rattle.cts_topo.proofs.PinsFrom.{length-pins_from, distinct_pins}

all-Shuffled : {X : Type 0} (P : X → Type 0) {xs ys : List X} → Shuffled xs ys → AllByRecursion P xs → AllByRecursion P ys
all-Shuffled P same all = all
all-Shuffled P (skip s) all = (all.0, all-Shuffled P s (all.1))
all-Shuffled P turn all = (all.1.0, (all.0, all.1.1))
all-Shuffled P (chain s t) all = all-Shuffled P t (all-Shuffled P s all)

-- the places of the sinks, from `place` on
abbrev places : ℕ → List Sink → List ℕ
places place sinks = map (λ (p : Pin). p.sink) (pins_from place sinks)

places_below : (place count : ℕ) (sinks : List Sink) → place + length sinks ≤ count
    → AllByRecursion (λ k. k < count) (places place sinks)
places_below place count [] h = tt
places_below place count (s ∷ sinks) h = (omega arith, places_below (place + 1) count sinks (omega arith))

not_before : (k place : ℕ) (sinks : List Sink) → k < place → count_by (λ j. j == k) (places place sinks) ≡ 0
not_before k place [] h = refl
not_before k place (s ∷ sinks) h =
    let test : ◌≡◌ {A = ℕ} (cond (place == k) 1 0) 0 = grind (arith, nat_tests) in
    omega (arith, count_by-cons (λ j. j == k) place (places (place + 1) sinks), test, not_before k (place + 1) sinks (omega arith))

once_each : (k i place : ℕ) (sinks : List Sink) → k ≡ place + i → i < length sinks
    → count_by (λ j. j == k) (places place sinks) ≡ 1
once_each k i place [] is h = absurd (omega arith)
once_each k zero place (s ∷ sinks) is h =
    let test : ◌≡◌ {A = ℕ} (cond (place == k) 1 0) 1 = grind (arith, nat_tests) in
    omega (arith, count_by-cons (λ j. j == k) place (places (place + 1) sinks), test, not_before k (place + 1) sinks (omega arith))
once_each k (suc i) place (s ∷ sinks) is h =
    let test : ◌≡◌ {A = ℕ} (cond (place == k) 1 0) 0 = grind (arith, nat_tests) in
    omega (
      arith,
      count_by-cons (λ j. j == k) place (places (place + 1) sinks),
      test,
      once_each k i (place + 1) sinks (omega arith) (omega arith),
    )

module _ (sinks : List Sink) (are : AreSinks sinks) where
  pins_some : 0 < length (pins_from 0 sinks)
  pins_some = omega (arith, length-pins_from 0 sinks, are.some)

  pins_apart : AreApart (pins_from 0 sinks)
  pins_apart = distinct_pins 0 sinks are.distinct

  numbered : IsNumbered children 0 (topology_of sinks)
  unfolding topology_of
  numbered = IsNumbered-division (length sinks) 0 (pins_from 0 sinks)

  pub shape_is_post_order : IsPostOrder (map children (shape_of sinks))
  unfolding shape_of
  shape_is_post_order = IsPostOrder-labels children (topology_of sinks) numbered

  pub root_of_shape : root_of children (shape_of sinks) ≡ Some (topology_of sinks)
  unfolding shape_of
  root_of_shape = root_of-labels children (topology_of sinks) numbered

  pub length-shape_of : length (shape_of sinks) + 1 ≡ 2 * length sinks
  unfolding shape_of topology_of
  length-shape_of =
      omega (
        arith,
        length-labels (topology_of sinks),
        size-division (length sinks) 0 (pins_from 0 sinks) pins_some (omega (arith, length-pins_from 0 sinks)) pins_apart,
        length-pins_from 0 sinks,
      )

  leaves : Shuffled (places 0 sinks) (leaf_sinks (shape_of sinks))
  unfolding shape_of topology_of
  leaves =
      leaf_sinks-division (length sinks) 0 (pins_from 0 sinks) pins_some (omega (arith, length-pins_from 0 sinks)) pins_apart

  pub shape_is_over : IsShapeOver (length sinks) (shape_of sinks)
  shape_is_over = record {
    post_order = shape_is_post_order;
    within = All-from_recursion (λ k. k < length sinks) (leaf_sinks (shape_of sinks))
        (all-Shuffled (λ k. k < length sinks) leaves (places_below 0 (length sinks) sinks (omega arith)));
    once = λ k h. sym (sum_by-Shuffled (λ j. cond (j == k) 1 0) leaves) ∙ once_each k k 0 sinks (omega arith) h;
  }

  pub depth-topology_of : (d : ℕ) → length sinks ≤ 2 ^ d → depth (topology_of sinks) ≤ d
  unfolding topology_of
  depth-topology_of d h =
      depth-division d (length sinks) 0 (pins_from 0 sinks) (omega (arith, length-pins_from 0 sinks)) pins_apart

  pub IsDivided-topology_of : IsDivided (pins_from 0 sinks) (topology_of sinks)
  unfolding topology_of
  IsDivided-topology_of =
      IsDivided-division (length sinks) 0 (pins_from 0 sinks) pins_some (omega (arith, length-pins_from 0 sinks)) pins_apart

-- the public laws
pub shapes_are_divided_lem : ShapesAreDivided
shapes_are_divided_lem sinks are = (root_of_shape sinks are, IsDivided-topology_of sinks are)

pub shapes_name_each_sink_lem : ShapesNameEachSink
shapes_name_each_sink_lem sinks are = (shape_is_over sinks are, length-shape_of sinks are)

pub shapes_are_shallow_lem : ShapesAreShallow
shapes_are_shallow_lem sinks are = (depth-topology_of sinks are, depth-topology_of sinks are 16 are.few)

-- the pins of sinks, sorted along x and along y, can be divided
pub divisible_pins : (sinks : List Sink) (by_x by_y : List Pin) → AreSinks sinks → Shuffled (pins_from 0 sinks) by_x
    → IsSortedBy (is_before true) by_x → Shuffled by_x by_y → IsSortedBy (is_before false) by_y → IsDivisible true by_x by_y
divisible_pins sinks by_x by_y are items sorted_x alike sorted_y = record {
  some = omega (arith, length-Shuffled items, length-pins_from 0 sinks, are.some);
  distinct = apart-Shuffled items (distinct_pins 0 sinks are.distinct);
  sorted_along = sorted_x;
  sorted_across = sorted_y;
  same = alike;
}

-- what the code divides is the shape of the definition
pub shuffled_is_shape : (sinks : List Sink) (pins : List Pin) (before nodes : List ShapeNode) → Shuffled (pins_from 0 sinks) pins
    → before ≡ [] → AddsTree 0 pins before nodes → nodes ≡ shape_of sinks
unfolding shape_of topology_of
shuffled_is_shape sinks pins before nodes items empty divided =
    divided (length sinks) (omega (arith, length-Shuffled items, length-pins_from 0 sinks))
    ∙ ap (λ ns. ns ++ labels (division (length sinks) (0 + length ns) pins)) empty
    ∙ ap labels (sym (division-Shuffled (length sinks) 0 (pins_from 0 sinks) pins items))
