-- The definition of a plan, on a worked shape: two sinks of 5 and 10 zF, 10 nm apart, with a wire of 1 µΩ and 1 zF per nm
-- and no buffer. The wires are 6 nm and 4 nm long, for 6·16 = 4·24 = 96 on both sides.
use Rattle.std.proofs.Common.{◌≡◌, ℕ, ◌+◌, ◌*◌, ◌<◌, ◌≤◌, inl, inr, pos, [], ◌∷◌, None, refl, sym, arith, mul-le-mul}
use Rattle.std.specs.Int.{abs_diff}
use Rattle.std.proofs.lemmas.Bool.{cases_lt}
use Rattle.cts_geom.specs.declared.regions.Region.{Region}
use Rattle.cts_geom.specs.Coordinate.{interval_gap}
use Rattle.cts_geom.specs.Regions.{gap_of}
use Rattle.cts_geom.proofs.RegionLemmas.{meet_is}
use Rattle.cts_units.specs.declared.params.Sink.{Sink}
use Rattle.cts_units.specs.declared.params.Params.{Params}
use Rattle.cts_units.specs.Delay.{wire_delay_of}
use Rattle.cts_postorder.specs.PostOrder.{trees_of, grow, tree_over}
use Rattle.cts_topo.specs.declared.shape.ShapeNode.TheVariants.{Leaf, Pair}
use Rattle.cts_merge.specs.declared.side.Finished.{Finished}
use Rattle.cts_merge.specs.Side.{delay_through}
use Rattle.cts_merge.specs.Merge.{IsLeaf, IsMergePair, IsMerged}
use Rattle.cts_merge.proofs.Exists.{spot_region, sink_leaf_is}
use Rattle.cts_up.specs.Plan.{IsFinished, IsPlan}

abbrev params : Params
params = record { wire = record { r = 1; c = 1 }; library = []; insert_at = 0 }

abbrev first : Sink
first = record { id = 1; x = pos 0; y = pos 0; cap = 5; offset = 0 }

abbrev second : Sink
second = record { id = 2; x = pos 10; y = pos 0; cap = 10; offset = 0 }

-- the region of the point (x, 0)
abbrev at : ℕ → Region
at x = spot_region (record { u = pos x; v = pos x })

abbrev leaf : ℕ → ℕ → Finished
leaf x cap = record { side = record { greatest = 0; load = cap; region = at x }; ea = 0; eb = 0; buffer = None }

abbrev pair : Finished
pair = record { side = record { greatest = 96; load = 25; region = at 6 }; ea = 6; eb = 4; buffer = None }

first_is : IsLeaf first (leaf 0 5)
first_is = sink_leaf_is first

second_is : IsLeaf second (leaf 10 10)
second_is = sink_leaf_is second

gap_is : gap_of (at 0) (at 10) ≡ 10
unfolding gap_of interval_gap
gap_is = refl

-- the delays of the two sides through a wire
first_delay : (x : ℕ) → delay_through params.wire (leaf 0 5).side x ≡ x * (x + 10)
unfolding wire_delay_of
first_delay x = omega arith

second_delay : (y : ℕ) → delay_through params.wire (leaf 10 10).side y ≡ y * (y + 20)
unfolding wire_delay_of
second_delay y = omega arith

-- on a shorter first wire the first side is the faster one
too_short : (x y : ℕ) → x < 6 → x + y ≡ 10 → x * (x + 10) < y * (y + 20)
too_short x y h whole =
    let x_most : x ≤ 5 = omega arith in
    let first_most : x + 10 ≤ 15 = omega arith in
    let y_least : 5 ≤ y = omega arith in
    let second_least : 25 ≤ y + 20 = omega arith in
    let low : x * (x + 10) ≤ 5 * 15 = mul-le-mul x_most first_most in
    let high : 5 * 25 ≤ y * (y + 20) = mul-le-mul y_least second_least in
    omega (arith, low, high)

pair_is_least : IsMergePair params.wire (leaf 0 5).side (leaf 10 10).side 6 4
pair_is_least =
    let P : ℕ → ℕ = delay_through params.wire (leaf 0 5).side in
    let Q : ℕ → ℕ = delay_through params.wire (leaf 10 10).side in
    let none : abs_diff (P 6) (Q 4) ≡ 0 = omega (arith, first_delay 6, second_delay 4) in
    record {
      admissible = inl (sym gap_is);
      no_later = λ x y ok. record {
        by_difference = omega (arith, none);
        by_total = λ same. omega (arith, ok, gap_is);
        by_length = λ same total. elim (cases_lt x 6) [
          | inr enough ↦ enough
          | inl short ↦
              let faster : x * (x + 10) < y * (y + 20) = too_short x y short (omega arith) in
              absurd (omega (arith, none, same, faster, first_delay x, second_delay y))
        ];
      };
    }

pair_is : IsMerged params (leaf 0 5).side (leaf 10 10).side pair
unfolding wire_delay_of
pair_is = record {
  least = pair_is_least;
  region = meet_is (at 0) 6 (at 10) 4 (at 6) (record { u1 = refl; u2 = refl; v1 = refl; v2 = refl });
  buffer = inr refl;
  load = refl;
  greatest = refl;
  ea_within = omega arith;
  eb_within = omega arith;
  load_within = omega arith;
  greatest_within = omega arith;
}

example_plan : IsPlan params (first ∷ second ∷ []) (Leaf 0 ∷ Leaf 1 ∷ Pair 0 1 ∷ []) (leaf 0 5 ∷ leaf 10 10 ∷ pair ∷ [])
unfolding IsFinished trees_of grow tree_over
example_plan = (
  first_is,
  (
    second_is,
    ((leaf 0 5, leaf 10 10, first_is, second_is, pair_is), tt),
  ),
)
