-- The definitions on worked pairs: the first place on a segment, and a balance over routes of 2 nm and 3 nm to two sinks of
-- 5 zF each, with a wire of 1 µΩ and 1 zF per nm. Both wires get 3 nm, for 3·13 = 39 on both sides.
use Rattle.std.proofs.Common.{◌≡◌, ℕ, ◌+◌, ◌*◌, ◌≤◌, inl, inr, pos, neg_ℤ, List, [], ◌∷◌, None, refl, ap, arith, mul-le-mul}
use Rattle.std.specs.Int.{abs_diff}
use Rattle.std.proofs.lemmas.Bool.{cases_lt}
use Rattle.std.proofs.lemmas.Int.{ints}
use Rattle.cts_geom.specs.declared.regions.Region.{Region}
use Rattle.cts_geom.specs.Coordinate.{interval_gap}
use Rattle.cts_geom.specs.Points.{spot_at}
use Rattle.cts_geom.specs.Regions.{IsNearest, nearest_of}
use Rattle.cts_geom.proofs.RegionLemmas.{nearest_one}
use Rattle.cts_units.specs.declared.params.Sink.{Sink}
use Rattle.cts_units.specs.declared.params.Params.{Params}
use Rattle.cts_units.specs.Delay.{wire_delay_of}
use Rattle.cts_postorder.specs.BinaryTree.{BinaryTree, tip, fork, label}
use Rattle.cts_merge.specs.LeastPair.{Covers}
use Rattle.cts_tree.specs.declared.nodes.NodeKind.TheVariants.{Leaf, Pair}
use Rattle.cts_tree.specs.declared.nodes.TreeNode.{TreeNode}
use Rattle.cts_embed.specs.declared.node.NodeBalance.{NodeBalance}
use Rattle.cts_embed.specs.Balance.{IsBalance, IsPairBalance, IsWirePair, delay_through}

-- the points (x, 5 - x) from (1, 4) to (5, 0) are all 5 away from (0, 0), and (1, 4) has the least v
segment : Region
segment = record { u1 = pos 5; u2 = pos 5; v1 = neg_ℤ (pos 3); v2 = pos 5; u_ordered = omega (arith, ints); v_ordered = omega (arith, ints) }

example_first_place : IsNearest segment (spot_at (pos 0) (pos 0)) (spot_at (pos 1) (pos 4))
unfolding segment nearest_of interval_gap
example_first_place = (nearest_one segment (spot_at (pos 0) (pos 0)) (spot_at (pos 1) (pos 4))).1 refl

abbrev params : Params
params = record { wire = record { r = 1; c = 1 }; library = []; insert_at = 100 }

abbrev sinks : List Sink
sinks = record { id = 1; x = pos 0; y = pos 0; cap = 5; offset = 0 } ∷ record { id = 2; x = pos 5; y = pos 0; cap = 5; offset = 0 } ∷ []

-- the sink of this number, with its route of so many nm from the pair at (2, 0)
abbrev leaf : ℕ → ℕ → ℕ → BinaryTree TreeNode
leaf number x len =
    tip (record { kind = Leaf (number + 1) number; place = spot_at (pos x) (pos 0); wire = 0; route = record { corners = []; length = len } })

abbrev root : TreeNode
root = record { kind = Pair 0 1 None; place = spot_at (pos 2) (pos 0); wire = 0; route = record { corners = []; length = 2 } }

abbrev below : NodeBalance
below = record { greatest = 0; least = 0; load = 5; left_wire = 0; right_wire = 0; wires = 0 }

abbrev pair : NodeBalance
pair = record { greatest = 39; least = 39; load = 16; left_wire = 3; right_wire = 3; wires = 6 }

delay_is : (x : ℕ) → delay_through params.wire below x ≡ x * (x + 10)
unfolding wire_delay_of
delay_is x = omega arith

only_three : (x : ℕ) → 2 ≤ x → x * (x + 10) ≡ 39 → x ≡ 3
only_three x low is =
    elim (cases_lt x 3) [
      | inl less ↦
          let two : x ≡ 2 = omega arith in
          let value : x * (x + 10) ≡ 2 * 12 = ap (λ y. y * (y + 10)) two in
          absurd (omega (arith, value, is))
      | inr more ↦ elim (cases_lt x 4) [
        | inl less ↦ omega arith
        | inr past ↦
            let far : 14 ≤ x + 10 = omega arith in
            let product : 4 * 14 ≤ x * (x + 10) = mul-le-mul past far in
            absurd (omega (arith, product, is))
      ]
    ]

both_three : (x y : ℕ) → Covers 2 3 x y → delay_through params.wire below x ≡ delay_through params.wire below y → (x ≡ 3) × (y ≡ 3)
both_three x y ok same =
    elim ok [
      | inl kept ↦
          let value : x * (x + 10) ≡ 2 * 12 = ap (λ z. z * (z + 10)) (kept.0) in
          let far : 3 + 10 ≤ y + 10 = omega (arith, kept.1) in
          let product : 3 * 13 ≤ y * (y + 10) = mul-le-mul (kept.1) far in
          absurd (omega (arith, value, product, same, delay_is x, delay_is y))
      | inr kept ↦
          let value : y * (y + 10) ≡ 3 * 13 = ap (λ z. z * (z + 10)) (kept.0) in
          (only_three x (kept.1) (omega (arith, value, same, delay_is x, delay_is y)), kept.0)
    ]

wires_are_least : IsWirePair params.wire below 2 below 3 3 3
wires_are_least =
    let P : ℕ → ℕ = delay_through params.wire below in
    let none : abs_diff (P 3) (P 3) ≡ 0 = omega arith in
    record {
      admissible = inr (refl, omega arith);
      no_later = λ x y ok. record {
        by_difference = omega (arith, none);
        by_total = λ same. let both : (x ≡ 3) × (y ≡ 3) = both_three x y ok (omega (arith, same, none)) in omega (arith, both.0, both.1);
        by_length = λ same total. let both : (x ≡ 3) × (y ≡ 3) = both_three x y ok (omega (arith, same, none)) in omega (arith, both.0);
      };
    }

pair_is : IsPairBalance params None below 2 below 3 pair
unfolding wire_delay_of
pair_is = record {
  wires = wires_are_least;
  load = refl;
  greatest = refl;
  least = refl;
  total = refl;
  left_within = omega arith;
  right_within = omega arith;
  load_within = omega arith;
  greatest_within = omega arith;
}

example_balance : IsBalance params sinks (fork (leaf 0 0 2) (leaf 1 5 3) root) pair
unfolding IsBalance label
example_balance = (
  below,
  below,
  record { greatest = refl; least = refl; load = refl; left_wire = refl; right_wire = refl; total = refl },
  record { greatest = refl; least = refl; load = refl; left_wire = refl; right_wire = refl; total = refl },
  pair_is,
)

-- Where the first of two such sinks wants its edge earlier by 40, the balance begins with 80 there: over routes of 3 nm and 7 nm
-- both sides have 80 + 39 = 119 = 7 * 17.
abbrev early_sinks : List Sink
early_sinks = record { id = 1; x = pos 0; y = pos 0; cap = 5; offset = 40 } ∷ record { id = 2; x = pos 10; y = pos 0; cap = 5; offset = 0 } ∷ []

abbrev early : NodeBalance
early = record { greatest = 80; least = 80; load = 5; left_wire = 0; right_wire = 0; wires = 0 }

abbrev early_pair : NodeBalance
early_pair = record { greatest = 119; least = 119; load = 20; left_wire = 3; right_wire = 7; wires = 10 }

early_wires : IsWirePair params.wire early 3 below 7 3 7
unfolding wire_delay_of
early_wires = record {
  admissible = inl (refl, omega arith);
  no_later = λ x y ok. record {
    by_difference = omega arith;
    by_total = λ same. elim ok [ inl kept ↦ omega (arith, kept.0, kept.1) | inr kept ↦ omega (arith, kept.0, kept.1) ];
    by_length = λ same total. elim ok [ inl kept ↦ omega (arith, kept.0) | inr kept ↦ omega (arith, kept.1) ];
  };
}

early_pair_is : IsPairBalance params None early 3 below 7 early_pair
unfolding wire_delay_of
early_pair_is = record {
  wires = early_wires;
  load = refl;
  greatest = refl;
  least = refl;
  total = refl;
  left_within = omega arith;
  right_within = omega arith;
  load_within = omega arith;
  greatest_within = omega arith;
}

early_balance : IsBalance params early_sinks (fork (leaf 0 0 3) (leaf 1 10 7) root) early_pair
unfolding IsBalance label
early_balance = (
  early,
  below,
  record { greatest = refl; least = refl; load = refl; left_wire = refl; right_wire = refl; total = refl },
  record { greatest = refl; least = refl; load = refl; left_wire = refl; right_wire = refl; total = refl },
  early_pair_is,
)
