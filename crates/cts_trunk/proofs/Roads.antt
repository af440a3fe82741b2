-- The trunk of a sound tree is a road.
use Rattle.std.proofs.Common.{◌≡◌, ℕ, ◌-◌, ◌*◌, ◌/◌, ◌^◌, ◌<◌, ◌≤◌, inl, inr, ℤ, ◌+ℤ◌, List, [], ◌∷◌, ◌++◌, ap, subst, ◌∙◌, arith}
use Rattle.std.specs.List.{All}
use Rattle.std.proofs.Math.Nat.{div-le_self, div-mul-le_self}
use Rattle.std.proofs.lemmas.Int.{ints}
use Rattle.std.proofs.lemmas.List.Elements.{All-cons, All-nil, All-weaker}
use Rattle.cts_geom.specs.declared.points.Half.{Half}
use Rattle.cts_geom.specs.declared.points.Spot.{Spot}
use Rattle.cts_geom.specs.declared.bounds.Die.{Die}
use Rattle.cts_geom.specs.Points.{IsHalfInRange, IsSpotInRange, point_of}
use Rattle.cts_block.specs.declared.blocks.Block.{Block}
use Rattle.cts_block.specs.FreePoints.{IsFreeForWire, IsHalfInDie}
use Rattle.cts_block.specs.NearestFree.{IsDieInRange, LiesIn}
use Rattle.cts_tree.specs.declared.nodes.TreeNode.{TreeNode}
use Rattle.cts_tree.specs.Path.{points_along, path_length, IsWithin, AllAlong}
use Rattle.cts_instance.specs.declared.parts.Parts.{Parts}
use Rattle.cts_instance.specs.Validity.{IsBlock, IsDie, IsValid}
use Rattle.cts_elmore.specs.Sound.{IsLegalRoute, upper_end}
use Rattle.cts_trunk.specs.Places.{trunk_way}
use Rattle.cts_trunk.specs.Laid.{HasTautTrunk}
use Rattle.cts_trunk.specs.Road.{IsBlockOnChip, IsRoad}
use Rattle.cts_trunk.proofs.Ahead.{half_in_range}
use Rattle.cts_trunk.proofs.Steps.{up, down, level, turn}

along_weaker : (P Q : Half → Type 0) → ((r : Half) → P r → Q r) → (points : List Half) → AllAlong P points → AllAlong Q points
unfolding AllAlong
along_weaker P Q weaker [] all = tt
along_weaker P Q weaker (p ∷ []) all = weaker p all
along_weaker P Q weaker (p ∷ q ∷ points) all = (λ r on. weaker r (all.0 r on), along_weaker P Q weaker (q ∷ points) (all.1))

begins : (a b : ℤ) → IsWithin a b a
begins a b = elim (turn a b) [
  | up h ↦ inl (omega (arith, ints), omega (arith, ints, h))
  | down h ↦ inr (omega (arith, ints, h), omega (arith, ints))
  | level h ↦ inl (omega (arith, ints), omega (arith, ints, h))
]

each_along : (P : Half → Type 0) (points : List Half) → AllAlong P points → All P points
unfolding AllAlong
each_along P [] all = All-nil P
each_along P (p ∷ []) all = All-cons P p [] all (All-nil P)
each_along P (p ∷ q ∷ points) all =
    All-cons P p (q ∷ points) (all.0 p (record { x = begins p.x q.x; y = begins p.y q.y })) (each_along P (q ∷ points) (all.1))

along_last : (P : Half → Type 0) (points : List Half) (goal : Half) → AllAlong P (points ++ goal ∷ []) → P goal
unfolding AllAlong
along_last P [] goal all = all
along_last P (p ∷ []) goal all = all.1
along_last P (p ∷ q ∷ points) goal all = along_last P (q ∷ points) goal (all.1)

no_length : (from to : Half) → from ≡ to → path_length (from ∷ to ∷ []) ≡ 0
unfolding path_length
no_length from to same = omega (arith, ints, ap (λ (p : Half). p.x) same, ap (λ (p : Half). p.y) same)

pub spot_in_range : (die : Die) → IsDie die → (place : Spot) → IsHalfInDie die (point_of place) → IsSpotInRange place
spot_in_range die is place inside = record {
  u = record {
    low = omega (arith, ints, inside.x.at_least, inside.y.at_least, is.x_low, is.y_low);
    high = omega (arith, ints, inside.x.at_most, inside.y.at_most, is.x_high, is.y_high);
  };
  v = record {
    low = omega (arith, ints, inside.x.at_least, inside.y.at_most, is.x_low, is.y_high);
    high = omega (arith, ints, inside.x.at_most, inside.y.at_least, is.x_high, is.y_low);
  };
}

module _ (i : Parts) (valid : IsValid i) where
  pub die_in_range : IsDieInRange i.die
  die_in_range =
      let die : IsDie i.die = valid.die in
      record {
        x1 = record { low = omega (arith, ints, die.x_low); high = omega (arith, ints, die.x_order, die.x_high) };
        y1 = record { low = omega (arith, ints, die.y_low); high = omega (arith, ints, die.y_order, die.y_high) };
        x2 = record { low = omega (arith, ints, die.x_low, die.x_order); high = omega (arith, ints, die.x_high) };
        y2 = record { low = omega (arith, ints, die.y_low, die.y_order); high = omega (arith, ints, die.y_high) };
        x_ordered = die.x_order;
        y_ordered = die.y_order;
      }

  pub blocks_lie : All (LiesIn i.die) i.blocks
  blocks_lie = λ k d h.
      let b : IsBlock i.die _ = valid.blocks k d h in
      record {
        from = b.from;
        to = b.to;
      }

  on_chip : (block : Block) → IsBlock i.die block → IsBlockOnChip block
  on_chip block b =
      let die : IsDie i.die = valid.die in
      record {
        x1 = record { low = omega (arith, ints, b.from.west, die.x_low); high = omega (arith, ints, b.from.east, die.x_high) };
        x2 = record { low = omega (arith, ints, b.to.west, die.x_low); high = omega (arith, ints, b.to.east, die.x_high) };
        y1 = record { low = omega (arith, ints, b.from.south, die.y_low); high = omega (arith, ints, b.from.north, die.y_high) };
        y2 = record { low = omega (arith, ints, b.to.south, die.y_low); high = omega (arith, ints, b.to.north, die.y_high) };
      }

  module _ (root : TreeNode) (legal : IsLegalRoute i.blocks i.die (upper_end i []) (point_of root.place) root.route) where
    source_in_die : IsHalfInDie i.die (upper_end i [])
    source_in_die = record {
      x = record { at_least = omega (arith, ints, valid.source.west); at_most = omega (arith, ints, valid.source.east) };
      y = record { at_least = omega (arith, ints, valid.source.south); at_most = omega (arith, ints, valid.source.north) };
    }

    root_in_die : IsHalfInDie i.die (point_of root.place)
    root_in_die = elim legal [
      | inl same ↦ subst (IsHalfInDie i.die) (same.0) source_in_die
      | inr way ↦
          along_last (IsHalfInDie i.die) (upper_end i [] ∷ root.route.corners) (point_of root.place)
          (along_weaker (IsFreeForWire i.blocks i.die) (IsHalfInDie i.die) (λ r free. free.in_die) (trunk_way i root) (way.1))
    ]

    pub place_in_range : IsSpotInRange root.place
    place_in_range = spot_in_range i.die valid.die root.place root_in_die

    -- where the trunk has a length, it is a road
    pub trunk_is_road : HasTautTrunk i root → root.wire < 2 ^ 31 → 0 < root.wire → IsRoad i.blocks i.die (trunk_way i root)
    trunk_is_road taut short some = elim legal [
      | inl same ↦
          let none : path_length (trunk_way i root) ≡ 0 =
          ap (λ corners. path_length (points_along (upper_end i []) corners (point_of root.place))) (same.1)
          ∙ no_length (upper_end i []) (point_of root.place) (same.0) in
          absurd (omega (arith, taut, none, some))
      | inr way ↦
          let inside : AllAlong (IsHalfInDie i.die) (trunk_way i root) =
          along_weaker (IsFreeForWire i.blocks i.die) (IsHalfInDie i.die) (λ r free. free.in_die) (trunk_way i root) (way.1) in
          record {
            range = record {
              each_point = All-weaker (IsHalfInDie i.die) IsHalfInRange (half_in_range i.die valid.die) (trunk_way i root)
                  (each_along (IsHalfInDie i.die) (trunk_way i root) inside);
              short = omega (arith, taut, short);
            };
            die_is = valid.die;
            blocks_are = All-weaker (IsBlock i.die) IsBlockOnChip on_chip i.blocks valid.blocks;
            axes = way.0;
            in_die = inside;
            even = record { half = i.source_x +ℤ i.source_y; is = omega (arith, ints) };
          }
    ]

-- the multiples of a step below a length
pub last_multiple : (wire step : ℕ) → 0 < (wire - 1) / step → (0 < wire) × ((wire - 1) / step * step < wire)
last_multiple wire step some =
    let known : (wire - 1) / step ≤ wire - 1 = div-le_self (wire - 1) step in
    let multiple : (wire - 1) / step * step ≤ wire - 1 = div-mul-le_self (wire - 1) step in (
      omega (arith, some, known),
      omega (arith, some, known, multiple),
    )
