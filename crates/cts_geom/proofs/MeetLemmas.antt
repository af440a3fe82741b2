-- What a meet keeps of the two regions that it joins.
use Rattle.std.proofs.Common.{◌≡◌, ℕ, ◌+◌, ◌*◌, ◌<◌, ◌≤◌, max, ℤ, pos, ◌+ℤ◌, ◌≤ℤ◌, ◌⊎◌, inl, inr, ◌∙◌, arith}
use Rattle.std.proofs.lemmas.Int.{ints, clamps}
use Rattle.std.proofs.lemmas.Bool.{cases_lt}
use Rattle.cts_geom.specs.declared.points.Half.{Half}
use Rattle.cts_geom.specs.declared.points.Spot.{Spot}
use Rattle.cts_geom.specs.declared.regions.Region.{Region}
use Rattle.cts_geom.specs.Coordinate.{int_abs_diff, interval_gap}
use Rattle.cts_geom.specs.Points.{point_of, manhattan_of, distance_of}
use Rattle.cts_geom.specs.Regions.{ContainsSpot, IsInReach, gap_of, IsMeet}
use Rattle.cts_geom.specs.RegionLaws.{IsInBox, IsBoxed, MeetStaysInBox, IsSegment, MeetIsSegment}
use Rattle.cts_geom.proofs.PointLemmas.{distance_manhattan}
use Rattle.cts_geom.proofs.RegionLemmas.{IsWidened, widened_from_within, gap_of-is, gap_of-bound, low_corner-inside, high_corner-inside}

-- ---- the box
triangle : (q p s : ℤ) → int_abs_diff q s ≤ int_abs_diff q p + int_abs_diff p s
triangle q p s = omega (arith, ints)

not_below : (q p s low : ℤ) → int_abs_diff q p + int_abs_diff p s ≤ int_abs_diff q s → low ≤ℤ q → low ≤ℤ s → low ≤ℤ p
not_below q p s low straight at_q at_s = omega (arith, ints)

not_above : (q p s high : ℤ) → int_abs_diff q p + int_abs_diff p s ≤ int_abs_diff q s → q ≤ℤ high → s ≤ℤ high → p ≤ℤ high
not_above q p s high straight at_q at_s = omega (arith, ints)

-- two paths that together are no longer than the distance of their ends make no detour on either axis
pub record IsStraight (q p s : Half) : Type 0 where
  pub x : int_abs_diff q.x p.x + int_abs_diff p.x s.x ≤ int_abs_diff q.x s.x
  pub y : int_abs_diff q.y p.y + int_abs_diff p.y s.y ≤ int_abs_diff q.y s.y

both_axes : (qp ps qs qp' ps' qs' : ℕ) → qs ≤ qp + ps → qs' ≤ qp' + ps' → (qp + qp') + (ps + ps') ≤ qs + qs' → (qp + ps ≤ qs) × (qp' + ps' ≤ qs')
both_axes qp ps qs qp' ps' qs' x y whole = (omega arith, omega arith)

straight_from_manhattan : (q p s : Half) → manhattan_of q p + manhattan_of p s ≤ manhattan_of q s → IsStraight q p s
straight_from_manhattan q p s whole =
    let both = both_axes (int_abs_diff q.x p.x) (int_abs_diff p.x s.x) (int_abs_diff q.x s.x) (int_abs_diff q.y p.y) (int_abs_diff p.y s.y) (int_abs_diff q.y s.y) (triangle q.x p.x s.x) (triangle q.y p.y s.y) whole in
    record { x = both.0; y = both.1 }

doubled : (qp ps qs ea eb gap mqp mps mqs : ℕ) → qp ≤ ea → ps ≤ eb → ea + eb ≡ gap → gap ≤ qs → 2 * qp ≡ mqp → 2 * ps ≡ mps → 2 * qs ≡ mqs → mqp + mps ≤ mqs
doubled qp ps qs ea eb gap mqp mps mqs a b c d e f g = omega arith

distance-comm : (a b : Spot) → distance_of a b ≡ distance_of b a
unfolding distance_of
distance-comm a b = omega (arith, ints)

box_between : (x1 x2 y1 y2 : ℤ) (q p s : Half) → IsStraight q p s → IsInBox x1 x2 y1 y2 q → IsInBox x1 x2 y1 y2 s → IsInBox x1 x2 y1 y2 p
box_between x1 x2 y1 y2 q p s straight at_q at_s =
    record {
      left = not_below q.x p.x s.x x1 straight.x at_q.left at_s.left;
      right = not_above q.x p.x s.x x2 straight.x at_q.right at_s.right;
      bottom = not_below q.y p.y s.y y1 straight.y at_q.bottom at_s.bottom;
      top = not_above q.y p.y s.y y2 straight.y at_q.top at_s.top;
    }

-- within 0 of a region is in it
inside_from_within : (region : Region) (len : ℕ) (p : Spot) → len ≡ 0 → IsInReach region len p → ContainsSpot region p
inside_from_within region len p none within =
    let w : IsWidened region len p = widened_from_within region len p within in
    record {
      u_low = omega (arith, ints);
      u_high = omega (arith, ints);
      v_low = omega (arith, ints);
      v_high = omega (arith, ints);
    }

boxed_over_gap : (x1 x2 y1 y2 : ℤ) (a : Region) (ea : ℕ) (b : Region) (eb : ℕ) (p : Spot) → ea + eb ≡ gap_of a b → IsBoxed x1 x2 y1 y2 a → IsBoxed x1 x2 y1 y2 b → IsInReach a ea p → IsInReach b eb p → IsInBox x1 x2 y1 y2 (point_of p)
boxed_over_gap x1 x2 y1 y2 a ea b eb p tight boxed_a boxed_b near_a near_b =
    let q : Spot = near_a.from in
    let s : Spot = near_b.from in
    let bound : gap_of a b ≤ distance_of q s = gap_of-bound a b q s near_a.inside near_b.inside in
    let near : distance_of p s ≤ eb = omega (arith, distance-comm p s, near_b.near) in
    let whole : manhattan_of (point_of q) (point_of p) + manhattan_of (point_of p) (point_of s) ≤ manhattan_of (point_of q) (point_of s) = doubled _ _ _ _ _ _ _ _ _ near_a.near near tight bound (distance_manhattan q p) (distance_manhattan p s) (distance_manhattan q s) in
    box_between x1 x2 y1 y2 (point_of q) (point_of p) (point_of s) (straight_from_manhattan (point_of q) (point_of p) (point_of s) whole) (boxed_a q near_a.inside) (boxed_b s near_b.inside)

pub meet-boxed : MeetStaysInBox
meet-boxed x1 x2 y1 y2 a ea b eb region meet tight boxed_a boxed_b p inside =
    let near_a : IsInReach a ea p = (meet.sound p inside).0 in
    let near_b : IsInReach b eb p = (meet.sound p inside).1 in
    elim tight [
      | inl over_gap ↦ boxed_over_gap x1 x2 y1 y2 a ea b eb p over_gap boxed_a boxed_b near_a near_b
      | inr one ↦ elim one [
        | inl none ↦ boxed_a p (inside_from_within a ea p none near_a)
        | inr none ↦ boxed_b p (inside_from_within b eb p none near_b)
      ]
    ]

-- ---- segments
greater_of : (m n g : ℕ) → g ≡ max m n → (g ≡ m) ⊎ (g ≡ n)
greater_of m n g e =
    elim (cases_lt m n) [
      | inl below ↦ inr (omega arith)
      | inr above ↦ inl (omega arith)
    ]

-- r1 to r2 lies within ea of a1 to a2 and within eb of b1 to b2
pub record IsIntervalMeet (a1 a2 : ℤ) (ea : ℕ) (b1 b2 : ℤ) (eb : ℕ) (r1 r2 : ℤ) : Type 0 where
  pub ordered : r1 ≤ℤ r2
  pub a_low : a1 ≤ℤ (r1 +ℤ pos ea)
  pub a_high : r2 ≤ℤ (a2 +ℤ pos ea)
  pub b_low : b1 ≤ℤ (r1 +ℤ pos eb)
  pub b_high : r2 ≤ℤ (b2 +ℤ pos eb)

-- intervals that are joined over their gap meet in one number
flat_over_gap : (a1 a2 : ℤ) (ea : ℕ) (b1 b2 : ℤ) (eb : ℕ) (r1 r2 : ℤ) → IsIntervalMeet a1 a2 ea b1 b2 eb r1 r2 → ea + eb ≡ interval_gap a1 a2 b1 b2 → 0 < ea + eb → r1 ≡ r2
unfolding interval_gap
flat_over_gap a1 a2 ea b1 b2 eb r1 r2 meet tight positive = omega (arith, ints, clamps)

-- an interval inside one number is one number
flat_inside : (a1 a2 r1 r2 : ℤ) → a1 ≡ a2 → a1 ≤ℤ r1 → r1 ≤ℤ r2 → r2 ≤ℤ a2 → r1 ≡ r2
flat_inside a1 a2 r1 r2 flat low ordered high = omega (arith, ints)

meet_u : (a : Region) (ea : ℕ) (b : Region) (eb : ℕ) (region : Region) → IsMeet a ea b eb region → IsIntervalMeet a.u1 a.u2 ea b.u1 b.u2 eb region.u1 region.u2
meet_u a ea b eb region meet =
    let low = meet.sound _ (low_corner-inside region) in
    let high = meet.sound _ (high_corner-inside region) in
    let low_a = widened_from_within a ea _ low.0 in
    let low_b = widened_from_within b eb _ low.1 in
    let high_a = widened_from_within a ea _ high.0 in
    let high_b = widened_from_within b eb _ high.1 in
    record { ordered = region.u_ordered; a_low = low_a.u_low; a_high = high_a.u_high; b_low = low_b.u_low; b_high = high_b.u_high }

meet_v : (a : Region) (ea : ℕ) (b : Region) (eb : ℕ) (region : Region) → IsMeet a ea b eb region → IsIntervalMeet a.v1 a.v2 ea b.v1 b.v2 eb region.v1 region.v2
meet_v a ea b eb region meet =
    let low = meet.sound _ (low_corner-inside region) in
    let high = meet.sound _ (high_corner-inside region) in
    let low_a = widened_from_within a ea _ low.0 in
    let low_b = widened_from_within b eb _ low.1 in
    let high_a = widened_from_within a ea _ high.0 in
    let high_b = widened_from_within b eb _ high.1 in
    record { ordered = region.v_ordered; a_low = low_a.v_low; a_high = high_a.v_high; b_low = low_b.v_low; b_high = high_b.v_high }

-- a region inside a segment is a segment
segment_inside : (a region : Region) → ContainsSpot a (record { u = region.u1; v = region.v1 }) → ContainsSpot a (record { u = region.u2; v = region.v2 }) → IsSegment a → IsSegment region
segment_inside a region low high segment =
    elim segment [
      | inl flat ↦ inl (flat_inside a.u1 a.u2 region.u1 region.u2 flat low.u_low region.u_ordered high.u_high)
      | inr flat ↦ inr (flat_inside a.v1 a.v2 region.v1 region.v2 flat low.v_low region.v_ordered high.v_high)
    ]

segment_within : (a : Region) (ea : ℕ) (region : Region) → ((p : Spot) → ContainsSpot region p → IsInReach a ea p) → ea ≡ 0 → IsSegment a → IsSegment region
segment_within a ea region near none segment =
    segment_inside a region
    (inside_from_within a ea _ none (near _ (low_corner-inside region)))
    (inside_from_within a ea _ none (near _ (high_corner-inside region)))
    segment

segment_over_gap : (a : Region) (ea : ℕ) (b : Region) (eb : ℕ) (region : Region) → IsMeet a ea b eb region → ea + eb ≡ gap_of a b → 0 < ea + eb → IsSegment region
segment_over_gap a ea b eb region meet tight positive =
    elim (greater_of (interval_gap a.u1 a.u2 b.u1 b.u2) (interval_gap a.v1 a.v2 b.v1 b.v2) (gap_of a b) (gap_of-is a b)) [
      | inl by_u ↦ inl (flat_over_gap a.u1 a.u2 ea b.u1 b.u2 eb region.u1 region.u2 (meet_u a ea b eb region meet) (tight ∙ by_u) positive)
      | inr by_v ↦ inr (flat_over_gap a.v1 a.v2 ea b.v1 b.v2 eb region.v1 region.v2 (meet_v a ea b eb region meet) (tight ∙ by_v) positive)
    ]

pub meet-segment : MeetIsSegment
meet-segment a ea b eb region meet tight segment_a segment_b =
    elim tight [
      | inl over_gap ↦ elim (cases_lt 0 (ea + eb)) [
        | inl positive ↦ segment_over_gap a ea b eb region meet over_gap positive
        | inr none ↦ segment_within a ea region (λ p inside. (meet.sound p inside).0) (omega arith) segment_a
      ]
      | inr one ↦ elim one [
        | inl none ↦ segment_within a ea region (λ p inside. (meet.sound p inside).0) none segment_a
        | inr none ↦ segment_within b eb region (λ p inside. (meet.sound p inside).1) none segment_b
      ]
    ]
