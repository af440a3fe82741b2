-- Facts about regions as sets of spots.
use Rattle.std.proofs.Common.{◌≡◌, ℕ, ◌≤◌, max, ℤ, pos, ◌+ℤ◌, ◌-ℤ◌, ◌≤ℤ◌, refl, sym, ap, ◌∙◌, subst, le_antisymm, le_trans, arith}
use Rattle.std.proofs.Props.{props}
use Rattle.std.specs.Int.{int_max, int_min}
use Rattle.std.proofs.lemmas.Int.{ints, clamps}
use Rattle.cts_geom.specs.declared.points.Spot.{Spot}
use Rattle.cts_geom.specs.declared.regions.Region.{Region}
use Rattle.cts_geom.specs.Coordinate.{int_abs_diff, interval_gap}
use Rattle.cts_geom.specs.Points.{distance_of}
use Rattle.cts_geom.specs.Regions.{ContainsSpot, IsInReach, IsGap, gap_of, IsMeet, IsNoLater, IsNearest, nearest_of}
use Rattle.cts_geom.specs.RegionLaws.{RegionsAreSets, GapIsLeast, NearestIsOne}
use Rattle.cts_geom.proofs.IntervalLemmas.{clamped, IsClamped, clamped-inside, clamped-near, IsReached, interval_gap-reached, interval_gap-bound, interval_gap-clamped}
use Rattle.cts_geom.proofs.PointLemmas.{IsClose, close_from_distance, distance_from_parts, distance-u, distance-v, spot_same}

-- ---- the spots within a length of a region are those of the region with each side moved out by it
pub record IsWidened (region : Region) (len : ℕ) (p : Spot) : Type 0 where
  pub u_low : region.u1 ≤ℤ (p.u +ℤ pos len)
  pub u_high : p.u ≤ℤ (region.u2 +ℤ pos len)
  pub v_low : region.v1 ≤ℤ (p.v +ℤ pos len)
  pub v_high : p.v ≤ℤ (region.v2 +ℤ pos len)

pub widened_from_within : (region : Region) (len : ℕ) (p : Spot) → IsInReach region len p → IsWidened region len p
widened_from_within region len p within =
    let inside : ContainsSpot region within.from = within.inside in
    let close : IsClose within.from p len = close_from_distance within.from p len within.near in
    record {
      u_low = omega (arith, ints);
      u_high = omega (arith, ints);
      v_low = omega (arith, ints);
      v_high = omega (arith, ints);
    }

-- the point of a region that is nearest to a spot, by clamping its coordinates
clamped_spot : Region → Spot → Spot
clamped_spot region p = record { u = clamped region.u1 region.u2 p.u; v = clamped region.v1 region.v2 p.v }

clamped_spot-inside : (region : Region) (p : Spot) → region.u1 ≤ℤ region.u2 → region.v1 ≤ℤ region.v2 → ContainsSpot region (clamped_spot region p)
unfolding clamped_spot
clamped_spot-inside region p u_ordered v_ordered =
    let u : IsClamped region.u1 region.u2 p.u (clamped region.u1 region.u2 p.u) = clamped-inside region.u1 region.u2 p.u u_ordered in
    let v : IsClamped region.v1 region.v2 p.v (clamped region.v1 region.v2 p.v) = clamped-inside region.v1 region.v2 p.v v_ordered in
    record { u_low = u.at_least; u_high = u.at_most; v_low = v.at_least; v_high = v.at_most }

pub within_from_widened : (region : Region) (len : ℕ) (p : Spot) → IsWidened region len p → IsInReach region len p
unfolding clamped_spot
within_from_widened region len p w =
    record {
      from = clamped_spot region p;
      inside = clamped_spot-inside region p region.u_ordered region.v_ordered;
      near = distance_from_parts (clamped_spot region p) p len (clamped-near region.u1 region.u2 p.u len region.u_ordered w.u_low w.u_high) (clamped-near region.v1 region.v2 p.v len region.v_ordered w.v_low w.v_high);
    }

-- ---- the gap
greatest_at_most : (g gu gv pu pv d : ℕ) → g ≡ max gu gv → gu ≤ pu → gv ≤ pv → pu ≤ d → pv ≤ d → g ≤ d
greatest_at_most g gu gv pu pv d e u v du dv = omega arith

pub gap_of-is : (a b : Region) → gap_of a b ≡ max (interval_gap a.u1 a.u2 b.u1 b.u2) (interval_gap a.v1 a.v2 b.v1 b.v2)
unfolding gap_of
gap_of-is a b = refl

-- the point of b's corner in a, and the point of b nearest to it
corner_of : Region → Spot
corner_of b = record { u = b.u1; v = b.v1 }

pub gap_of-bound : (a b : Region) (p q : Spot) → ContainsSpot a p → ContainsSpot b q → gap_of a b ≤ distance_of p q
gap_of-bound a b p q in_a in_b =
    let e : gap_of a b ≡ max (interval_gap a.u1 a.u2 b.u1 b.u2) (interval_gap a.v1 a.v2 b.v1 b.v2) = gap_of-is a b in
    let u : interval_gap a.u1 a.u2 b.u1 b.u2 ≤ int_abs_diff p.u q.u = interval_gap-bound a.u1 a.u2 b.u1 b.u2 p.u q.u in_a.u_low in_a.u_high in_b.u_low in_b.u_high in
    let v : interval_gap a.v1 a.v2 b.v1 b.v2 ≤ int_abs_diff p.v q.v = interval_gap-bound a.v1 a.v2 b.v1 b.v2 p.v q.v in_a.v_low in_a.v_high in_b.v_low in_b.v_high in
    let du : int_abs_diff p.u q.u ≤ distance_of p q = distance-u p q in
    let dv : int_abs_diff p.v q.v ≤ distance_of p q = distance-v p q in
    greatest_at_most _ _ _ _ _ _ e u v du dv

at_most_first : (g gu gv d : ℕ) → g ≡ max gu gv → d ≤ gu → d ≤ g
at_most_first g gu gv d e u = omega arith

at_most_second : (g gu gv d : ℕ) → g ≡ max gu gv → d ≤ gv → d ≤ g
at_most_second g gu gv d e v = omega arith

gap_of-near : (a b : Region) → distance_of (clamped_spot a (corner_of b)) (clamped_spot b (clamped_spot a (corner_of b))) ≤ gap_of a b
unfolding clamped_spot corner_of
gap_of-near a b =
    let e : gap_of a b ≡ max (interval_gap a.u1 a.u2 b.u1 b.u2) (interval_gap a.v1 a.v2 b.v1 b.v2) = gap_of-is a b in
    let u : int_abs_diff (clamped a.u1 a.u2 b.u1) (clamped b.u1 b.u2 (clamped a.u1 a.u2 b.u1)) ≤ interval_gap a.u1 a.u2 b.u1 b.u2 = interval_gap-clamped a.u1 a.u2 b.u1 b.u2 a.u_ordered b.u_ordered in
    let v : int_abs_diff (clamped a.v1 a.v2 b.v1) (clamped b.v1 b.v2 (clamped a.v1 a.v2 b.v1)) ≤ interval_gap a.v1 a.v2 b.v1 b.v2 = interval_gap-clamped a.v1 a.v2 b.v1 b.v2 a.v_ordered b.v_ordered in
    distance_from_parts (clamped_spot a (corner_of b)) (clamped_spot b (clamped_spot a (corner_of b))) (gap_of a b) (at_most_first _ _ _ _ e u) (at_most_second _ _ _ _ e v)

pub gap_is : (a b : Region) → IsGap a b (gap_of a b)
gap_is a b =
    let from : Spot = clamped_spot a (corner_of b) in
    let to : Spot = clamped_spot b from in
    let from_inside : ContainsSpot a from = clamped_spot-inside a (corner_of b) a.u_ordered a.v_ordered in
    let to_inside : ContainsSpot b to = clamped_spot-inside b from b.u_ordered b.v_ordered in
    record {
      bound = gap_of-bound a b;
      from = from;
      to = to;
      from_inside = from_inside;
      to_inside = to_inside;
      reached = le_antisymm (gap_of-near a b) (gap_of-bound a b from to from_inside to_inside);
    }

-- ---- the meet
-- the four numbers of the spots that are within ea of a and within eb of b
pub record IsMeetBox (a : Region) (ea : ℕ) (b : Region) (eb : ℕ) (region : Region) : Type 0 where
  pub u1 : region.u1 ≡ int_max (a.u1 -ℤ pos ea) (b.u1 -ℤ pos eb)
  pub u2 : region.u2 ≡ int_min (a.u2 +ℤ pos ea) (b.u2 +ℤ pos eb)
  pub v1 : region.v1 ≡ int_max (a.v1 -ℤ pos ea) (b.v1 -ℤ pos eb)
  pub v2 : region.v2 ≡ int_min (a.v2 +ℤ pos ea) (b.v2 +ℤ pos eb)

above_both : (a b m : ℤ) (ea eb : ℕ) → m ≡ int_max (a -ℤ pos ea) (b -ℤ pos eb) → (p : ℤ) → ((m ≤ℤ p → (a ≤ℤ (p +ℤ pos ea)) × (b ≤ℤ (p +ℤ pos eb)))) × (a ≤ℤ (p +ℤ pos ea) → b ≤ℤ (p +ℤ pos eb) → m ≤ℤ p)
above_both a b m ea eb e p = ((λ h. (omega (arith, ints, clamps), omega (arith, ints, clamps))), λ h k. omega (arith, ints, clamps))

below_both : (a b m : ℤ) (ea eb : ℕ) → m ≡ int_min (a +ℤ pos ea) (b +ℤ pos eb) → (p : ℤ) → ((p ≤ℤ m → (p ≤ℤ (a +ℤ pos ea)) × (p ≤ℤ (b +ℤ pos eb)))) × (p ≤ℤ (a +ℤ pos ea) → p ≤ℤ (b +ℤ pos eb) → p ≤ℤ m)
below_both a b m ea eb e p = ((λ h. (omega (arith, ints, clamps), omega (arith, ints, clamps))), λ h k. omega (arith, ints, clamps))

pub meet_is : (a : Region) (ea : ℕ) (b : Region) (eb : ℕ) (region : Region) → IsMeetBox a ea b eb region → IsMeet a ea b eb region
meet_is a ea b eb region box =
    let u1 = above_both a.u1 b.u1 region.u1 ea eb box.u1 in
    let u2 = below_both a.u2 b.u2 region.u2 ea eb box.u2 in
    let v1 = above_both a.v1 b.v1 region.v1 ea eb box.v1 in
    let v2 = below_both a.v2 b.v2 region.v2 ea eb box.v2 in
    record {
      sound = λ p inside. (
        within_from_widened a ea p (record { u_low = ((u1 p.u).0 inside.u_low).0; u_high = ((u2 p.u).0 inside.u_high).0; v_low = ((v1 p.v).0 inside.v_low).0; v_high = ((v2 p.v).0 inside.v_high).0 }),
        within_from_widened b eb p (record { u_low = ((u1 p.u).0 inside.u_low).1; u_high = ((u2 p.u).0 inside.u_high).1; v_low = ((v1 p.v).0 inside.v_low).1; v_high = ((v2 p.v).0 inside.v_high).1 }),
      );
      complete = λ p near_a near_b.
          let in_a : IsWidened a ea p = widened_from_within a ea p near_a in
          let in_b : IsWidened b eb p = widened_from_within b eb p near_b in
          record { u_low = (u1 p.u).1 in_a.u_low in_b.u_low; u_high = (u2 p.u).1 in_a.u_high in_b.u_high; v_low = (v1 p.v).1 in_a.v_low in_b.v_low; v_high = (v2 p.v).1 in_a.v_high in_b.v_high };
    }

-- the box is not empty where the two lengths reach across the gap
pub record IsReachedBoth (a : Region) (b : Region) (d : ℕ) : Type 0 where
  pub u : IsReached a.u1 a.u2 b.u1 b.u2 d
  pub v : IsReached a.v1 a.v2 b.v1 b.v2 d

pub reached_from_gap : (a b : Region) (d : ℕ) → gap_of a b ≤ d → IsReachedBoth a b d
reached_from_gap a b d reach =
    let e : gap_of a b ≡ max (interval_gap a.u1 a.u2 b.u1 b.u2) (interval_gap a.v1 a.v2 b.v1 b.v2) = gap_of-is a b in
    let u : IsReached a.u1 a.u2 b.u1 b.u2 (interval_gap a.u1 a.u2 b.u1 b.u2) = interval_gap-reached a.u1 a.u2 b.u1 b.u2 in
    let v : IsReached a.v1 a.v2 b.v1 b.v2 (interval_gap a.v1 a.v2 b.v1 b.v2) = interval_gap-reached a.v1 a.v2 b.v1 b.v2 in
    record {
      u = record { above = omega (arith, ints); below = omega (arith, ints) };
      v = record { above = omega (arith, ints); below = omega (arith, ints) };
    }

-- ---- the nearest point
-- p is the least number of an interval that is at most d from a number
pub record IsLeastNear (low high to : ℤ) (d : ℕ) (p : ℤ) : Type 0 where
  pub at_least : low ≤ℤ p
  pub at_most : p ≤ℤ high
  pub near : int_abs_diff p to ≤ d
  pub first : (n : ℤ) → low ≤ℤ n → int_abs_diff n to ≤ d → p ≤ℤ n

pub least_near : (low high to p : ℤ) (d : ℕ) → low ≤ℤ high → interval_gap low high to to ≤ d → p ≡ int_max low (to -ℤ pos d) → IsLeastNear low high to d p
least_near low high to p d ordered reach e =
    let reached : IsReached low high to to (interval_gap low high to to) = interval_gap-reached low high to to in
    let above : to ≤ℤ (high +ℤ pos d) = omega (arith, ints) in
    let below : low ≤ℤ (to +ℤ pos d) = omega (arith, ints) in
    record {
      at_least = omega (arith, ints, clamps);
      at_most = omega (arith, ints, clamps);
      near = omega (arith, ints, clamps);
      first = λ n in_low near. omega (arith, ints, clamps);
    }

no_nearer : (region : Region) (to q : Spot) (d : ℕ) → d ≡ max (interval_gap region.u1 region.u2 to.u to.u) (interval_gap region.v1 region.v2 to.v to.v) → ContainsSpot region q → d ≤ distance_of q to
no_nearer region to q d e inside =
    let u : interval_gap region.u1 region.u2 to.u to.u ≤ int_abs_diff q.u to.u = interval_gap-bound region.u1 region.u2 to.u to.u q.u to.u inside.u_low inside.u_high (omega (arith, ints)) (omega (arith, ints)) in
    let v : interval_gap region.v1 region.v2 to.v to.v ≤ int_abs_diff q.v to.v = interval_gap-bound region.v1 region.v2 to.v to.v q.v to.v inside.v_low inside.v_high (omega (arith, ints)) (omega (arith, ints)) in
    greatest_at_most _ _ _ _ _ _ e u v (distance-u q to) (distance-v q to)

within_same : (part whole other d : ℕ) → part ≤ whole → whole ≡ other → other ≤ d → part ≤ d
within_same part whole other d h e k = omega arith

pub nearest_is : (region : Region) (to p : Spot) (d : ℕ) → d ≡ max (interval_gap region.u1 region.u2 to.u to.u) (interval_gap region.v1 region.v2 to.v to.v) → p.u ≡ int_max region.u1 (to.u -ℤ pos d) → p.v ≡ int_max region.v1 (to.v -ℤ pos d) → IsNearest region to p
nearest_is region to p d e eu ev =
    let u : IsLeastNear region.u1 region.u2 to.u d p.u = least_near region.u1 region.u2 to.u p.u d region.u_ordered (omega arith) eu in
    let v : IsLeastNear region.v1 region.v2 to.v d p.v = least_near region.v1 region.v2 to.v p.v d region.v_ordered (omega arith) ev in
    let near : distance_of p to ≤ d = distance_from_parts p to d u.near v.near in
    record {
      inside = record { u_low = u.at_least; u_high = u.at_most; v_low = v.at_least; v_high = v.at_most };
      nearest = λ q inside. le_trans near (no_nearer region to q d e inside);
      first = λ q inside same.
          record {
            u = u.first q.u inside.u_low (within_same _ _ _ _ (distance-u q to) same near);
            v = λ _. v.first q.v inside.v_low (within_same _ _ _ _ (distance-v q to) same near);
          };
    }

pub nearest_of-u : (region : Region) (to : Spot) (d : ℕ) → d ≡ max (interval_gap region.u1 region.u2 to.u to.u) (interval_gap region.v1 region.v2 to.v to.v) → (nearest_of region to).u ≡ int_max region.u1 (to.u -ℤ pos d)
unfolding nearest_of
nearest_of-u region to d e = ap (λ (n : ℕ). int_max region.u1 (to.u -ℤ pos n)) (sym e)

pub nearest_of-v : (region : Region) (to : Spot) (d : ℕ) → d ≡ max (interval_gap region.u1 region.u2 to.u to.u) (interval_gap region.v1 region.v2 to.v to.v) → (nearest_of region to).v ≡ int_max region.v1 (to.v -ℤ pos d)
unfolding nearest_of
nearest_of-v region to d e = ap (λ (n : ℕ). int_max region.v1 (to.v -ℤ pos n)) (sym e)

pub nearest_of-nearest : (region : Region) (to : Spot) → IsNearest region to (nearest_of region to)
nearest_of-nearest region to =
    let d : ℕ = max (interval_gap region.u1 region.u2 to.u to.u) (interval_gap region.v1 region.v2 to.v to.v) in
    nearest_is region to (nearest_of region to) d refl (nearest_of-u region to d refl) (nearest_of-v region to d refl)

-- ---- what the facts on regions say of one thing alone
gap_same : (a b : Region) (d e : ℕ) → IsGap a b d → IsGap a b e → d ≡ e
gap_same a b d e one other =
    le_antisymm
    (omega (arith, one.bound other.from other.to other.from_inside other.to_inside, other.reached))
    (omega (arith, other.bound one.from one.to one.from_inside one.to_inside, one.reached))

pub gap_least : GapIsLeast
gap_least a b gap = (
  λ is_gap. gap_same a b gap (gap_of a b) is_gap (gap_is a b),
  λ e. let IsTheGap : ℕ → Type 0 = λ n. IsGap a b n in subst IsTheGap (sym e) (gap_is a b),
)

nearest_same : (region : Region) (to p q : Spot) → IsNearest region to p → IsNearest region to q → p ≡ q
nearest_same region to p q one other =
    let near_p : distance_of p to ≤ distance_of q to = one.nearest q other.inside in
    let near_q : distance_of q to ≤ distance_of p to = other.nearest p one.inside in
    let before : IsNoLater p q = one.first q other.inside (le_antisymm near_q near_p) in
    let after : IsNoLater q p = other.first p one.inside (le_antisymm near_p near_q) in
    let same_u : p.u ≡ q.u = omega (arith, ints) in
    let below : p.v ≤ℤ q.v = before.v same_u in
    let above : q.v ≤ℤ p.v = after.v (sym same_u) in
    spot_same p q same_u (omega (arith, ints))

pub nearest_one : NearestIsOne
nearest_one region to p = (
  λ nearest. nearest_same region to p (nearest_of region to) nearest (nearest_of-nearest region to),
  λ e. let IsTheNearest : Spot → Type 0 = λ s. IsNearest region to s in subst IsTheNearest (sym e) (nearest_of-nearest region to),
)

pub low_corner-inside : (region : Region) → ContainsSpot region (record { u = region.u1; v = region.v1 })
low_corner-inside region = record { u_low = omega (arith, ints); u_high = region.u_ordered; v_low = omega (arith, ints); v_high = region.v_ordered }

pub high_corner-inside : (region : Region) → ContainsSpot region (record { u = region.u2; v = region.v2 })
high_corner-inside region = record { u_low = region.u_ordered; u_high = omega (arith, ints); v_low = region.v_ordered; v_high = omega (arith, ints) }

-- a region is its four numbers, since two proofs of an order are equal
abbrev region_from : (u1 u2 v1 v2 : ℤ) → u1 ≤ℤ u2 → v1 ≤ℤ v2 → Region
region_from u1 u2 v1 v2 u v = record { u1 = u1; u2 = u2; v1 = v1; v2 = v2; u_ordered = u; v_ordered = v }

order_same : (a b : ℤ) → IsProp (a ≤ℤ b)
order_same a b = hlevel props

same_numbers : (b : Region) (u : b.u1 ≤ℤ b.u2) (v : b.v1 ≤ℤ b.v2) → region_from b.u1 b.u2 b.v1 b.v2 u v ≡ b
same_numbers b u v =
    let with_u : b.u1 ≤ℤ b.u2 → Region = λ h. region_from b.u1 b.u2 b.v1 b.v2 h v in
    let with_v : b.v1 ≤ℤ b.v2 → Region = λ h. region_from b.u1 b.u2 b.v1 b.v2 b.u_ordered h in
    ap with_u (order_same b.u1 b.u2 u b.u_ordered) ∙ ap with_v (order_same b.v1 b.v2 v b.v_ordered)

pub region_same : (a b : Region) → a.u1 ≡ b.u1 → a.u2 ≡ b.u2 → a.v1 ≡ b.v1 → a.v2 ≡ b.v2 → a ≡ b
region_same a b e1 e2 f1 f2 =
    let Same : ℤ → ℤ → ℤ → ℤ → Type 0 = λ u1 u2 v1 v2. (u : u1 ≤ℤ u2) (v : v1 ≤ℤ v2) → region_from u1 u2 v1 v2 u v ≡ b in
    let s4 : Same b.u1 b.u2 b.v1 b.v2 = same_numbers b in
    let s3 : Same b.u1 b.u2 b.v1 a.v2 = subst (λ (z : ℤ). Same b.u1 b.u2 b.v1 z) (sym f2) s4 in
    let s2 : Same b.u1 b.u2 a.v1 a.v2 = subst (λ (z : ℤ). Same b.u1 b.u2 z a.v2) (sym f1) s3 in
    let s1 : Same b.u1 a.u2 a.v1 a.v2 = subst (λ (z : ℤ). Same b.u1 z a.v1 a.v2) (sym e2) s2 in
    let s0 : Same a.u1 a.u2 a.v1 a.v2 = subst (λ (z : ℤ). Same z a.u2 a.v1 a.v2) (sym e1) s1 in
    s0 a.u_ordered a.v_ordered

pub regions_sets : RegionsAreSets
regions_sets a b same =
    let low_in_b = (same (record { u = a.u1; v = a.v1 })).0 (low_corner-inside a) in
    let high_in_b = (same (record { u = a.u2; v = a.v2 })).0 (high_corner-inside a) in
    let low_in_a = (same (record { u = b.u1; v = b.v1 })).1 (low_corner-inside b) in
    let high_in_a = (same (record { u = b.u2; v = b.v2 })).1 (high_corner-inside b) in
    region_same a b
    (antisymmetric a.u1 b.u1 low_in_a.u_low low_in_b.u_low)
    (antisymmetric a.u2 b.u2 high_in_b.u_high high_in_a.u_high)
    (antisymmetric a.v1 b.v1 low_in_a.v_low low_in_b.v_low)
    (antisymmetric a.v2 b.v2 high_in_b.v_high high_in_a.v_high)
  where
    antisymmetric : (x y : ℤ) → x ≤ℤ y → y ≤ℤ x → x ≡ y
    antisymmetric x y h k = omega (arith, ints)
