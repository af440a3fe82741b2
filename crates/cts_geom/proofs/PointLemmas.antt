-- Facts about spots, halves and their distances.
use Rattle.std.proofs.Common.{◌≡◌, ℕ, ◌≤◌, max, ℤ, pos, ◌+ℤ◌, ◌-ℤ◌, ◌≤ℤ◌, refl, ap, ◌∙◌, arith}
use Rattle.std.proofs.lemmas.Int.{ints}
use Rattle.cts_geom.specs.declared.points.Half.{Half}
use Rattle.cts_geom.specs.declared.points.Spot.{Spot}
use Rattle.cts_geom.specs.Coordinate.{int_abs_diff}
use Rattle.cts_geom.specs.Points.{distance_of}
use Rattle.cts_geom.specs.PointLaws.{DistanceIsManhattan, SpotsAreApart}

-- two points with the same coordinates are one
pub half_same : (p q : Half) → p.x ≡ q.x → p.y ≡ q.y → p ≡ q
half_same p q same_x same_y =
    let with_x : ℤ → Half = λ x. record { x = x; y = p.y } in
    let with_y : ℤ → Half = λ y. record { x = q.x; y = y } in
    ap with_x same_x ∙ ap with_y same_y

pub spot_same : (p q : Spot) → p.u ≡ q.u → p.v ≡ q.v → p ≡ q
spot_same p q same_u same_v =
    let with_u : ℤ → Spot = λ u. record { u = u; v = p.v } in
    let with_v : ℤ → Spot = λ v. record { u = q.u; v = v } in
    ap with_u same_u ∙ ap with_v same_v

-- what `distance_of` is, for tactics that do not see its body
pub distance_of-is : (a b : Spot) → distance_of a b ≡ max (int_abs_diff a.u b.u) (int_abs_diff a.v b.v)
unfolding distance_of
distance_of-is a b = refl

pub distance_manhattan : DistanceIsManhattan
distance_manhattan a b = omega (arith, ints, distance_of-is a b)

pub spots_apart : SpotsAreApart
spots_apart a b same =
    let same_x : a.u +ℤ a.v ≡ b.u +ℤ b.v = ap (λ (p : Half). p.x) same in
    let same_y : a.u -ℤ a.v ≡ b.u -ℤ b.v = ap (λ (p : Half). p.y) same in
    spot_same a b (omega (arith, ints)) (omega (arith, ints))

-- two spots are at most n apart exactly where neither coordinate differs by more
pub record IsClose (a b : Spot) (n : ℕ) : Type 0 where
  pub u_above : a.u ≤ℤ (b.u +ℤ pos n)
  pub u_below : b.u ≤ℤ (a.u +ℤ pos n)
  pub v_above : a.v ≤ℤ (b.v +ℤ pos n)
  pub v_below : b.v ≤ℤ (a.v +ℤ pos n)

pub close_from_distance : (a b : Spot) (n : ℕ) → distance_of a b ≤ n → IsClose a b n
close_from_distance a b n near =
    let e : distance_of a b ≡ max (int_abs_diff a.u b.u) (int_abs_diff a.v b.v) = distance_of-is a b in
    record {
      u_above = omega (arith, ints);
      u_below = omega (arith, ints);
      v_above = omega (arith, ints);
      v_below = omega (arith, ints);
    }

pub distance_from_parts : (a b : Spot) (n : ℕ) → int_abs_diff a.u b.u ≤ n → int_abs_diff a.v b.v ≤ n → distance_of a b ≤ n
unfolding distance_of
distance_from_parts a b n u_near v_near = omega arith

pub distance_from_close : (a b : Spot) (n : ℕ) → IsClose a b n → distance_of a b ≤ n
distance_from_close a b n close = distance_from_parts a b n (omega (arith, ints)) (omega (arith, ints))

pub distance-u : (a b : Spot) → int_abs_diff a.u b.u ≤ distance_of a b
unfolding distance_of
distance-u a b = omega arith

pub distance-v : (a b : Spot) → int_abs_diff a.v b.v ≤ distance_of a b
unfolding distance_of
distance-v a b = omega arith
