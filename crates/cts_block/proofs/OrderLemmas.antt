-- The order of points by (distance, x, y).
use Rattle.std.proofs.Common.{◌≡◌, ℕ, ◌<◌, ◌≤◌, inl, inr, ℤ, pos, ◌+ℤ◌, ◌-ℤ◌, ◌≤ℤ◌, ◌<ℤ◌, ◌∙◌, arith}
use Rattle.std.proofs.lemmas.Int.{ints}
use Rattle.cts_geom.specs.declared.points.Half.{Half}
use Rattle.cts_geom.specs.Points.{manhattan_of}
use Rattle.cts_block.specs.declared.whole.Whole.{Whole}
use Rattle.cts_block.specs.declared.whole.Range.{Range}
use Rattle.cts_block.specs.NearestFree.{IsNoLater}
use Rattle.cts_block.specs.Search.{half_of, IsAhead, IsClosest}

pub no_later_refl : (d : ℕ) (x y : ℤ) → IsNoLater d x y d x y
no_later_refl d x y = record { by_distance = omega arith; by_x = λ _. omega (arith, ints); by_y = λ _ _. omega (arith, ints) }

pub no_later_trans : (d : ℕ) (x y : ℤ) (d' : ℕ) (x' y' : ℤ) (d'' : ℕ) (x'' y'' : ℤ) → IsNoLater d x y d' x' y' → IsNoLater d' x' y' d'' x'' y'' → IsNoLater d x y d'' x'' y''
no_later_trans d x y d' x' y' d'' x'' y'' first second =
    let near : d ≤ d' = first.by_distance in
    let far : d' ≤ d'' = second.by_distance in
    record {
      by_distance = omega arith;
      by_x = λ same.
          let left : x ≤ℤ x' = first.by_x (omega arith) in
          let right : x' ≤ℤ x'' = second.by_x (omega arith) in
          omega (arith, ints);
      by_y = λ same same_x.
          let left : x ≤ℤ x' = first.by_x (omega arith) in
          let right : x' ≤ℤ x'' = second.by_x (omega arith) in
          let low : y ≤ℤ y' = first.by_y (omega arith) (omega (arith, ints)) in
          let high : y' ≤ℤ y'' = second.by_y (omega arith) (omega (arith, ints)) in
          omega (arith, ints);
    }

pub nearer_is_no_later : (d : ℕ) (x y : ℤ) (d' : ℕ) (x' y' : ℤ) → d < d' → IsNoLater d x y d' x' y'
nearer_is_no_later d x y d' x' y' near = record { by_distance = omega arith; by_x = λ same. absurd (omega arith); by_y = λ same _. absurd (omega arith) }

pub ahead_refl : (from : Half) (p : Whole) → IsAhead from p p
ahead_refl from p = no_later_refl (manhattan_of from (half_of p)) p.x p.y

pub ahead_trans : (from : Half) (p q r : Whole) → IsAhead from p q → IsAhead from q r → IsAhead from p r
ahead_trans from p q r first second =
    no_later_trans (manhattan_of from (half_of p)) p.x p.y (manhattan_of from (half_of q)) q.x q.y (manhattan_of from (half_of r)) r.x r.y first second

-- a point that is nearer to the place than a bound is ahead of one that is not
pub nearer_is_ahead : (from : Half) (p q : Whole) (bound : ℕ) → manhattan_of from (half_of p) < bound → bound ≤ manhattan_of from (half_of q) → IsAhead from p q
nearer_is_ahead from p q bound near far =
    nearer_is_no_later (manhattan_of from (half_of p)) p.x p.y (manhattan_of from (half_of q)) q.x q.y (omega arith)

-- of two points of a column on one side of the place, the one that is nearer to the place is ahead
module _ (range : Range) (from : Half) (closest : Range) (is_closest : IsClosest range from.y closest) (p q : Whole) (column : q.x ≡ p.x) where
  pub upper_is_later : closest.high ≤ℤ p.y → p.y ≤ℤ q.y → q.y ≤ℤ range.high → IsAhead from p q
  upper_is_later above order within =
      elim is_closest.above [
        | inl up ↦ record {
          by_distance = omega (arith, ints, column, above, order, up);
          by_x = λ _. omega (arith, ints, column);
          by_y = λ _ _. order;
        }
        | inr end ↦ record {
          by_distance = omega (arith, ints, column, above, order, within, end);
          by_x = λ _. omega (arith, ints, column);
          by_y = λ _ _. order;
        }
      ]

  pub lower_is_later : p.y ≤ℤ closest.low → q.y ≤ℤ p.y → range.low ≤ℤ q.y → IsAhead from p q
  lower_is_later below order within =
      elim is_closest.below [
        | inl down ↦ record {
          by_distance = omega (arith, ints, column, below, order, down);
          by_x = λ _. omega (arith, ints, column);
          by_y = λ same _. omega (arith, ints, column, below, order, down, same);
        }
        | inr end ↦ record {
          by_distance = omega (arith, ints, column, below, order, within, end);
          by_x = λ _. omega (arith, ints, column);
          by_y = λ _ _. omega (arith, ints, below, order, within, end);
        }
      ]

-- of two points of a row on one side of the place, one step apart, the one that is nearer to the place is ahead
module _ (range : Range) (from : Half) (closest : Range) (is_closest : IsClosest range from.x closest) (q : Whole) where
  pub right_is_later : closest.high <ℤ q.x → q.x ≤ℤ range.high → IsAhead from (record { x = q.x -ℤ pos 1; y = q.y }) q
  right_is_later beyond within =
      elim is_closest.above [
        | inl up ↦ record {
          by_distance = omega (arith, ints, beyond, up);
          by_x = λ same. omega (arith, ints, beyond, up, same);
          by_y = λ _ _. omega (arith, ints);
        }
        | inr end ↦ absurd (omega (arith, ints, beyond, within, end))
      ]

  pub left_is_later : q.x <ℤ closest.low → range.low ≤ℤ q.x → IsAhead from (record { x = q.x +ℤ pos 1; y = q.y }) q
  left_is_later beyond within =
      elim is_closest.below [
        | inl down ↦ record {
          by_distance = omega (arith, ints, beyond, down);
          by_x = λ same. absurd (omega (arith, ints, beyond, down, same));
          by_y = λ _ _. omega (arith, ints);
        }
        | inr end ↦ absurd (omega (arith, ints, beyond, within, end))
      ]

-- the same for other terms of the same numbers
pub closest_same : (range range' : Range) (halves halves' : ℤ) (closest : Range) → range'.low ≡ range.low → range'.high ≡ range.high → halves' ≡ halves → IsClosest range' halves' closest → IsClosest range halves closest
closest_same range range' halves halves' closest same_low same_high same_halves is = record {
  low_least = omega (arith, ints, same_low, is.low_least);
  high_most = omega (arith, ints, same_high, is.high_most);
  ordered = is.ordered;
  adjacent = is.adjacent;
  below = elim is.below [ inl h ↦ inl (omega (arith, ints, h, same_halves)) | inr h ↦ inr (h ∙ same_low) ];
  above = elim is.above [ inl h ↦ inl (omega (arith, ints, h, same_halves)) | inr h ↦ inr (h ∙ same_high) ];
}
