-- Few columns hold a first free point: those that are nearest to the place, and the edges of blocks that face away from it.
use Rattle.std.proofs.Common.{◌≡◌, ℕ, zero, suc, ◌≤◌, ◌⊎◌, inl, inr, pos, ◌+ℤ◌, ◌-ℤ◌, ◌*ℤ◌, ◌≤ℤ◌, ◌<ℤ◌, arith}
use Rattle.std.specs.Prelude.{unsigned_abs}
use Rattle.std.proofs.lemmas.Int.{ints, by_lt_z}
use Rattle.cts_geom.specs.declared.points.Half.{Half}
use Rattle.cts_geom.specs.declared.bounds.Die.{Die}
use Rattle.cts_block.specs.declared.blocks.Block.{Block}
use Rattle.cts_block.specs.declared.whole.Whole.{Whole}
use Rattle.cts_block.specs.declared.whole.Range.{Range}
use Rattle.cts_block.specs.declared.whole.Side.{Side}
use Rattle.cts_block.specs.declared.whole.Side.TheVariants.{Left, Right}
use Rattle.cts_block.specs.FreePoints.{IsHalfInside}
use Rattle.cts_block.specs.Search.{IsFreeAmong, IsAhead, IsClosest, IsOnSide, IsBeyond, columns_of, half_of}
use Rattle.cts_block.proofs.OrderLemmas.{ahead_refl, ahead_trans, right_is_later, left_is_later}

-- one of the blocks that count has the point inside
pub record IsCovered (Counts : Block → Type 0) (at : Half) : Type 0 where
  pub block : Block
  pub counts : Counts block
  pub inside : IsHalfInside block at

abbrev pub IsClear : (Block → Type 0) → Half → Type 0
IsClear Counts at = (block : Block) → Counts block → ¬ IsHalfInside block at

-- a free point that is no later than another one, and where it lies
pub record HasAhead (Counts : Block → Type 0) (die : Die) (from : Half) (columns : Range) (p : Whole) : Type 0 where
  pub point : Whole
  pub free : IsFreeAmong Counts die point
  pub ahead : IsAhead from point p
  pub place : ((point.x ≡ columns.low) ⊎ (point.x ≡ columns.high)) ⊎ ((side : Side) × IsBeyond side columns point × IsOnSide Counts side point)

module _ (Counts : Block → Type 0) (die : Die) (from : Half) (columns : Range) (closest : IsClosest (columns_of die) from.x columns) (decide : (at : Half) → IsClear Counts at ⊎ IsCovered Counts at) where
  -- one step to the left, where nothing is in the way
  step_left : (p : Whole) → IsFreeAmong Counts die p → columns.high <ℤ p.x → IsClear Counts (half_of (record { x = p.x -ℤ pos 1; y = p.y })) → IsFreeAmong Counts die (record { x = p.x -ℤ pos 1; y = p.y })
  step_left p free beyond clear = record {
    in_die = record {
      x = record { at_least = omega (arith, ints, beyond, closest.low_least, closest.ordered); at_most = omega (arith, ints, free.in_die.x.at_most) };
      y = free.in_die.y;
    };
    clear = clear;
  }

  -- where a block is in the way, the point lies on its right edge
  stopped_left : (p : Whole) → IsFreeAmong Counts die p → IsCovered Counts (half_of (record { x = p.x -ℤ pos 1; y = p.y })) → IsOnSide Counts Right p
  stopped_left p free covered =
      let block = covered.block in
      let left : (pos 2 *ℤ block.x1) <ℤ (pos 2 *ℤ (p.x -ℤ pos 1)) = covered.inside.x.above in
      let right : (pos 2 *ℤ (p.x -ℤ pos 1)) <ℤ (pos 2 *ℤ block.x2) = covered.inside.x.below in
      record {
        block = block;
        counts = covered.counts;
        column = by_lt_z p.x block.x2
            (λ inside. absurd (free.clear block covered.counts (record {
              x = record { above = omega (arith, ints, left); below = omega (arith, ints, inside) };
              y = covered.inside.y;
            })))
            (λ outside. omega (arith, ints, outside, right));
        low = omega (arith, ints, covered.inside.y.above);
        high = omega (arith, ints, covered.inside.y.below);
      }

  from_right : (n : ℕ) (p : Whole) → IsFreeAmong Counts die p → columns.high ≤ℤ p.x → unsigned_abs (p.x -ℤ columns.high) ≤ n → HasAhead Counts die from columns p
  from_right zero p free right near = record { point = p; free = free; ahead = ahead_refl from p; place = inl (inr (omega (arith, ints, right, near))) }
  from_right (suc n) p free right near =
      by_lt_z columns.high p.x
      (λ beyond.
      let next : Whole = record { x = p.x -ℤ pos 1; y = p.y } in
      elim (decide (half_of next)) [
        | inl clear ↦
            let more : HasAhead Counts die from columns next = from_right n next (step_left p free beyond clear) (omega (arith, ints, beyond)) (omega (arith, ints, beyond, near)) in
            let step : IsAhead from next p = right_is_later (columns_of die) from columns closest p beyond (omega (arith, ints, free.in_die.x.at_most)) in
            record { point = more.point; free = more.free; ahead = ahead_trans from more.point next p more.ahead step; place = more.place }
        | inr covered ↦ record { point = p; free = free; ahead = ahead_refl from p; place = inr (Right, beyond, stopped_left p free covered) }
      ])
      (λ there. record { point = p; free = free; ahead = ahead_refl from p; place = inl (inr (omega (arith, ints, right, there))) })

  -- the same to the right
  step_right : (p : Whole) → IsFreeAmong Counts die p → p.x <ℤ columns.low → IsClear Counts (half_of (record { x = p.x +ℤ pos 1; y = p.y })) → IsFreeAmong Counts die (record { x = p.x +ℤ pos 1; y = p.y })
  step_right p free beyond clear = record {
    in_die = record {
      x = record { at_least = omega (arith, ints, free.in_die.x.at_least); at_most = omega (arith, ints, beyond, closest.high_most, closest.ordered) };
      y = free.in_die.y;
    };
    clear = clear;
  }

  stopped_right : (p : Whole) → IsFreeAmong Counts die p → IsCovered Counts (half_of (record { x = p.x +ℤ pos 1; y = p.y })) → IsOnSide Counts Left p
  stopped_right p free covered =
      let block = covered.block in
      let left : (pos 2 *ℤ block.x1) <ℤ (pos 2 *ℤ (p.x +ℤ pos 1)) = covered.inside.x.above in
      let right : (pos 2 *ℤ (p.x +ℤ pos 1)) <ℤ (pos 2 *ℤ block.x2) = covered.inside.x.below in
      record {
        block = block;
        counts = covered.counts;
        column = by_lt_z block.x1 p.x
            (λ inside. absurd (free.clear block covered.counts (record {
              x = record { above = omega (arith, ints, inside); below = omega (arith, ints, right) };
              y = covered.inside.y;
            })))
            (λ outside. omega (arith, ints, outside, left));
        low = omega (arith, ints, covered.inside.y.above);
        high = omega (arith, ints, covered.inside.y.below);
      }

  from_left : (n : ℕ) (p : Whole) → IsFreeAmong Counts die p → p.x ≤ℤ columns.low → unsigned_abs (columns.low -ℤ p.x) ≤ n → HasAhead Counts die from columns p
  from_left zero p free left near = record { point = p; free = free; ahead = ahead_refl from p; place = inl (inl (omega (arith, ints, left, near))) }
  from_left (suc n) p free left near =
      by_lt_z p.x columns.low
      (λ beyond.
      let next : Whole = record { x = p.x +ℤ pos 1; y = p.y } in
      elim (decide (half_of next)) [
        | inl clear ↦
            let more : HasAhead Counts die from columns next = from_left n next (step_right p free beyond clear) (omega (arith, ints, beyond)) (omega (arith, ints, beyond, near)) in
            let step : IsAhead from next p = left_is_later (columns_of die) from columns closest p beyond (omega (arith, ints, free.in_die.x.at_least)) in
            record { point = more.point; free = more.free; ahead = ahead_trans from more.point next p more.ahead step; place = more.place }
        | inr covered ↦ record { point = p; free = free; ahead = ahead_refl from p; place = inr (Left, beyond, stopped_right p free covered) }
      ])
      (λ there. record { point = p; free = free; ahead = ahead_refl from p; place = inl (inl (omega (arith, ints, left, there))) })

  pub has_ahead : (p : Whole) → IsFreeAmong Counts die p → HasAhead Counts die from columns p
  has_ahead p free =
      by_lt_z columns.low p.x
      (λ right. from_right (unsigned_abs (p.x -ℤ columns.high)) p free (omega (arith, ints, right, closest.adjacent)) (omega arith))
      (λ left. from_left (unsigned_abs (columns.low -ℤ p.x)) p free left (omega arith))

  -- a point that is ahead of all free points of those columns and edges is ahead of every free point
  pub ahead_of_all : (best : Whole)
      → ((q : Whole) → IsFreeAmong Counts die q → q.x ≡ columns.low → IsAhead from best q)
      → ((q : Whole) → IsFreeAmong Counts die q → q.x ≡ columns.high → IsAhead from best q)
      → ((side : Side) (q : Whole) → IsFreeAmong Counts die q → IsBeyond side columns q → IsOnSide Counts side q → IsAhead from best q)
      → (p : Whole) → IsFreeAmong Counts die p → IsAhead from best p
  ahead_of_all best at_low at_high at_side p free =
      let near = has_ahead p free in
      let q = near.point in
      let first : IsAhead from best q = elim near.place [
        | inl (inl low) ↦ at_low q near.free low
        | inl (inr high) ↦ at_high q near.free high
        | inr (side, beyond, on) ↦ at_side side q near.free beyond on
      ] in
      ahead_trans from best q p first near.ahead
