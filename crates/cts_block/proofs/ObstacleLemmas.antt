-- Blocks of a list as the set of those that count.
use Rattle.std.proofs.Common.{◌≡◌, ℕ, zero, suc, ◌+◌, ◌*◌, ◌<◌, ◌⊎◌, inl, inr, ℤ, pos, ◌*ℤ◌, Bool, true, false, List, [], ◌∷◌, length, slice_index_or, refl, sym, ap, ◌∙◌, below_more, arith}
use Rattle.std.specs.Prelude.{Contains}
use Rattle.std.proofs.lemmas.Int.{ints, by_lt_z}
use Rattle.std.proofs.lemmas.List.{get_or_default}
use Rattle.std.proofs.lemmas.List.Elements.{All-contains, All-contains_itself, Contains-append_left, Contains-append_right, Contains-append_cases}
use Rattle.cts_geom.specs.declared.points.Half.{Half}
use Rattle.cts_geom.specs.declared.points.Spot.{Spot}
use Rattle.cts_geom.specs.declared.bounds.Die.{Die}
use Rattle.cts_geom.specs.Points.{point_of, spot_at, distance_of, manhattan_of}
use Rattle.cts_geom.proofs.PointLemmas.{half_same, distance_manhattan}
use Rattle.cts_block.specs.declared.blocks.Block.{Block}
use Rattle.cts_block.specs.declared.blocks.Kind.{Kind}
use Rattle.cts_block.specs.declared.blocks.Kind.TheVariants.{Buffer, All as Every}
use Rattle.cts_block.specs.declared.whole.Whole.{Whole}
use Rattle.cts_block.specs.declared.whole.Side.{Side}
use Rattle.cts_block.specs.declared.whole.Side.TheVariants.{Left, Right}
use Rattle.cts_block.specs.FreePoints.{IsHalfInside, IsOpenToWires, IsOpenToBuffers}
use Rattle.cts_block.specs.NearestFree.{IsFree, IsLeastFree}
use Rattle.cts_block.specs.Search.{IsFreeAmong, IsAhead, IsOnEdge, IsOnSide, IsObstacle, Stops, half_of}
use Rattle.cts_block.proofs.OrderLemmas.{ahead_trans}
use Rattle.cts_block.proofs.ColumnLemmas.{IsClear, IsCovered}

pub inside_or_not : (block : Block) (at : Half) → IsHalfInside block at ⊎ (¬ IsHalfInside block at)
inside_or_not block at =
    by_lt_z (pos 2 *ℤ block.x1) at.x
    (λ left. by_lt_z at.x (pos 2 *ℤ block.x2)
    (λ right. by_lt_z (pos 2 *ℤ block.y1) at.y
    (λ bottom. by_lt_z at.y (pos 2 *ℤ block.y2)
    (λ top. inl (record { x = record { above = left; below = right }; y = record { above = bottom; below = top } }))
    (λ beyond. inr (λ inside. omega (arith, ints, inside.y.below, beyond))))
    (λ beyond. inr (λ inside. omega (arith, ints, inside.y.above, beyond))))
    (λ beyond. inr (λ inside. omega (arith, ints, inside.x.below, beyond))))
    (λ beyond. inr (λ inside. omega (arith, ints, inside.x.above, beyond)))

pub by_stops : (buffered : Bool) (kind : Kind) (P : Type 0) → (Stops buffered kind → P) → (¬ Stops buffered kind → P) → P
by_stops true kind P stops other = stops tt
by_stops false Buffer P stops other = other (λ never. never)
by_stops false Every P stops other = stops tt

-- of the blocks of a list, one that counts covers a point, or none does
pub clear_or_covered : (blocks : List Block) (buffered : Bool) (at : Half) → IsClear (IsObstacle blocks buffered) at ⊎ IsCovered (IsObstacle blocks buffered) at
clear_or_covered [] buffered at = inl (λ block counts. absurd (omega (arith, counts.listed.1)))
clear_or_covered (first ∷ rest) buffered at =
    let here : Contains (first ∷ rest) first = Contains-append_left (first ∷ []) rest first (0, omega arith, refl) in
    let Goal : Type 0 = IsClear (IsObstacle (first ∷ rest) buffered) at ⊎ IsCovered (IsObstacle (first ∷ rest) buffered) at in
    let by_rest : ¬ (Stops buffered first.kind × IsHalfInside first at) → Goal = λ open'.
    elim (clear_or_covered rest buffered at) [
      | inr covered ↦ inr (record {
        block = covered.block;
        counts = record { listed = Contains-append_right (first ∷ []) rest covered.block covered.counts.listed; stops = covered.counts.stops };
        inside = covered.inside;
      })
      | inl clear ↦ inl (λ block counts inside. elim (Contains-append_cases (first ∷ []) rest block counts.listed) [
        | inl one ↦
            let same : first ≡ block = only first block one in
            open' (rw same counts.stops, rw same inside)
        | inr other ↦ clear block (record { listed = other; stops = counts.stops }) inside
      ])
    ]
    in
    elim (inside_or_not first at) [
      | inr outside ↦ by_rest (λ both. outside both.1)
      | inl inside ↦ by_stops buffered first.kind Goal
          (λ stops. inr (record { block = first; counts = record { listed = here; stops = stops }; inside = inside }))
          (λ open'. by_rest (λ both. open' both.0))
    ]
  where
    -- the only block of a list
    only : (one block : Block) → Contains (one ∷ []) block → one ≡ block
    only one block (k, below, is) = elim k as (λ (n : ℕ). n < 1 → slice_index_or (one ∷ []) n block ≡ block → one ≡ block) [ zero ↦ λ _ e. e | suc m ↦ λ h _. absurd (omega (arith, h)) ] below is

-- the point of the spot of whole nm
pub whole_point : (x y : ℤ) → point_of (spot_at x y) ≡ half_of (record { x = x; y = y })
whole_point x y = half_same (point_of (spot_at x y)) (half_of (record { x = x; y = y })) (omega (arith, ints)) (omega (arith, ints))

-- where no block of a list that counts has a point inside, index by index
pub none_covers : (blocks : List Block) (buffered : Bool) (at : Half)
    → ((k : ℕ) (d : Block) → k < length blocks → Stops buffered (slice_index_or blocks k d).kind → ¬ IsHalfInside (slice_index_or blocks k d) at)
    → (block : Block) → IsObstacle blocks buffered block → ¬ IsHalfInside block at
none_covers blocks buffered at none block counts inside =
    let k = counts.listed.0 in
    let is : slice_index_or blocks k block ≡ block = counts.listed.2 in
    none k block counts.listed.1 (rw is counts.stops) (rw is inside)

-- free in the sense of the definition, at a point of whole nm
pub free_among : (blocks : List Block) (die : Die) (buffered : Bool) (p : Whole) (at : Spot) → point_of at ≡ half_of p → IsFree blocks die buffered at → IsFreeAmong (IsObstacle blocks buffered) die p
free_among blocks die true p at same free = record {
  in_die = rw (← same) free.in_die;
  clear = λ block counts. rw (← same) (All-contains (IsOpenToBuffers (point_of at)) blocks block free.clear counts.listed);
}
free_among blocks die false p at same free = record {
  in_die = rw (← same) free.in_die;
  clear = λ block counts. rw (← same) (All-contains (IsOpenToWires (point_of at)) blocks block free.clear counts.listed counts.stops);
}

pub free_from_among : (blocks : List Block) (die : Die) (buffered : Bool) (p : Whole) (at : Spot) → point_of at ≡ half_of p → IsFreeAmong (IsObstacle blocks buffered) die p → IsFree blocks die buffered at
free_from_among blocks die true p at same free = record {
  in_die = rw same free.in_die;
  clear = λ k d below. rw same (free.clear (slice_index_or blocks k d) (record { listed = All-contains_itself blocks k d below; stops = tt }));
}
free_from_among blocks die false p at same free = record {
  in_die = rw same free.in_die;
  clear = λ k d below stops. rw same (free.clear (slice_index_or blocks k d) (record { listed = All-contains_itself blocks k d below; stops = stops }));
}

-- one more block, whose edges are seen
module _ (blocks : List Block) (buffered : Bool) (die : Die) (from : Half) (i : ℕ) (within : i < length blocks) (e : Block) where
  pub more_edges : (old new : Whole) → IsAhead from new old
      → (Stops buffered (slice_index_or blocks i e).kind → (q : Whole) → IsFreeAmong (IsObstacle blocks buffered) die q → IsOnEdge (slice_index_or blocks i e) q → IsAhead from new q)
      → ((k : ℕ) (d : Block) → k < i → Stops buffered (slice_index_or blocks k d).kind → (q : Whole) → IsFreeAmong (IsObstacle blocks buffered) die q → IsOnEdge (slice_index_or blocks k d) q → IsAhead from old q)
      → (k : ℕ) (d : Block) → k < i + 1 → Stops buffered (slice_index_or blocks k d).kind → (q : Whole) → IsFreeAmong (IsObstacle blocks buffered) die q → IsOnEdge (slice_index_or blocks k d) q → IsAhead from new q
  more_edges old new ahead here seen k d below =
      let P : ℕ → Type 0 = λ n. Stops buffered (slice_index_or blocks n d).kind → (q : Whole) → IsFreeAmong (IsObstacle blocks buffered) die q → IsOnEdge (slice_index_or blocks n d) q → IsAhead from new q in
      let at_last : P i = rw (get_or_default blocks i d e within) here in
      below_more P i (λ n h stops q free on. ahead_trans from new old q ahead (seen n d h stops q free on)) at_last k below

-- ahead of all points on the edges of the blocks that count
module _ (blocks : List Block) (buffered : Bool) (die : Die) (from : Half) (best : Whole) (edges : (block : Block) → IsObstacle blocks buffered block → (q : Whole) → IsFreeAmong (IsObstacle blocks buffered) die q → IsOnEdge block q → IsAhead from best q) where
  pub ahead_on_side : (side : Side) (q : Whole) → IsFreeAmong (IsObstacle blocks buffered) die q → IsOnSide (IsObstacle blocks buffered) side q → IsAhead from best q
  ahead_on_side Left q free on = edges on.block on.counts q free (record { column = inl on.column; low = omega (arith, ints, on.low); high = omega (arith, ints, on.high) })
  ahead_on_side Right q free on = edges on.block on.counts q free (record { column = inr on.column; low = omega (arith, ints, on.low); high = omega (arith, ints, on.high) })

-- twice the distance of a point of whole nm from a place
pub doubled_distance : (at : Spot) (from : Half) → from ≡ point_of at → (x y : ℤ) → 2 * distance_of at (spot_at x y) ≡ manhattan_of from (half_of (record { x = x; y = y }))
doubled_distance at from is x y =
    distance_manhattan at (spot_at x y) ∙ ap (λ (h : Half). manhattan_of (point_of at) h) (whole_point x y) ∙ ap (λ (h : Half). manhattan_of h (half_of (record { x = x; y = y }))) (sym is)

-- the first of all free points is the least free point
pub least_from_first : (blocks : List Block) (die : Die) (buffered : Bool) (at spot : Spot) (from : Half) (p : Whole)
    → from ≡ point_of at → spot ≡ spot_at p.x p.y → IsFreeAmong (IsObstacle blocks buffered) die p
    → ((q : Whole) → IsFreeAmong (IsObstacle blocks buffered) die q → IsAhead from p q)
    → IsLeastFree blocks die buffered at spot
least_from_first blocks die buffered at spot from p is_from is free first = record {
  x = p.x;
  y = p.y;
  whole = is;
  free = free_from_among blocks die buffered p spot (rw is (whole_point p.x p.y)) free;
  no_later = λ x y free'.
      let q : Whole = record { x = x; y = y } in
      let ahead : IsAhead from p q = first q (free_among blocks die buffered q (spot_at x y) (whole_point x y) free') in
      let to_p : 2 * distance_of at spot ≡ manhattan_of from (half_of p) = rw is (doubled_distance at from is_from p.x p.y) in
      let to_q : 2 * distance_of at (spot_at x y) ≡ manhattan_of from (half_of q) = doubled_distance at from is_from x y in
      record {
        by_distance = omega (arith, to_p, to_q, ahead.by_distance);
        by_x = λ same. ahead.by_x (omega (arith, to_p, to_q, same));
        by_y = λ same same_x. ahead.by_y (omega (arith, to_p, to_q, same)) same_x;
      };
}
