-- A place has one nearest free point: at most one by the order, and one by a scan of the die.
use Rattle.std.proofs.Common.{◌≡◌, ℕ, zero, suc, ◌+◌, ◌<◌, ◌≤◌, ◌⊎◌, inl, inr, ℤ, pos, ◌+ℤ◌, ◌-ℤ◌, ◌*ℤ◌, ◌≤ℤ◌, Bool, List, refl, sym, ap, ◌∙◌, subst, arith}
use Rattle.std.specs.Prelude.{All, unsigned_abs}
use Rattle.std.proofs.lemmas.Bool.{cases_lt}
use Rattle.std.proofs.lemmas.Int.{ints, by_lt_z}
use Rattle.std.proofs.lemmas.List.Elements.{All-contains}
use Rattle.cts_geom.specs.declared.points.Half.{Half}
use Rattle.cts_geom.specs.declared.points.Spot.{Spot}
use Rattle.cts_geom.specs.declared.bounds.Die.{Die}
use Rattle.cts_geom.specs.Points.{spot_at, point_of, distance_of, manhattan_of}
use Rattle.cts_block.specs.declared.blocks.Block.{Block}
use Rattle.cts_block.specs.declared.whole.Whole.{Whole}
use Rattle.cts_block.specs.FreePoints.{IsHalfInDie}
use Rattle.cts_block.specs.NearestFree.{IsFree, IsLeastFree, LiesIn, NearestFreeIsOne, HasNearestFree}
use Rattle.cts_block.specs.Search.{IsFreeAmong, IsAhead, IsObstacle, half_of}
use Rattle.cts_block.proofs.MapLemmas.{free_from_parts, parts_of_free}
use Rattle.cts_block.proofs.ObstacleLemmas.{clear_or_covered, least_from_first}
use Rattle.cts_block.proofs.OrderLemmas.{ahead_refl, ahead_trans}

in_die_or_not : (die : Die) (at : Half) → IsHalfInDie die at ⊎ (¬ IsHalfInDie die at)
in_die_or_not die at =
    by_lt_z at.x (pos 2 *ℤ die.x1)
    (λ out. inr (λ in_die. omega (arith, ints, out, in_die.x.at_least)))
    (λ left. by_lt_z (pos 2 *ℤ die.x2) at.x
    (λ out. inr (λ in_die. omega (arith, ints, out, in_die.x.at_most)))
    (λ right. by_lt_z at.y (pos 2 *ℤ die.y1)
    (λ out. inr (λ in_die. omega (arith, ints, out, in_die.y.at_least)))
    (λ bottom. by_lt_z (pos 2 *ℤ die.y2) at.y
    (λ out. inr (λ in_die. omega (arith, ints, out, in_die.y.at_most)))
    (λ top. inl (record { x = record { at_least = left; at_most = right }; y = record { at_least = bottom; at_most = top } })))))

-- a place is free or not
free_or_not : (blocks : List Block) (die : Die) (buffered : Bool) (at : Spot) → IsFree blocks die buffered at ⊎ (¬ IsFree blocks die buffered at)
free_or_not blocks die buffered at =
    let point : Half = point_of at in
    elim (in_die_or_not die point) [
      | inr out ↦ inr (λ free. out (parts_of_free blocks die buffered at point refl free).0)
      | inl in_die ↦ elim (clear_or_covered blocks buffered point) [
        | inl clear ↦ inl (free_from_parts blocks die buffered at point refl in_die clear)
        | inr covered ↦ inr (λ free. (parts_of_free blocks die buffered at point refl free).1 covered.block covered.counts covered.inside)
      ]
    ]

-- two least free points are one
least_is_one : (blocks : List Block) (die : Die) (buffered : Bool) (at p q : Spot) → IsLeastFree blocks die buffered at p → IsLeastFree blocks die buffered at q → p ≡ q
least_is_one blocks die buffered at p q first second =
    let there = first.no_later second.x second.y (rw (← second.whole) second.free) in
    let back = second.no_later first.x first.y (rw (← first.whole) first.free) in
    let to_p : distance_of at (spot_at first.x first.y) ≡ distance_of at p = ap (λ (s : Spot). distance_of at s) (sym first.whole) in
    let to_q : distance_of at (spot_at second.x second.y) ≡ distance_of at q = ap (λ (s : Spot). distance_of at s) (sym second.whole) in
    let near : distance_of at p ≤ distance_of at (spot_at second.x second.y) = there.by_distance in
    let far : distance_of at q ≤ distance_of at (spot_at first.x first.y) = back.by_distance in
    let left : first.x ≤ℤ second.x = there.by_x (omega arith) in
    let right : second.x ≤ℤ first.x = back.by_x (omega arith) in
    let same_x : first.x ≡ second.x = omega (arith, ints, left, right) in
    let low : first.y ≤ℤ second.y = there.by_y (omega arith) (sym same_x) in
    let high : second.y ≤ℤ first.y = back.by_y (omega arith) same_x in
    let same_y : first.y ≡ second.y = omega (arith, ints, low, high) in
    first.whole ∙ ap (λ (x : ℤ). spot_at x first.y) same_x ∙ ap (λ (y : ℤ). spot_at second.x y) same_y ∙ sym second.whole

pub one_nearest_free : NearestFreeIsOne
one_nearest_free blocks die buffered at p q first second = elim (free_or_not blocks die buffered at) [
  | inl free ↦ first.stays free ∙ sym (second.stays free)
  | inr blocked ↦ least_is_one blocks die buffered at p q (first.moves blocked) (second.moves blocked)
]

-- of two points one is ahead
ahead_or : (from : Half) (p q : Whole) → IsAhead from p q ⊎ IsAhead from q p
ahead_or from p q =
    let to_p : ℕ = manhattan_of from (half_of p) in
    let to_q : ℕ = manhattan_of from (half_of q) in
    elim (cases_lt to_p to_q) [
      | inl nearer ↦ inl (record { by_distance = omega (arith, nearer); by_x = λ same. absurd (omega (arith, nearer, same)); by_y = λ same _. absurd (omega (arith, nearer, same)) })
      | inr further ↦ elim (cases_lt to_q to_p) [
        | inl nearer ↦ inr (record { by_distance = omega (arith, nearer); by_x = λ same. absurd (omega (arith, nearer, same)); by_y = λ same _. absurd (omega (arith, nearer, same)) })
        | inr equal ↦ by_lt_z p.x q.x
            (λ left. inl (record { by_distance = equal; by_x = λ _. omega (arith, ints, left); by_y = λ _ same. absurd (omega (arith, ints, left, same)) }))
            (λ right. by_lt_z q.x p.x
            (λ left. inr (record { by_distance = further; by_x = λ _. omega (arith, ints, left); by_y = λ _ same. absurd (omega (arith, ints, left, same)) }))
            (λ same. by_lt_z p.y q.y
            (λ below. inl (record { by_distance = equal; by_x = λ _. same; by_y = λ _ _. omega (arith, ints, below) }))
            (λ above. inr (record { by_distance = further; by_x = λ _. right; by_y = λ _ _. above }))))
      ]
    ]

-- a free point that is ahead of another one and of some points
record IsBest (Counts : Block → Type 0) (die : Die) (from : Half) (start : Whole) (Among : Whole → Type 0) : Type 0 where
  best : Whole
  free : IsFreeAmong Counts die best
  ahead : IsAhead from best start
  first : (q : Whole) → Among q → IsFreeAmong Counts die q → IsAhead from best q

module _ (blocks : List Block) (buffered : Bool) (die : Die) (from : Half) where
  abbrev Free : Whole → Type 0
  Free p = IsFreeAmong (IsObstacle blocks buffered) die p

  abbrev Best : Whole → (Whole → Type 0) → Type 0
  Best start Among = IsBest (IsObstacle blocks buffered) die from start Among

  -- one more point
  best_with : (start p : Whole) → Free start → Best start (λ q. q ≡ p)
  best_with start p free =
      let keep : ¬ Free p → Best start (λ q. q ≡ p) = λ blocked. record {
        best = start;
        free = free;
        ahead = ahead_refl from start;
        first = λ q is is_free. let P : Whole → Type 0 = λ w. Free w in absurd (blocked (subst P is is_free));
      } in
      elim (in_die_or_not die (half_of p)) [
        | inr out ↦ keep (λ is_free. out is_free.in_die)
        | inl in_die ↦ elim (clear_or_covered blocks buffered (half_of p)) [
          | inr covered ↦ keep (λ is_free. is_free.clear covered.block covered.counts covered.inside)
          | inl clear ↦
              let Q : Whole → Type 0 = λ w. IsAhead from start w in
              let R : Whole → Type 0 = λ w. IsAhead from p w in
              elim (ahead_or from start p) [
                | inl before ↦ record { best = start; free = free; ahead = ahead_refl from start; first = λ q is _. subst Q (sym is) before }
                | inr after ↦ record {
                  best = p;
                  free = record { in_die = in_die; clear = clear };
                  ahead = after;
                  first = λ q is _. subst R (sym is) (ahead_refl from p);
                }
              ]
        ]
      ]

  -- all points of some column up to a height
  best_in_column : (start : Whole) → Free start → (x : ℤ) (n : ℕ) → Best start (λ q. (k : ℕ) × (k < n) × (q ≡ record { x = x; y = die.y1 +ℤ pos k }))
  best_in_column start free x zero = record { best = start; free = free; ahead = ahead_refl from start; first = λ q among _. absurd (omega (arith, among.1)) }
  best_in_column start free x (suc n) =
      let below = best_in_column start free x n in
      let last : Whole = record { x = x; y = die.y1 +ℤ pos n } in
      let all = best_with below.best last below.free in
      record {
        best = all.best;
        free = all.free;
        ahead = ahead_trans from all.best below.best start all.ahead below.ahead;
        first = λ q among is_free. elim (cases_lt among.0 n) [
          | inl lower ↦ ahead_trans from all.best below.best q all.ahead (below.first q (among.0, lower, among.2) is_free)
          | inr top ↦
              let is_n : among.0 ≡ n = omega (arith, top, among.1) in
              all.first q (among.2 ∙ ap (λ (k : ℕ). record { x = x; y = die.y1 +ℤ pos k }) is_n) is_free
        ];
      }

  -- all points of some columns
  best_in_columns : (height : ℕ) (start : Whole) → Free start → (n : ℕ) → Best start (λ q. (i : ℕ) × (i < n) × (k : ℕ) × (k < height) × (q ≡ record { x = die.x1 +ℤ pos i; y = die.y1 +ℤ pos k }))
  best_in_columns height start free zero = record { best = start; free = free; ahead = ahead_refl from start; first = λ q among _. absurd (omega (arith, among.1)) }
  best_in_columns height start free (suc n) =
      let left = best_in_columns height start free n in
      let all = best_in_column left.best left.free (die.x1 +ℤ pos n) height in
      record {
        best = all.best;
        free = all.free;
        ahead = ahead_trans from all.best left.best start all.ahead left.ahead;
        first = λ q among is_free. elim (cases_lt among.0 n) [
          | inl lower ↦ ahead_trans from all.best left.best q all.ahead (left.first q (among.0, lower, among.2, among.3, among.4) is_free)
          | inr last ↦
              let is_n : among.0 ≡ n = omega (arith, last, among.1) in
              all.first q (among.2, among.3, among.4 ∙ ap (λ (i : ℕ). record { x = die.x1 +ℤ pos i; y = die.y1 +ℤ pos among.2 }) is_n) is_free
        ];
      }

-- the lower left corner of the die is inside no block
corner_is_free : (blocks : List Block) (buffered : Bool) (die : Die) → die.x1 ≤ℤ die.x2 → die.y1 ≤ℤ die.y2 → All (LiesIn die) blocks
    → IsFreeAmong (IsObstacle blocks buffered) die (record { x = die.x1; y = die.y1 })
corner_is_free blocks buffered die x_order y_order lie = record {
  in_die = record {
    x = record { at_least = omega (arith, ints); at_most = omega (arith, ints, x_order) };
    y = record { at_least = omega (arith, ints); at_most = omega (arith, ints, y_order) };
  };
  clear = λ block counts inside.
      let lies : LiesIn die block = All-contains (LiesIn die) blocks block lie counts.listed in
      omega (arith, ints, lies.from.west, inside.x.above);
}

-- every point of the die is met by the scan
point_is_met : (die : Die) (q : Whole) → IsHalfInDie die (half_of q)
    → (i : ℕ) × (i < unsigned_abs (die.x2 -ℤ die.x1) + 1) × (k : ℕ) × (k < unsigned_abs (die.y2 -ℤ die.y1) + 1) × (q ≡ record { x = die.x1 +ℤ pos i; y = die.y1 +ℤ pos k })
point_is_met die q in_die =
    let i : ℕ = unsigned_abs (q.x -ℤ die.x1) in
    let k : ℕ = unsigned_abs (q.y -ℤ die.y1) in
    let same_x : q.x ≡ die.x1 +ℤ pos i = omega (arith, ints, in_die.x.at_least) in
    let same_y : q.y ≡ die.y1 +ℤ pos k = omega (arith, ints, in_die.y.at_least) in
    let with_x : ℤ → Whole = λ x. record { x = x; y = q.y } in
    let with_y : ℤ → Whole = λ y. record { x = die.x1 +ℤ pos i; y = y } in (
      i,
      omega (arith, ints, in_die.x.at_least, in_die.x.at_most),
      k,
      omega (arith, ints, in_die.y.at_least, in_die.y.at_most),
      ap with_x same_x ∙ ap with_y same_y,
    )

pub some_nearest_free : HasNearestFree
some_nearest_free blocks die buffered at x_order y_order lie = elim (free_or_not blocks die buffered at) [
  | inl free ↦ (at, record { stays = λ _. refl; moves = λ blocked. absurd (blocked free) })
  | inr blocked ↦
      let corner : Whole = record { x = die.x1; y = die.y1 } in
      let corner_free = corner_is_free blocks buffered die x_order y_order lie in
      let found = best_in_columns blocks buffered die (point_of at) (unsigned_abs (die.y2 -ℤ die.y1) + 1) corner corner_free (unsigned_abs (die.x2 -ℤ die.x1) + 1) in
      let p = found.best in (
        spot_at p.x p.y,
        record {
          stays = λ free. absurd (blocked free);
          moves = λ _. least_from_first blocks die buffered at (spot_at p.x p.y) (point_of at) p refl refl found.free
              (λ q free. found.first q (point_is_met die q free.in_die) free);
        },
      )
]
