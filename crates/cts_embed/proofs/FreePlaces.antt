-- A nearest free point is free and is one, and the points of a die are in range.
use Rattle.std.proofs.Common.{◌≡◌, ℤ, pos, ◌*ℤ◌, ◌≤ℤ◌, ◌<ℤ◌, Bool, true, false, List, sym, ap, ap₂, subst, ◌∙◌, arith}
use Rattle.std.proofs.lemmas.Int.{ints, by_lt_z}
use Rattle.cts_geom.specs.declared.bounds.Die.{Die}
use Rattle.cts_geom.specs.declared.points.Spot.{Spot}
use Rattle.cts_geom.specs.Points.{point_of, spot_at, distance_of}
use Rattle.cts_geom.proofs.PointLemmas.{spot_same}
use Rattle.cts_block.specs.declared.blocks.Block.{Block}
use Rattle.cts_block.specs.FreePoints.{IsBetween, IsHalfInDie}
use Rattle.cts_block.specs.NearestFree.{IsFree, IsLeastFree, IsNearestFree, IsNoLater}
use Rattle.std.specs.Option.{is_some}
use Rattle.cts_embed.specs.Laws.{PairPlacesAreFree}

not_below : (a b : ℤ) → ¬ (b <ℤ a) → a ≤ℤ b
not_below a b none = by_lt_z b a (λ less. absurd (none less)) (λ more. more)

module _ (blocks : List Block) (die : Die) (buffered : Bool) (at p : Spot) (is : IsNearestFree blocks die buffered at p) where
  -- it can't be that the point is not free
  not_blocked : ¬ ¬ IsFree blocks die buffered p
  not_blocked none =
      none (is.moves (λ stays. none (subst (IsFree blocks die buffered) (sym (is.stays stays)) stays))).free

free_in_die : (blocks : List Block) (die : Die) (buffered : Bool) (p : Spot) → IsFree blocks die buffered p → IsHalfInDie die (point_of p)
free_in_die blocks die true p free = free.in_die
free_in_die blocks die false p free = free.in_die

between : (low high z : ℤ) → ¬ ¬ IsBetween low high z → IsBetween low high z
between low high z some = record {
  at_least = not_below (pos 2 *ℤ low) z (λ less. some (λ b. absurd (omega (arith, ints, less, b.at_least))));
  at_most = not_below z (pos 2 *ℤ high) (λ less. some (λ b. absurd (omega (arith, ints, less, b.at_most))));
}

pub nearest_in_die : (blocks : List Block) (die : Die) (buffered : Bool) (at p : Spot) → IsNearestFree blocks die buffered at p
    → IsHalfInDie die (point_of p)
nearest_in_die blocks die buffered at p is =
    let some : ¬ ¬ IsFree blocks die buffered p = not_blocked blocks die buffered at p is in
    record {
      x = between die.x1 die.x2 (point_of p).x (λ none. some (λ free. none (free_in_die blocks die buffered p free).x));
      y = between die.y1 die.y2 (point_of p).y (λ none. some (λ free. none (free_in_die blocks die buffered p free).y));
    }

pub nearest_is_free : (blocks : List Block) (die : Die) (buffered : Bool) (at p : Spot) → IsNearestFree blocks die buffered at p
    → IsFree blocks die buffered p
nearest_is_free blocks die true at p is = record {
  in_die = nearest_in_die blocks die true at p is;
  clear = λ k d h inside. not_blocked blocks die true at p is (λ free. free.clear k d h inside);
}
nearest_is_free blocks die false at p is = record {
  in_die = nearest_in_die blocks die false at p is;
  clear = λ k d h stops inside. not_blocked blocks die false at p is (λ free. free.clear k d h stops inside);
}

-- the least free point is one
least_free_one : (blocks : List Block) (die : Die) (buffered : Bool) (at p q : Spot) → IsLeastFree blocks die buffered at p
    → IsLeastFree blocks die buffered at q → p ≡ q
least_free_one blocks die buffered at p q hp hq =
    let there : IsNoLater (distance_of at p) hp.x hp.y (distance_of at (spot_at hq.x hq.y)) hq.x hq.y =
    hp.no_later hq.x hq.y (subst (IsFree blocks die buffered) hq.whole hq.free) in
    let back : IsNoLater (distance_of at q) hq.x hq.y (distance_of at (spot_at hp.x hp.y)) hp.x hp.y =
    hq.no_later hp.x hp.y (subst (IsFree blocks die buffered) hp.whole hp.free) in
    let at_p : distance_of at p ≡ distance_of at (spot_at hp.x hp.y) = ap (distance_of at) hp.whole in
    let at_q : distance_of at q ≡ distance_of at (spot_at hq.x hq.y) = ap (distance_of at) hq.whole in
    let same : distance_of at (spot_at hq.x hq.y) ≡ distance_of at p = omega (arith, there.by_distance, back.by_distance, at_p, at_q) in
    let same' : distance_of at (spot_at hp.x hp.y) ≡ distance_of at q = omega (arith, same, at_p, at_q) in
    let x : hp.x ≡ hq.x = omega (arith, ints, there.by_x same, back.by_x same') in
    let y : hp.y ≡ hq.y = omega (arith, ints, there.by_y same (sym x), back.by_y same' x) in
    hp.whole ∙ ap₂ spot_at x y ∙ sym hq.whole

stable_z : (a b : ℤ) → ¬ ¬ (a ≡ b) → a ≡ b
stable_z a b some =
    by_lt_z a b (λ less. absurd (some (λ e. absurd (omega (arith, ints, less, e)))))
    (λ more. by_lt_z b a (λ less. absurd (some (λ e. absurd (omega (arith, ints, less, e))))) (λ back. omega (arith, ints, more, back)))

pub nearest_free_one : (blocks : List Block) (die : Die) (buffered : Bool) (at p q : Spot) → IsNearestFree blocks die buffered at p
    → IsNearestFree blocks die buffered at q → p ≡ q
nearest_free_one blocks die buffered at p q hp hq =
    let some : ¬ ¬ (p ≡ q) = λ none.
    let blocked : ¬ IsFree blocks die buffered at = λ free. none (hp.stays free ∙ sym (hq.stays free)) in
    none (least_free_one blocks die buffered at p q (hp.moves blocked) (hq.moves blocked)) in
    spot_same p q (stable_z p.u q.u (λ none. some (λ e. none (ap (λ (s : Spot). s.u) e))))
    (stable_z p.v q.v (λ none. some (λ e. none (ap (λ (s : Spot). s.v) e))))

pub pair_places_free : PairPlacesAreFree
pair_places_free parts pair from place is =
    nearest_is_free parts.blocks parts.die (is_some pair.buffer) is.first place is.moved
