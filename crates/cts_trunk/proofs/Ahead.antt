-- What is known of the points of a road, and how far they stay inside a block.
use Rattle.std.proofs.Common.{◌≡◌, ℕ, ◌+◌, ◌*◌, ◌<◌, true, false, ℤ, pos, ◌+ℤ◌, ◌-ℤ◌, ◌*ℤ◌, ◌<ℤ◌, List, [], ◌∷◌, sym, subst, ◌∙◌, arith}
use Rattle.std.specs.Prelude.{Contains}
use Rattle.std.specs.List.{All}
use Rattle.std.proofs.lemmas.Int.{ints}
use Rattle.cts_geom.specs.declared.points.Half.{Half}
use Rattle.cts_geom.specs.declared.bounds.Die.{Die}
use Rattle.cts_geom.specs.Points.{IsHalfInRange}
use Rattle.cts_block.specs.declared.blocks.Block.{Block}
use Rattle.cts_block.specs.FreePoints.{IsHalfInDie, IsHalfInside, IsOpenToBuffers, IsPointInRange, IsStrictlyBetween}
use Rattle.cts_instance.specs.Validity.{IsDie}
use Rattle.cts_tree.specs.Path.{path_length, HasAxisSteps}
use Rattle.cts_trunk.specs.Way.{toward, point_along}
use Rattle.cts_trunk.specs.Places.{is_free_at}
use Rattle.cts_trunk.specs.Road.{IsEven, IsRoad, StartsEven}
use Rattle.cts_trunk.proofs.Freedom.{free_to, not_free}
use Rattle.cts_trunk.proofs.Steps.{toward_up, toward_down, toward_level, along_at, even_at}

pub ahead_up : (low high from to at : ℤ) (e d : ℕ) → from <ℤ to → at ≡ toward from to e → IsStrictlyBetween low high at
    → pos d <ℤ (pos 2 *ℤ high -ℤ at) → IsStrictlyBetween low high (toward from to (e + d))
ahead_up low high from to at e d h at_is inside short =
    let there : at ≡ from +ℤ pos e = at_is ∙ toward_up from to e h in
    subst (IsStrictlyBetween low high) (sym (toward_up from to (e + d) h)) (record {
      above = omega (arith, ints, there, inside.above);
      below = omega (arith, ints, there, short);
    })

pub ahead_down : (low high from to at : ℤ) (e d : ℕ) → to <ℤ from → at ≡ toward from to e → IsStrictlyBetween low high at
    → pos d <ℤ (at -ℤ pos 2 *ℤ low) → IsStrictlyBetween low high (toward from to (e + d))
ahead_down low high from to at e d h at_is inside short =
    let there : at ≡ from -ℤ pos e = at_is ∙ toward_down from to e h in
    subst (IsStrictlyBetween low high) (sym (toward_down from to (e + d) h)) (record {
      above = omega (arith, ints, there, short);
      below = omega (arith, ints, there, inside.below);
    })

pub ahead_level : (low high from to at : ℤ) (e d : ℕ) → from ≡ to → at ≡ toward from to e → IsStrictlyBetween low high at
    → IsStrictlyBetween low high (toward from to (e + d))
ahead_level low high from to at e d h at_is inside =
    subst (IsStrictlyBetween low high) (at_is ∙ toward_level from to e h ∙ sym (toward_level from to (e + d) h)) inside

module _ (die : Die) (is : IsDie die) (at : Half) (inside : IsHalfInDie die at) where
  pub point_in_range : IsPointInRange at
  point_in_range = record {
    x = omega (arith, ints, inside.x.at_most, is.x_high);
    y = omega (arith, ints, inside.y.at_most, is.y_high);
  }

  pub half_in_range : IsHalfInRange at
  half_in_range = record {
    x = record { low = omega (arith, ints, inside.x.at_least, is.x_low); high = omega (arith, ints, inside.x.at_most, is.x_high) };
    y = record { low = omega (arith, ints, inside.y.at_least, is.y_low); high = omega (arith, ints, inside.y.at_most, is.y_high) };
  }

even_along : (points : List Half) (d : ℕ) → HasAxisSteps points → StartsEven points → d < path_length points
    → IsEven (point_along points d) d
unfolding path_length
even_along [] d axes even short = absurd (omega arith)
even_along (p ∷ points) d axes even short =
    let same : 0 + d ≡ d = omega arith in
    subst (IsEven (point_along (p ∷ points) d)) same (even_at points p 0 d axes even short)

module _ (blocks : List Block) (die : Die) (points : List Half) (road : IsRoad blocks die points) (d : ℕ) (short : d < path_length points) where
  pub in_die_along : IsHalfInDie die (point_along points d)
  in_die_along = along_at (IsHalfInDie die) points d road.axes road.in_die short

  -- at an even distance the coordinates have an even sum
  pub even_there : (half : ℕ) → d ≡ 2 * half → IsEven (point_along points d) 0
  even_there half is =
      let far : IsEven (point_along points d) d = even_along points d road.axes road.even short in
      record { half = far.half -ℤ pos half; is = omega (arith, ints, far.is, is) }

  pub free_there : All (IsOpenToBuffers (point_along points d)) blocks → is_free_at blocks die points d ≡ true
  unfolding is_free_at
  free_there clear = free_to blocks die (point_along points d) (record { in_die = in_die_along; clear = clear })

pub blocked_there : (blocks : List Block) (die : Die) (points : List Half) (d : ℕ) (block : Block) → Contains blocks block
    → IsHalfInside block (point_along points d) → is_free_at blocks die points d ≡ false
unfolding is_free_at
blocked_there blocks die points d block listed inside = not_free blocks die (point_along points d) block listed inside
