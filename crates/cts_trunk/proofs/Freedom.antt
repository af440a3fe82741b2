-- Free points, as tests and as facts.
use Rattle.std.proofs.Common.{◌≡◌, Bool, true, false, not, ◌&&◌, ◌||◌, ℤ, pos, ◌*ℤ◌, ◌≤ℤ◌, ◌<ℤ◌, List, [], ◌∷◌, refl, arith}
use Rattle.std.specs.Prelude.{int_lt, int_le, Contains}
use Rattle.std.specs.List.{All, list_any}
use Rattle.std.proofs.lemmas.Bool.{false≢true}
use Rattle.std.proofs.lemmas.Int.{ints}
use Rattle.std.proofs.lemmas.List.Folds.{list_any_none}
use Rattle.std.proofs.lemmas.List.Elements.{All-cons, All-nil, All-weaker, All-contains}
use Rattle.cts_geom.specs.declared.points.Half.{Half}
use Rattle.cts_geom.specs.declared.bounds.Die.{Die}
use Rattle.cts_block.specs.declared.blocks.Block.{Block}
use Rattle.cts_block.specs.FreePoints.{IsHalfInside, IsHalfInDie, IsFreeForBuffer, IsOpenToBuffers}
use Rattle.cts_trunk.specs.Places.{is_inside, is_in_die, is_free}
use Rattle.cts_trunk.specs.Laws.{FreeIsForBuffers}

pub lt_from : (a b : ℤ) → int_lt a b ≡ true → a <ℤ b
lt_from a b is = grind (arith, ints)

lt_to : (a b : ℤ) → a <ℤ b → int_lt a b ≡ true
lt_to a b is = grind (arith, ints)

le_from : (a b : ℤ) → int_le a b ≡ true → a ≤ℤ b
le_from a b is = grind (arith, ints)

le_to : (a b : ℤ) → a ≤ℤ b → int_le a b ≡ true
le_to a b is = grind (arith, ints)

both_from : (a b : Bool) → (a && b) ≡ true → (a ≡ true) × (b ≡ true)
both_from true b is = (refl, is)
both_from false b is = absurd (false≢true is)

both_to : (a b : Bool) → a ≡ true → b ≡ true → (a && b) ≡ true
both_to true b p q = q
both_to false b p q = absurd (false≢true p)

pub inside_from : (at : Half) (block : Block) → is_inside at block ≡ true → IsHalfInside block at
inside_from at block is =
    let xy = both_from (int_lt (pos 2 *ℤ block.x1) at.x && int_lt at.x (pos 2 *ℤ block.x2)) _ is in
    let x = both_from (int_lt (pos 2 *ℤ block.x1) at.x) (int_lt at.x (pos 2 *ℤ block.x2)) xy.0 in
    let y = both_from (int_lt (pos 2 *ℤ block.y1) at.y) (int_lt at.y (pos 2 *ℤ block.y2)) xy.1 in
    record {
      x = record { above = lt_from (pos 2 *ℤ block.x1) at.x (x.0); below = lt_from at.x (pos 2 *ℤ block.x2) (x.1) };
      y = record { above = lt_from (pos 2 *ℤ block.y1) at.y (y.0); below = lt_from at.y (pos 2 *ℤ block.y2) (y.1) };
    }

pub inside_to : (at : Half) (block : Block) → IsHalfInside block at → is_inside at block ≡ true
inside_to at block is =
    both_to _ _
    (both_to _ _ (lt_to (pos 2 *ℤ block.x1) at.x is.x.above) (lt_to at.x (pos 2 *ℤ block.x2) is.x.below))
    (both_to _ _ (lt_to (pos 2 *ℤ block.y1) at.y is.y.above) (lt_to at.y (pos 2 *ℤ block.y2) is.y.below))

pub in_die_from : (die : Die) (at : Half) → is_in_die die at ≡ true → IsHalfInDie die at
in_die_from die at is =
    let xy = both_from (int_le (pos 2 *ℤ die.x1) at.x && int_le at.x (pos 2 *ℤ die.x2)) _ is in
    let x = both_from (int_le (pos 2 *ℤ die.x1) at.x) (int_le at.x (pos 2 *ℤ die.x2)) xy.0 in
    let y = both_from (int_le (pos 2 *ℤ die.y1) at.y) (int_le at.y (pos 2 *ℤ die.y2)) xy.1 in
    record {
      x = record { at_least = le_from (pos 2 *ℤ die.x1) at.x (x.0); at_most = le_from at.x (pos 2 *ℤ die.x2) (x.1) };
      y = record { at_least = le_from (pos 2 *ℤ die.y1) at.y (y.0); at_most = le_from at.y (pos 2 *ℤ die.y2) (y.1) };
    }

pub in_die_to : (die : Die) (at : Half) → IsHalfInDie die at → is_in_die die at ≡ true
in_die_to die at is =
    both_to _ _
    (both_to _ _ (le_to (pos 2 *ℤ die.x1) at.x is.x.at_least) (le_to at.x (pos 2 *ℤ die.x2) is.x.at_most))
    (both_to _ _ (le_to (pos 2 *ℤ die.y1) at.y is.y.at_least) (le_to at.y (pos 2 *ℤ die.y2) is.y.at_most))

none_from : {X : Type 0} (p : X → Bool) (xs : List X) → not (list_any p xs) ≡ true → All (λ x. p x ≡ false) xs
none_from p [] is = All-nil (λ x. p x ≡ false)
none_from {X} p (x ∷ xs) is = by_first (λ rest. none_from p xs rest) (p x) refl is
  where
    by_first : (not (list_any p xs) ≡ true → All (λ (y : X). p y ≡ false) xs) → (b : Bool) → p x ≡ b
        → not (b || list_any p xs) ≡ true → All (λ (y : X). p y ≡ false) (x ∷ xs)
    by_first later true here rest = absurd (false≢true rest)
    by_first later false here rest = All-cons (λ y. p y ≡ false) x xs here (later rest)

none_to : {X : Type 0} (p : X → Bool) (xs : List X) → All (λ x. p x ≡ false) xs → not (list_any p xs) ≡ true
none_to p xs all = rw (list_any_none p xs all) refl

not_inside : (at : Half) (block : Block) → is_inside at block ≡ false → IsOpenToBuffers at block
not_inside at block is = λ inside. let yes = inside_to at block inside in cc

open_test : (at : Half) (block : Block) → IsOpenToBuffers at block → is_inside at block ≡ false
open_test at block clear = by_test (is_inside at block) refl
  where
    by_test : (b : Bool) → is_inside at block ≡ b → is_inside at block ≡ false
    by_test true is = absurd (clear (inside_from at block is))
    by_test false is = is

module _ (blocks : List Block) (die : Die) (at : Half) where
  pub free_from : is_free blocks die at ≡ true → IsFreeForBuffer blocks die at
  free_from is =
      let parts = both_from (is_in_die die at) (not (list_any (is_inside at) blocks)) is in
      record {
        in_die = in_die_from die at (parts.0);
        clear = All-weaker (λ block. is_inside at block ≡ false) (IsOpenToBuffers at) (not_inside at) blocks
            (none_from (is_inside at) blocks (parts.1));
      }

  pub free_to : IsFreeForBuffer blocks die at → is_free blocks die at ≡ true
  free_to free =
      both_to (is_in_die die at) (not (list_any (is_inside at) blocks)) (in_die_to die at free.in_die)
      (none_to (is_inside at) blocks
      (All-weaker (IsOpenToBuffers at) (λ block. is_inside at block ≡ false) (open_test at) blocks free.clear))

  -- inside a block no buffer may stand
  pub not_free : (block : Block) → Contains blocks block → IsHalfInside block at → is_free blocks die at ≡ false
  not_free block listed inside = by_test (is_free blocks die at) refl
    where
      by_test : (b : Bool) → is_free blocks die at ≡ b → is_free blocks die at ≡ false
      by_test false is = is
      by_test true is = absurd (All-contains (IsOpenToBuffers at) blocks block (free_from is).clear listed inside)

pub free_is_for_buffers_lem : FreeIsForBuffers
free_is_for_buffers_lem blocks die at = (λ is. free_from blocks die at is, λ free. free_to blocks die at free)
