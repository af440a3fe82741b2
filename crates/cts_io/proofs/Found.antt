-- The first place where a byte passes a test is its position.
use Rattle.std.proofs.Common.{◌≡◌, ℕ, ◌+◌, ◌<◌, ◌≤◌, List, Bool, true, false, Option, None, Some, length, position, arith}
use Rattle.std.specs.List.{position_or_len}
use Rattle.std.proofs.lemmas.List.Sums.{position_or_len_is}
use Rattle.memchr.specs.Find.{IsFirstByte, NoneBefore}

pub first_is_position : (p : ℕ → Bool) (xs : List ℕ) (r : Option ℕ) → IsFirstByte p xs r → r ≡ position p xs
first_is_position p xs None nowhere =
    let at_end : position_or_len p xs ≡ length xs = position_or_len_is p xs (length xs) 0 (omega arith) (λ k before. grind (arith, nowhere k)) (λ small. grind arith) in
    grind (arith, at_end)
first_is_position p xs (Some k) (first, passes) =
    let at_k : position_or_len p xs ≡ k = position_or_len_is p xs k 0 (grind (arith, first.high)) (λ j before. grind (arith, first.before j)) (λ small. passes) in
    grind (arith, at_k, first.high)
