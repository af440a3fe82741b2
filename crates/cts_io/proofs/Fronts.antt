-- The front of a list, and what comes after it.
use Rattle.std.proofs.Common.{◌≡◌, ℕ, ◌+◌, List, ◌++◌, length, take, drop, refl, ◌∙◌, arith}
use Rattle.std.proofs.lemmas.List.{take-append-drop, take-append-le, drop-drop, take_all}

-- the front of what is left, copied to the front of something longer, and what is left then
pub front_and_rest : (bytes left copied rest : List ℕ) (start n : ℕ) → left ≡ drop start bytes → copied ≡ take n left → length copied ≡ n
    → left ≡ take n (copied ++ rest) ++ drop (start + n) bytes
front_and_rest bytes left copied rest start n l c e =
    let front : take n (copied ++ rest) ≡ copied = take-append-le n copied rest (omega arith) ∙ take_all n copied (omega arith) in
    rw (front, c, ← drop-drop n start bytes, ← l, take-append-drop) refl
