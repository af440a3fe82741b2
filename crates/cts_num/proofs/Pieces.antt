-- Slices that are written piece by piece, each behind the ones before.
use Rattle.std.proofs.Common.{◌≡◌, ℕ, ◌+◌, ◌≤◌, List, ◌++◌, length, take, drop, refl, sym, ap, ◌∙◌, take-take, take_at}
use Rattle.std.proofs.Math.Seq.{take-add}

-- a shorter front of a front that stayed
pub take_front : (n m : ℕ) (new old : List ℕ) → n ≤ m → take m new ≡ take m old → take n new ≡ take n old
take_front n m new old le e = sym (take-take n m new le) ∙ ap (take n) e ∙ take-take n m old le

-- a piece behind a front that stayed
pub take_piece : (at n : ℕ) (new old piece rest : List ℕ) → take at new ≡ take at old → drop at new ≡ piece ++ rest → length piece ≡ n
    → take (at + n) new ≡ take at old ++ piece
take_piece at n new old piece rest before written long = take-add at n new ∙ rw (before, written, take_at piece rest n long) refl
