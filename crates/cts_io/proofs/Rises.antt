-- What follows from a count of faults that rose.
use Rattle.std.proofs.Common.{ℕ, ◌≤◌, inl, inr, arith}
use Rattle.std.proofs.lemmas.Bool.{cases_lt}
use Rattle.cts_io.specs.Faults.{Rose}

-- it rose in the second of two calls
pub rose_later : (a b c : ℕ) → a ≤ b → Rose b c → Rose a c
rose_later a b c h (inl r) = inl (omega arith)
rose_later a b c h (inr r) = inr r

-- it rose in the first of two calls, and did not fall in either
pub rose_earlier : (a b c : ℕ) → a ≤ b → Rose a b → b ≤ c → Rose a c
rose_earlier a b c h (inl r) k = inl (omega arith)
rose_earlier a b c h (inr r) k = elim (cases_lt b c) [ inl l ↦ inl (omega arith) | inr e ↦ inr (omega arith) ]
