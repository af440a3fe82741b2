-- Ids of sinks, and of what stands for a sink.
use Rattle.std.specs.Prelude.{◌≢◌, ℕ, List, AllPairs}

-- no two of these have one id
abbrev pub HasDistinctIds : {A : Type 0} → (A → ℕ) → List A → Type 0
HasDistinctIds id items = AllPairs (λ a b. id a ≢ id b) items
