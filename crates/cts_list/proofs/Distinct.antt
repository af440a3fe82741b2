-- Lists that have no number twice.
use Rattle.std.proofs.Common.{◌≡◌, ◌≢◌, ℕ, ◌<◌, ◌≤◌, List, length, eqb, subst, All, AllPairs, Contains}
use Rattle.std.proofs.lemmas.Bool.{eqb-true}
use Rattle.std.proofs.lemmas.Bool.Decides.{Decides-eqb}
use Rattle.std.proofs.lemmas.Map.Made.{IsDistinct-from_AllPairs}
use Rattle.std.proofs.lemmas.Map.Steps.{length-le_from_distinct_below}
use Rattle.std.proofs.lemmas.Map.Views.{Contains-from_any}

list_any_contains : (xs : List ℕ) (n : ℕ) → All (λ x. x < n) xs → (q : ℕ) → Contains xs q → q < n
list_any_contains xs n below q there = subst (λ (x : ℕ). x < n) there.2 (below there.0 q there.1)

-- Numbers below n, none of them twice, are at most n.
pub at_most_from_distinct_below : (xs : List ℕ) (n : ℕ) → AllPairs (λ a b. a ≢ b) xs → All (λ x. x < n) xs → length xs ≤ n
at_most_from_distinct_below xs n distinct below =
    length-le_from_distinct_below xs n (IsDistinct-from_AllPairs Decides-eqb xs distinct)
    (λ q found. list_any_contains xs n below q (Contains-from_any eqb-true q xs found))
