-- Bounds: they are at most the gaps, and each time that one rises the sum of what is left above them falls.
use Rattle.std.proofs.Common.{ℕ, ◌-◌, ◌^◌, ◌<◌, ◌≤◌, List, [], ◌∷◌, length, get_or, set, sum_by, arith}
use Rattle.std.proofs.lemmas.List.Sums.{sum_by-set}
use Rattle.cts_near.specs.declared.subtree.Subtree.{Subtree}
use Rattle.cts_near.specs.Search.{AreBounds, IsNearestLater}

pub bound_at_most : (xs : List Subtree) (bounds : List ℕ) (place later gap : ℕ) → AreBounds xs bounds
    → IsNearestLater xs place later gap → get_or bounds place 0 ≤ gap
bound_at_most [] bounds place later gap are is = absurd (omega (arith, is.within))
bound_at_most (x ∷ xs) bounds place later gap are is =
    omega (arith, are.below place later x x is.after is.within, is.is x x)

-- what is left above a bound
abbrev pub left_above : List ℕ → ℕ
left_above bounds = sum_by (λ bound. 2 ^ 64 - bound) bounds

pub left_falls : (bounds : List ℕ) (place gap : ℕ) → place < length bounds → get_or bounds place 0 < gap → gap < 2 ^ 64
    → left_above (set bounds place gap) < left_above bounds
left_falls bounds place gap h rises fits =
    omega (arith, sum_by-set (λ bound. 2 ^ 64 - bound) bounds place gap 0 h)
