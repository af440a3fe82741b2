-- How far the search for the first nearest of the later subtrees has come.
use Rattle.std.proofs.Common.{◌≡◌, ℕ, ◌<◌, ◌≤◌, List, get_or}
use Rattle.cts_near.specs.declared.subtree.Subtree.{Subtree}
use Rattle.cts_near.specs.Search.{gap_from}

-- of the subtrees behind `place` and before i, the first that is nearest to s
pub record NearestSoFar (xs : List Subtree) (s : Subtree) (place i nearest gap : ℕ) : Type 0 where
  pub after : place < nearest
  pub before : nearest < i
  pub is : (e : Subtree) → gap ≡ gap_from s (get_or xs nearest e)
  pub least : (k : ℕ) (e : Subtree) → place < k → k < i → gap ≤ gap_from s (get_or xs k e)
  pub first : (k : ℕ) (e : Subtree) → place < k → k < nearest → gap < gap_from s (get_or xs k e)
