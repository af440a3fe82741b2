use Rattle.std.proofs.Common.{◌≡◌, ℕ, ◌<◌, ◌≤◌, length, get_or}
use Rattle.cts_near.specs.declared.subtree.Subtree.{Subtree}
use Rattle.cts_near.specs.Search.{gap_from}
use Rattle.cts_near.proofs.search.bounds_of.Given as goal

abbrev pub invariant-loop-place : goal.invariant-loop-place
invariant-loop-place l =
    record {
      count : length l.bounds.items ≡ l.place;
      below : (i j : ℕ) (d e : Subtree) → i < l.place → i < j → j < length l.subtrees
          → get_or l.bounds.items i 0 ≤ gap_from (get_or l.subtrees i d) (get_or l.subtrees j e);
    }
