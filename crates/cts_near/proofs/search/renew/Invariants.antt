use Rattle.std.proofs.Common.{ℕ, ◌<◌, ◌≤◌, length, get_or}
use Rattle.cts_near.specs.declared.subtree.Subtree.{Subtree}
use Rattle.cts_near.specs.Search.{gap_from, AreOtherBounds}
use Rattle.cts_near.proofs.search.renew.Given as goal

abbrev pub invariant-loop-earlier : goal.invariant-loop-earlier
invariant-loop-earlier l =
    record {
      others : AreOtherBounds l.place l.subtrees l.bounds;
      own : (k : ℕ) (d e : Subtree) → l.place < k → k < length l.subtrees
          → get_or l.bounds l.place 0 ≤ gap_from (get_or l.subtrees l.place d) (get_or l.subtrees k e);
      earlier_ones : (i : ℕ) (d e : Subtree) → i < l.earlier
          → get_or l.bounds i 0 ≤ gap_from (get_or l.subtrees i d) (get_or l.subtrees l.place e);
    }
