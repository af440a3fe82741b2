use Rattle.std.proofs.Common.{◌≡◌, ◌≢◌, ◌-◌, ◌<◌, length, All, AllPairs}
use Rattle.cts_deal.specs.Hands.{IsHandOf, drawn_by, share_of}
use Rattle.cts_work.specs.Done.{IsDone, numbers_of}
use Rattle.cts_work.proofs.workers.run_worker.Given as goal

abbrev pub invariant-loop-piece : goal.invariant-loop-piece
invariant-loop-piece g l =
    record {
      hand : IsHandOf l.deal l.hand;
      share : share_of l.hand ≡ share_of l.fn.hand;
      done : All (IsDone l.work l.pieces) l.done.items;
      drawn : drawn_by l.hand ≡ numbers_of l.done.items;
      distinct : AllPairs (λ a b. a ≢ b) (drawn_by l.hand);
      below : All (λ n. n < length l.pieces) (drawn_by l.hand);
    }

abbrev pub decreases-loop-piece : goal.decreases-loop-piece
decreases-loop-piece g l = 257 - length (drawn_by l.hand)
