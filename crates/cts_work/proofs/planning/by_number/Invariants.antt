use Rattle.std.proofs.Common.{◌≡◌, ◌≤◌, length}
use Rattle.cts_work.proofs.Slots.{AreAmong, AreFilled}
use Rattle.cts_work.proofs.planning.by_number.Given as goal

abbrev pub invariant-loop : goal.invariant-loop
invariant-loop l =
    record {
      long : length l.slots.items ≡ l.counter;
      upto : l.counter ≤ l.count;
    }

abbrev pub invariant-loop-piece : goal.invariant-loop-piece
invariant-loop-piece l =
    record {
      long : length l.slots.items ≡ l.count;
      among : AreAmong l.done.items l.fn.done.items;
      filled : AreFilled l.count l.fn.done.items l.done.items l.slots.items;
    }

abbrev pub decreases-loop-piece : goal.decreases-loop-piece
decreases-loop-piece l = length l.done.items
