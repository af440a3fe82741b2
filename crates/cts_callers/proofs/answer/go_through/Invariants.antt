use Rattle.std.proofs.Common.{◌≤◌, take, length}
use Rattle.cts_callers.proofs.Going.{Gone}
use Rattle.cts_callers.proofs.answer.go_through.Given as goal

abbrev pub invariant-loop-index : goal.invariant-loop-index
invariant-loop-index g l =
    record {
      upto : l.index ≤ length l.asked;
      gone : Gone l.fn.session l.session (take l.index l.asked) l.replies.items;
    }
