use Rattle.std.proofs.Common.{◌≡◌}
use Rattle.cts_turn.specs.Passes.{share_of}
use Rattle.cts_memo.specs.Passes.{IsPassOf}
use Rattle.cts_rows_shared.proofs.memos.put_leaves.Given as goal

abbrev pub invariant-loop-x : goal.invariant-loop-x
invariant-loop-x g l = record { own : IsPassOf l.memo l.pass; share : share_of l.pass ≡ share_of l.fn.pass }
