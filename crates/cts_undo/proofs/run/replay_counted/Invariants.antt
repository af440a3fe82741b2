use Rattle.std.proofs.Common.{◌≡◌, All, length, take}
use Rattle.cts_undo.specs.Replay.{opening}
use Rattle.cts_undo.specs.Answers.{AreReplies, after_steps}
use Rattle.cts_undo.specs.ReplayText.{IsPrintableReplay}
use Rattle.cts_undo.proofs.run.replay_counted.Given as goal

abbrev pub invariant-loop-index : goal.invariant-loop-index
invariant-loop-index g l = record {
  right : AreReplies (opening l.instance) (take l.index l.asked) l.replies.items;
  can_be_printed : All IsPrintableReplay l.replies.items;
  stands : l.book ≡ after_steps (opening l.instance) (take l.index l.asked);
  counted : l.version ≡ length l.book.done;
}
