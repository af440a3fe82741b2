use Rattle.std.proofs.Common.{[], All, length, take, ◌+◌, sym, subst, ap, ◌∙◌}
use Rattle.std.proofs.lemmas.List.Elements.{All-push}
use Rattle.cts_undo.specs.Replay.{State, opening}
use Rattle.cts_history.proofs.Lists.{all_none}
use Rattle.cts_undo.specs.Answers.{AreReplies}
use Rattle.cts_undo.specs.ReplayText.{IsPrintableReplay}
use Rattle.cts_undo.proofs.Going.{replies_none, replies_on, stands_on, steps_base, version_told}
use Rattle.cts_undo.proofs.run.replay_counted.Goals as goal

pub loop-index-init : goal.loop-index-init
loop-index-init g c = record {
  right = subst (AreReplies (opening c.args.instance.now) []) (sym c.in_ok-replies.ensures.items) (replies_none (opening c.args.instance.now));
  can_be_printed = subst (All IsPrintableReplay) (sym c.in_ok-replies.ensures.items) (all_none IsPrintableReplay);
  stands = c.in_ok-book.ensures;
  counted = ap (λ (s : State). length s.done) (sym c.in_ok-book.ensures);
}

pub answer-requires-clause-instance : goal.answer-requires-clause-instance
answer-requires-clause-instance g c =
    sym
    (ap (λ (s : State). s.base) c.loop-index.invariant.stands
    ∙ steps_base (opening c.args.instance.now) (take c.loop-index.index c.args.asked.now))

pub loop-index-preserved : goal.loop-index-preserved
loop-index-preserved g c = record {
  right = subst (AreReplies (opening c.args.instance.now) (take (c.loop-index.index + 1) c.args.asked.now)) (sym c.in_ok-push.ensures.items)
      (replies_on (opening c.args.instance.now) c.loop-index.book c.args.asked.now c.loop-index.index _ c.loop-index.replies.items c.in_ok-reply.reply
      c.loop-index-test.true c.loop-index.invariant.stands c.loop-index.invariant.right c.in_ok-reply.ensures.reply);
  can_be_printed = subst (All IsPrintableReplay) (sym c.in_ok-push.ensures.items)
      (All-push IsPrintableReplay c.loop-index.replies.items c.in_ok-reply.reply c.loop-index.invariant.can_be_printed
      c.in_ok-reply.ensures.printable);
  stands = stands_on (opening c.args.instance.now) c.loop-index.book c.answer.new.book c.args.asked.now c.loop-index.index _
      c.loop-index-test.true c.loop-index.invariant.stands c.in_ok-reply.ensures.state;
  counted = c.version-version.ensures
      ∙ version_told c.loop-index.book _ _ c.in_ok-reply.reply c.in_ok-reply.ensures.reply
      ∙ ap (λ (s : State). length s.done) (sym c.in_ok-reply.ensures.state);
}
