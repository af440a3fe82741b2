use Rattle.std.proofs.Common.{[], take, sym, ◌∙◌, subst, arith}
use Rattle.std.proofs.lemmas.List.{take_all, take_more}
use Rattle.cts_session.specs.Desks.{base_of}
use Rattle.cts_session.specs.Sessions.{edits_of}
use Rattle.cts_history.specs.Legal.{IsAnswered}
use Rattle.cts_callers.proofs.Going.{Gone, gone_start, gone_more}
use Rattle.cts_callers.proofs.answer.go_through.Goals as goal

pub loop-index-init : goal.loop-index-init
loop-index-init g c = record {
  upto = omega arith;
  gone = subst (Gone c.args.session.now c.args.session.now []) (sym c.in_ok-replies.ensures.items) (gone_start c.args.session.now);
}

pub loop-index-preserved : goal.loop-index-preserved
loop-index-preserved g c = record {
  upto = omega (arith, c.loop-index-test.true);
  gone =
      subst (λ steps. Gone c.args.session.now c.answer.new.session steps c.push.new.self.items)
      (sym (take_more c.steps-asked.result.now c.loop-index.index _ c.loop-index-test.true))
      (subst (Gone c.args.session.now c.answer.new.session _) (sym c.in_ok-push.ensures.items)
      (gone_more c.args.session.now c.loop-index.session c.answer.new.session (take c.loop-index.index c.steps-asked.result.now)
      c.loop-index.replies.items _ c.in_ok-reply.reply c.loop-index.invariant.gone c.in_ok-reply.ensures.next));
}

pub returns-clause-keeps : goal.returns-clause-keeps
returns-clause-keeps g c = c.loop-index.invariant.gone.keeps

pub returns-clause-answered : goal.returns-clause-answered
returns-clause-answered g c =
    subst (λ steps. IsAnswered (base_of c.args.session.now.desk) (edits_of c.loop-index.session) c.args.session.now.caller steps c.loop-index.replies.items)
    (take_all c.loop-index.index c.steps-asked.result.now (omega (arith, c.loop-index-test.false)) ∙ c.steps-asked.ensures.steps)
    c.loop-index.invariant.gone.answered
