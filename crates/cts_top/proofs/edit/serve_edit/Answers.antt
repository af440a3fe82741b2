use Rattle.std.proofs.Common.{subst}
use Rattle.cts_top.specs.Log.{log_of}
use Rattle.cts_top.specs.Right.{TellsCallers}
use Rattle.cts_top.specs.Written.{Answers}
use Rattle.cts_top.proofs.Remembering.{holds_edit}
use Rattle.cts_top.proofs.Serving.{serves_edit}
use Rattle.cts_top.proofs.edit.serve_edit.Goals as goal

pub returns-in-Ok-clause-serves : goal.returns-in-Ok-clause-serves
returns-in-Ok-clause-serves g c =
    let log = log_of c.answer_callers.result.1.history c.answer_callers.result.1.replies in
    serves_edit _ _ c.answer_callers.result.0 log c.in-Ok.instance c.in-Ok.scripts.items c.in-Ok.ensures.end
    c.in-Ok.ensures.spells c.in-Ok.ensures.counted
    (subst (λ scripts. Answers (TellsCallers c.in-Ok.instance scripts log) g.K.ByteSink.held g.K.ByteSink.faults c.args.sink.now c.answer_callers.new.sink c.answer_callers.result.0)
    c.deref.ensures.value c.answer_callers.ensures.answers)

pub returns-in-Ok-clause-memo : goal.returns-in-Ok-clause-memo
returns-in-Ok-clause-memo g c =
    holds_edit (log_of c.answer_callers.result.1.history c.answer_callers.result.1.replies) _ c.in-Ok.instance c.in-Ok.scripts.items
    c.answer_callers.result.1.memo c.in-Ok.ensures.spells c.answer_callers.ensures.memo
