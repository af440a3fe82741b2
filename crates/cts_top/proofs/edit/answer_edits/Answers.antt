use Rattle.std.proofs.lemmas.Result.{err_from_is_err_and}
use Rattle.cts_history.specs.Legal.{lists_of}
use Rattle.cts_history.specs.History.{history_text}
use Rattle.cts_report.specs.Report.{report_text}
use Rattle.cts_top.specs.Log.{Log}
use Rattle.cts_top.specs.Synthesised.{medians}
use Rattle.cts_top.specs.Text.{TellsEdits, TellsSynthesis}
use Rattle.cts_top.proofs.Editing.{cut_front, edits_told, some_edits, tells_end, then_answered}
use Rattle.cts_top.proofs.edit.answer_edits.Goals as goal

pub write_history-requires : goal.write_history-requires
write_history-requires g c = c.requires.printable

pub answer_synthesis-requires : goal.answer_synthesis-requires
answer_synthesis-requires g c = c.requires.synthesised.printable

pub returns-in_err-write_history-clause-answers : goal.returns-in_err-write_history-clause-answers
returns-in_err-write_history-clause-answers g c =
    let p = err_from_is_err_and c.from_residual.result c.from_residual.ensures.1 in
    let log : Log = record { history = c.args.history.now; replies = lists_of c.args.replies.now } in
    let some = some_edits c.args.version.now c.instance_is_valid.ensures log c.args.synthesis c.requires.synthesised c.requires.told in
    rw (p.1, p.2)
    (cut_front _ _ (TellsEdits c.args.version.now log) (history_text log.history log.replies) some.1 some.0 some.2 _ _
    c.in_err-write_history.field-0.0 c.in_err-write_history.ensures)

pub returns-clause-answers : goal.returns-clause-answers
returns-clause-answers g c =
    let log : Log = record { history = c.args.history.now; replies = lists_of c.args.replies.now } in
    then_answered _ _ (TellsSynthesis report_text c.args.version.now) (TellsEdits c.args.version.now log)
    (history_text log.history log.replies) (edits_told c.args.version.now log) _ _ _ c.in_ok-write_history.ensures.ok
    c.in_ok-write_history.ensures.counted c.answer_synthesis.result
    (tells_end c.args.synthesis _ c.answer_synthesis.ensures.told c.requires.told)
    (c.answer_synthesis.ensures.answers medians c.requires.synthesised)
