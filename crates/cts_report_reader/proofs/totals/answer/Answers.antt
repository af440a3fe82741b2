use Rattle.std.proofs.Common.{true, false, refl}
use Rattle.cts_report_reader.specs.Words.{same}
use Rattle.cts_report_reader.proofs.Labels.{finds_none, finds_some}
use Rattle.cts_report_reader.proofs.TotalReads.{found_is, nothing_is, answer_unlabelled, answer_yes, answer_no, answer_neither}
use Rattle.cts_report_reader.proofs.totals.answer.Goals as goal

pub returns-in_err-rest : goal.returns-in_err-rest
returns-in_err-rest c =
    finds_none same c.from_residual.result _ c.from_residual.ensures (answer_unlabelled c.args.label.now c.args.bytes.now (nothing_is same _ c.in_err-rest.ensures))

pub returns-in-Some : goal.returns-in-Some
returns-in-Some c =
    finds_some same true c.in-Some.rest _ c.in-Some.rest.now
    (answer_yes c.args.label.now c.args.bytes.now c.in_ok-rest.rest.now c.in-Some.rest.now
    (found_is same tt c.in_ok-rest.rest _ c.in_ok-rest.ensures) (found_is same tt c.in-Some.rest _ c.in-Some.ensures)) refl

pub returns-in_err-rest-2 : goal.returns-in_err-rest-2
returns-in_err-rest-2 c =
    finds_none same c.from_residual-in_err-rest-2.result _ c.from_residual-in_err-rest-2.ensures
    (answer_neither c.args.label.now c.args.bytes.now c.in_ok-rest.rest.now (found_is same tt c.in_ok-rest.rest _ c.in_ok-rest.ensures)
    (nothing_is same _ c.in_default.ensures) (nothing_is same _ c.in_err-rest-2.ensures))

pub returns : goal.returns
returns c =
    finds_some same false c.in_ok-rest-2.rest _ c.in_ok-rest-2.rest.now
    (answer_no c.args.label.now c.args.bytes.now c.in_ok-rest.rest.now c.in_ok-rest-2.rest.now (found_is same tt c.in_ok-rest.rest _ c.in_ok-rest.ensures)
    (nothing_is same _ c.in_default.ensures) (found_is same tt c.in_ok-rest-2.rest _ c.in_ok-rest-2.ensures)) refl
