use Rattle.std.proofs.Common.{refl}
use Rattle.cts_report_reader.specs.Words.{same}
use Rattle.cts_report_reader.proofs.Labels.{finds_none, finds_some}
use Rattle.cts_report_reader.proofs.TotalReads.{found_is, nothing_is, figure_unlabelled, figure_goes_on, figure_ends}
use Rattle.cts_report_reader.proofs.totals.figure.Goals as goal

pub returns-in_err-value : goal.returns-in_err-value
returns-in_err-value c =
    finds_none same c.from_residual.result _ c.from_residual.ensures
    (figure_unlabelled c.args.label.now c.args.places c.args.bytes.now (nothing_is same _ c.in_err-value.ensures.found))

pub returns-in_err-rest : goal.returns-in_err-rest
returns-in_err-rest c =
    finds_none same c.from_residual-in_err-rest.result _ c.from_residual-in_err-rest.ensures
    (figure_goes_on c.args.label.now c.args.places c.args.bytes.now c.in_ok-value.value c.in_ok-value.rest.now
    (found_is same c.in_ok-value.value c.in_ok-value.rest _ c.in_ok-value.ensures.found) (nothing_is same _ c.in_err-rest.ensures))

pub returns : goal.returns
returns c =
    finds_some same c.in_ok-value.value c.in_ok-rest.rest _ c.in_ok-rest.rest.now
    (figure_ends c.args.label.now c.args.places c.args.bytes.now c.in_ok-value.value c.in_ok-value.rest.now c.in_ok-rest.rest.now
    (found_is same c.in_ok-value.value c.in_ok-value.rest _ c.in_ok-value.ensures.found) (found_is same tt c.in_ok-rest.rest _ c.in_ok-rest.ensures)) refl
