use Rattle.std.proofs.Common.{sym}
use Rattle.cts_report_reader.specs.Words.{same}
use Rattle.cts_report_reader.proofs.Labels.{finds_none, finds_some, number_none, number_some, number_small}
use Rattle.cts_report_reader.proofs.words.any_number.Goals as goal

pub returns-in_err-value-clause-found : goal.returns-in_err-value-clause-found
returns-in_err-value-clause-found c =
    finds_none same c.from_residual.result _ c.from_residual.ensures
    (number_none c.args.places c.args.bytes.now c.split_at.result.0.now c.number_size.result c.number_size.ensures.longest c.split_at.ensures.front (sym c.in_err-value.ensures.same))

pub returns-clause-found : goal.returns-clause-found
returns-clause-found c =
    finds_some same c.in_ok-value.value c.split_at.result.1 _ _
    (number_some c.args.places c.args.bytes.now c.split_at.result.0.now c.number_size.result c.in_ok-value.value c.number_size.ensures.longest c.split_at.ensures.front (sym c.in_ok-value.ensures.same))
    c.split_at.ensures.back

pub returns-clause-small : goal.returns-clause-small
returns-clause-small c = number_small c.args.places c.split_at.result.0.now c.in_ok-value.value (sym c.in_ok-value.ensures.same)
