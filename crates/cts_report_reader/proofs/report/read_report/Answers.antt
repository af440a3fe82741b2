use Rattle.std.proofs.Common.{IfOk, subst}
use Rattle.cts_report_reader.specs.Reports.{IsReading}
use Rattle.cts_report_reader.proofs.report.read_report.Goals as goal

pub read_with-requires : goal.read_with-requires
read_with-requires c = c.form_of.ensures.few

pub returns-clause-told : goal.returns-clause-told
returns-clause-told c =
    subst (λ form. IfOk c.read_with.result (IsReading form c.args.bytes.now)) c.form_of.ensures.same c.read_with.ensures.told

pub returns-clause-seen : goal.returns-clause-seen
returns-clause-seen c = c.read_with.ensures.seen

pub returns-clause-valid : goal.returns-clause-valid
returns-clause-valid c = c.form_of.ensures.valid
