use Rattle.std.proofs.Common.{ℕ, List, Bor, Result, Ok, subst}
use Rattle.cts_num.specs.declared.error.NoMemory.{NoMemory}
use Rattle.cts_report_reader.specs.declared.report.Report.{Report}
use Rattle.cts_report_reader.specs.Reports.{seen_report}
use Rattle.cts_report_reader.specs.Seen.{FindsLines}
use Rattle.cts_report_reader.specs.Whole.{report_at}
use Rattle.cts_report_reader.proofs.ReportReads.{read_found, read_missed}
use Rattle.cts_report_reader.proofs.report.read_with.Goals as goal

pub returns-in-Ok-clause-told : goal.returns-in-Ok-clause-told
returns-in-Ok-clause-told c =
    let found = subst (λ (o : Result (Report × Bor (List ℕ)) ℕ). FindsLines {E = NoMemory} seen_report (Ok o) (report_at c.args.form c.args.bytes.now)) c.in-Ok.is c.in_ok-report.ensures.found in
    read_found c.args.form c.args.bytes.now c.in-Ok.report c.in-Ok.rest c.at_the_end.result c.requires found c.at_the_end.ensures

pub returns-in-Err-clause-told : goal.returns-in-Err-clause-told
returns-in-Err-clause-told c =
    let found = subst (λ (o : Result (Report × Bor (List ℕ)) ℕ). FindsLines {E = NoMemory} seen_report (Ok o) (report_at c.args.form c.args.bytes.now)) c.in-Err.is c.in_ok-report.ensures.found in
    read_missed c.args.form c.args.bytes.now c.in-Err.line c.requires found
