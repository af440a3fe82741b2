use Rattle.std.proofs.Common.{ℕ, List, drop, subst}
use Rattle.std.proofs.lemmas.Result.{err_from_is_err_and}
use Rattle.cts_report_reader.specs.Reports.{seen_report}
use Rattle.cts_draw.specs.Drawing.{ExplainsReport, SpellsReport}
use Rattle.cts_draw.proofs.Reading.{report_refused, rest_taken}
use Rattle.cts_draw.proofs.input.read_both.Goals as goal

pub returns-in_err-report-clause-explained : goal.returns-in_err-report-clause-explained
returns-in_err-report-clause-explained c =
    let p = err_from_is_err_and c.from_residual-in_err-report.result c.from_residual-in_err-report.ensures.1 in
    rw (p.1, p.2)
    (report_refused c.args.bytes.now c.in_ok-instance.instance (drop c.in_ok-instance.used c.args.bytes.now) c.in_err-report.field-0.0
    c.in_ok-instance.ensures.spells
    (subst (λ (rest : List ℕ). ExplainsReport c.in_ok-instance.instance rest c.in_err-report.field-0.0)
    (rest_taken c.in_ok-instance.used c.args.bytes.now) c.in_err-report.ensures.explained))

pub returns-clause-spells : goal.returns-clause-spells
returns-clause-spells c = record {
  rest = drop c.in_ok-instance.used c.args.bytes.now;
  front = c.in_ok-instance.ensures.spells;
  report = subst (λ (rest : List ℕ). SpellsReport c.in_ok-instance.instance rest (seen_report c.in_ok-report.report))
      (rest_taken c.in_ok-instance.used c.args.bytes.now) c.in_ok-report.ensures.spells;
}

pub returns-clause-drawable : goal.returns-clause-drawable
returns-clause-drawable c = c.in_ok-report.ensures.drawable
