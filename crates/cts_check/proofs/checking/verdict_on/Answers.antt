use Rattle.std.proofs.Common.{subst}
use Rattle.rayon.proofs.ListFacts.{IfOk-then}
use Rattle.cts_report_reader.specs.Forms.{form_of}
use Rattle.cts_report_reader.specs.Reports.{IsReading, seen_report}
use Rattle.cts_check.specs.Judgement.{Judges}
use Rattle.cts_check.specs.Verdict.{IsVerdict}
use Rattle.cts_check.proofs.Verdicts.{judged}
use Rattle.cts_check.proofs.checking.verdict_on.Goals as goal

pub returns-in-Text : goal.returns-in-Text
returns-in-Text g c = λ bytes told.
    IfOk-then c.judge.result (Judges c.args.instance.now (seen_report c.in-Text.report)) (IsVerdict c.args.instance.now bytes) c.judge.ensures
    (λ verdict h. judged c.args.instance.now c.requires.valid bytes (seen_report c.in-Text.report)
    (subst (IsReading (form_of c.args.instance.now) bytes) c.in-Text.is told) verdict h)
