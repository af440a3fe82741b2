use Rattle.std.proofs.Common.{subst}
use Rattle.cts_report_reader.specs.Forms.{form_of}
use Rattle.cts_report_reader.specs.Reports.{IsReading, IsSeenReading}
use Rattle.cts_picture.proofs.Readings.{readings_can_be_drawn}
use Rattle.cts_draw.proofs.input.report_of.Goals as goal

pub returns-in-Text-clause-drawable : goal.returns-in-Text-clause-drawable
returns-in-Text-clause-drawable c =
    readings_can_be_drawn (form_of c.args.instance.now) c.args.bytes.now c.in-Text.report
    (subst (λ reading. IsReading (form_of c.args.instance.now) c.args.bytes.now reading) c.in-Text.is c.in_ok-report.ensures.told)
    (subst IsSeenReading c.in-Text.is c.in_ok-report.ensures.seen)
