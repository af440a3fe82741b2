use Rattle.std.proofs.Common.{drop, ap, subst, ◌∙◌}
use Rattle.std.proofs.lemmas.List.{take_rest}
use Rattle.cts_report_reader.specs.Forms.{form_of}
use Rattle.cts_report_reader.specs.Reports.{IsReading}
use Rattle.cts_check.proofs.checking.check_rest.Goals as goal

pub returns : goal.returns
returns g c =
    let rest = take_rest c.deref.result.now c.args.from ∙ ap (drop c.args.from) c.deref.ensures.value in
    c.verdict_on.ensures (drop c.args.from c.args.input.items)
    (subst (λ bytes. IsReading (form_of c.args.instance.now) bytes c.in_ok-reading.reading) rest c.in_ok-reading.ensures.told)
