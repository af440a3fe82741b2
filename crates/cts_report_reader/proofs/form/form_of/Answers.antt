use Rattle.std.proofs.Common.{length, ap, ap₂, ◌∙◌}
use Rattle.cts_units.specs.declared.params.Params.{Params}
use Rattle.cts_report_reader.proofs.form.form_of.Goals as goal

pub returns-clause-same : goal.returns-clause-same
returns-clause-same c =
    ap₂ (λ version buffers. record { version = version; buffers = buffers }) c.version.ensures.part
    (ap length (c.items.ensures ∙ ap (λ (p : Params). p.library) c.params.ensures.part))

pub returns-clause-valid : goal.returns-clause-valid
returns-clause-valid c = c.version.ensures.valid
