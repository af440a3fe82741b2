use Rattle.std.proofs.Common.{sym, ◌∙◌}
use Rattle.std.proofs.lemmas.Option.{none-some}
use Rattle.cts_instance.proofs.ValidityLemmas.{no_fault_from_valid}
use Rattle.cts_instance.proofs.check.check_instance.Goals as goal

pub returns-in-Some-clause-accepted : goal.returns-in-Some-clause-accepted
returns-in-Some-clause-accepted c v =
    absurd (none-some _ (sym (no_fault_from_valid c.args.parts v) ∙ sym c.in_ok-fault.ensures ∙ c.in-Some.is))
