use Rattle.cts_instance.proofs.ValidityLemmas.{Allows-first_fault}
use Rattle.cts_instance.proofs.instance.Instance.of.Goals as goal

pub invariant_of-result : goal.invariant_of-result
invariant_of-result c = (Allows-first_fault c.args.parts).0 c.requires

pub returns-clause-valid : goal.returns-clause-valid
returns-clause-valid c = (Allows-first_fault c.args.parts).0 c.requires
