use Rattle.cts_instance.proofs.ValidityLemmas.{Allows-first_fault}
use Rattle.cts_instance.proofs.laws.valid_parts_have_no_fault.Goals as goal

pub returns : goal.returns
returns c = Allows-first_fault
