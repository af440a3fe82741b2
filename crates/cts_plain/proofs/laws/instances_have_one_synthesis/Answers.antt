use Rattle.cts_plain.proofs.Exists.{instance_synthesis}
use Rattle.cts_plain.proofs.laws.instances_have_one_synthesis.Goals as goal

pub returns : goal.returns
returns c = instance_synthesis
