use Rattle.cts_script.proofs.WrittenInstance.{instances_come_back}
use Rattle.cts_script.proofs.laws.instances_come_back.Goals as goal

pub returns : goal.returns
returns c = instances_come_back
