use Rattle.cts_script.proofs.WrittenScripts.{scripts_back}
use Rattle.cts_script.proofs.laws.scripts_come_back.Goals as goal

pub returns : goal.returns
returns c = scripts_back
