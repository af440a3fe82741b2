use Rattle.cts_io.proofs.Chains.{◌▸◌}
use Rattle.cts_script.proofs.words.put_word.Goals as goal

pub returns : goal.returns
returns g c = c.put.ensures ▸ c.put-2.ensures
