use Rattle.cts_history.proofs.Once.{every_entry_lem}
use Rattle.cts_history.proofs.laws.every_entry_is_accepted.Goals as goal

pub returns : goal.returns
returns c = every_entry_lem
