use Rattle.cts_history.proofs.Printable.{printable_lem}
use Rattle.cts_history.proofs.laws.legal_histories_can_be_printed.Goals as goal

pub returns : goal.returns
returns c = printable_lem
