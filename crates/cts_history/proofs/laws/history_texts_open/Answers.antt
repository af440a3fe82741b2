use Rattle.cts_history.proofs.Openings.{history_texts_open_lem}
use Rattle.cts_history.proofs.laws.history_texts_open.Goals as goal

pub returns : goal.returns
returns c = history_texts_open_lem
