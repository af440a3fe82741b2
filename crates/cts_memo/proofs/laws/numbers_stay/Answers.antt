use Rattle.cts_memo.proofs.Numbering.{number_stays}
use Rattle.cts_memo.proofs.laws.numbers_stay.Goals as goal

pub returns : goal.returns
returns c = number_stays
