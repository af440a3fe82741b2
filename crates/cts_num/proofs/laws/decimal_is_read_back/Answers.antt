use Rattle.cts_num.proofs.Spelling.{decimal_is_read_back}
use Rattle.cts_num.proofs.laws.decimal_is_read_back.Goals as goal

pub returns : goal.returns
returns c = decimal_is_read_back
