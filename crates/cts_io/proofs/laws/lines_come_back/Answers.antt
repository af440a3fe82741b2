use Rattle.cts_io.proofs.Pieces.{line_comes_back}
use Rattle.cts_io.proofs.laws.lines_come_back.Goals as goal

pub returns : goal.returns
returns c = line_comes_back
