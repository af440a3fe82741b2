use Rattle.cts_io.proofs.Pieces.{length-lines_of}
use Rattle.cts_io.proofs.laws.no_more_lines_than_bytes.Goals as goal

pub returns : goal.returns
returns c = length-lines_of
