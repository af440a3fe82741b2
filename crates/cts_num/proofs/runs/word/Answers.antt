use Rattle.std.proofs.Common.{ap, arith}
use lib.Lanes.{number_l}
use Rattle.cts_num.proofs.RunNumbers.{four_bytes}
use Rattle.cts_num.proofs.runs.word.Goals as goal

pub returns : goal.returns
returns c = omega (arith, ap (number_l 256) (four_bytes c.args.text.now c.args.at c.requires))
