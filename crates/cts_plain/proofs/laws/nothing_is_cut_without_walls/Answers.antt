use Rattle.cts_plain.proofs.Uncut.{nothing_cut}
use Rattle.cts_plain.proofs.laws.nothing_is_cut_without_walls.Goals as goal

pub returns : goal.returns
returns c = nothing_cut
