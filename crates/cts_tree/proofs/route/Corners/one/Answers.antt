use Rattle.std.proofs.Common.{refl}
use Rattle.cts_tree.proofs.route.Corners.one.Goals as goal

pub returns : goal.returns
returns c = refl
