use Rattle.std.proofs.Common.{slice_index}
use Rattle.cts_route.proofs.WaysDown.{IsWalked}
use Rattle.cts_route.proofs.walk.corners_down.Given as goal

abbrev pub invariant-steps : goal.invariant-steps
invariant-steps l = IsWalked l.xs l.ys l.graph l.table.labels.items l.fn.start l.table.goal l.cell l.last l.corners.items

abbrev pub decreases-steps : goal.decreases-steps
decreases-steps l = slice_index l.table.labels.items l.cell
