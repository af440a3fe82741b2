use Rattle.std.proofs.Common.{take}
use Rattle.cts_route.specs.Walls.{AreWallsOf}
use Rattle.cts_route.proofs.clear.walls_of.Given as goal

abbrev pub invariant-loop-block : goal.invariant-loop-block
invariant-loop-block l = AreWallsOf (take l.block-index l.blocks) l.walls.items
