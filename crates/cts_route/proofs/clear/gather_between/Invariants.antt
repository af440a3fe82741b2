use Rattle.std.proofs.Common.{take}
use Rattle.cts_route.specs.Walls.{AreWallsBetween}
use Rattle.cts_route.proofs.clear.gather_between.Given as goal

abbrev pub invariant-loop-wall : goal.invariant-loop-wall
invariant-loop-wall l = AreWallsBetween (take l.wall-index l.walls) l.span.0 l.span.1 l.near.items
