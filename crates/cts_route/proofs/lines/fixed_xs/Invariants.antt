use Rattle.std.proofs.Common.{take}
use Rattle.cts_route.specs.Grid.{fixed_xs}
use Rattle.cts_route.specs.LineLists.{AreLinesOf}
use Rattle.cts_route.proofs.lines.fixed_xs.Given as goal

abbrev pub invariant-loop-block : goal.invariant-loop-block
invariant-loop-block l = AreLinesOf (fixed_xs (take l.block-index l.blocks) l.fn.die) l.lines.items
