use Rattle.std.proofs.Common.{List}
use Rattle.cts_block.specs.declared.blocks.Block.{Block}
use Rattle.cts_route.specs.Walls.{KeepsOut}
use Rattle.cts_report_reader.specs.Seen.{IsSeen}
use Rattle.cts_check.proofs.LegalSteps.{Decides}
use Rattle.cts_check.proofs.routes.has_legal_steps.Given as goal

abbrev pub invariant-loop-corner : goal.invariant-loop-corner
invariant-loop-corner l = record {
  seen : IsSeen l.start;
  decides : (blocks : List Block) → KeepsOut blocks l.walls → Decides blocks l.die l.fn.from l.corners l.to l.corner-index l.start;
}
