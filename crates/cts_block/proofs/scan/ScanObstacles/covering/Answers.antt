use Rattle.std.proofs.Common.{arith}
use Rattle.cts_block.proofs.ObstacleLemmas.{none_covers}
use Rattle.cts_block.proofs.scan.ScanObstacles.covering.Goals as goal

pub returns-clause-none : goal.returns-clause-none
returns-clause-none c =
    none_covers c.args.self.now.blocks.now c.args.self.now.buffered c.args.point (λ k d below. c.loop-block.invariant k d (omega (arith, below, c.loop-block-test.false)))
