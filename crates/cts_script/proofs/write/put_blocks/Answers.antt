use Rattle.std.proofs.Common.{sym, subst}
use Rattle.cts_io.specs.Text.{Puts}
use Rattle.cts_io.proofs.Chains.{◌▸◌}
use Rattle.cts_script.specs.Text.{block_line}
use Rattle.cts_script.proofs.Lists.{lines_more}
use Rattle.cts_script.proofs.write.put_blocks.Goals as goal

pub loop-block-preserved : goal.loop-block-preserved
loop-block-preserved g c =
    subst (λ text. Puts g.K.ByteSink (c.args.sink.now, c.args.out.now) (c.put_block.new.sink, c.put_block.new.out) text)
    (sym (lines_more block_line _ c.args.blocks.now c.loop-block.block-index _ c.loop-block-test.true))
    (c.loop-block.invariant ▸ c.put_block.ensures)
