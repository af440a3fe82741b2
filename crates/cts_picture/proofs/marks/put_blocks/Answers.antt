use Rattle.std.proofs.Common.{sym, take_all, arith}
use Rattle.cts_io.specs.Text.{Puts}
use Rattle.cts_io.proofs.Chains.{◌▸◌, puts_nothing}
use Rattle.cts_picture.specs.Sheet.{block_text}
use Rattle.cts_picture.proofs.Pieces.{texts_step}
use Rattle.cts_picture.proofs.marks.put_blocks.Goals as goal

pub loop-block-init : goal.loop-block-init
loop-block-init g c = puts_nothing _ _

pub bounds-blocks-block-index : goal.bounds-blocks-block-index
bounds-blocks-block-index g c = omega arith

pub loop-block-smaller : goal.loop-block-smaller
loop-block-smaller g c = omega arith

pub put_block-requires : goal.put_block-requires
put_block-requires g c = c.requires c.loop-block.block-index _ c.loop-block-test.true

pub loop-block-preserved : goal.loop-block-preserved
loop-block-preserved g c =
    texts_step (λ text. Puts g.K.ByteSink (c.args.sink.now, c.args.out.now) (c.put_block.new.sink, c.put_block.new.out) text)
    block_text c.args.blocks.now c.loop-block.block-index _ c.loop-block-test.true (c.loop-block.invariant ▸ c.put_block.ensures)

pub returns : goal.returns
returns g c =
    rw (sym (take_all c.loop-block.block-index c.args.blocks.now (omega (arith, c.loop-block-test.false)))) c.loop-block.invariant
