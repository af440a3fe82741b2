use Rattle.std.proofs.Common.{take}
use Rattle.std.specs.List.{flat_map}
use Rattle.cts_io.specs.Text.{Puts}
use Rattle.cts_picture.specs.Sheet.{block_text}
use Rattle.cts_picture.proofs.marks.put_blocks.Given as goal

abbrev pub invariant-loop-block : goal.invariant-loop-block
invariant-loop-block g l =
    Puts g.K.ByteSink (l.fn.sink, l.fn.out) (l.sink, l.out)
    (flat_map block_text (take l.block-index l.blocks))
