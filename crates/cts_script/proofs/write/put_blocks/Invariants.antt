use Rattle.std.proofs.Common.{take, map, length, ◌∷◌, codes}
use Rattle.std.specs.List.{concat}
use Rattle.cts_io.specs.Text.{Puts}
use Rattle.cts_script.specs.Text.{count_line, block_line}
use Rattle.cts_script.proofs.write.put_blocks.Given as goal

abbrev pub invariant-loop-block : goal.invariant-loop-block
invariant-loop-block g l =
    Puts g.K.ByteSink (l.fn.sink, l.fn.out) (l.sink, l.out)
    (concat (count_line (codes "blocks") (length l.blocks) ∷ map block_line (take l.block-index l.blocks)))
