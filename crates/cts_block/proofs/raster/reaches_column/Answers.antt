use Rattle.std.proofs.Common.{sym, arith}
use Rattle.std.proofs.lemmas.Int.{ints}
use Rattle.cts_block.proofs.raster.reaches_column.Goals as goal

pub returns-then-block-column : goal.returns-then-block-column
returns-then-block-column c = λ halves within between. sym (omega (arith, ints))

pub returns-else-block-column : goal.returns-else-block-column
returns-else-block-column c = λ halves within between. absurd (omega (arith, ints))
