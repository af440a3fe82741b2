use Rattle.std.proofs.Common.{sym, arith}
use Rattle.std.proofs.lemmas.Int.{ints}
use Rattle.cts_block.proofs.raster.reaches_row.Goals as goal

pub returns-then-block-row : goal.returns-then-block-row
returns-then-block-row c = λ halves within between. sym (omega (arith, ints))

pub returns-else-block-row : goal.returns-else-block-row
returns-else-block-row c = λ halves within between. absurd (omega (arith, ints))
