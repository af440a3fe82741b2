use Rattle.std.proofs.Common.{arith}
use Rattle.std.proofs.lemmas.Int.{ints}
use Rattle.cts_block.proofs.raster.spans_column.Goals as goal

pub returns-then-block-column : goal.returns-then-block-column
returns-then-block-column c = λ test halves within. record { above = omega (arith, ints); below = omega (arith, ints) }

pub returns-else-block-column : goal.returns-else-block-column
returns-else-block-column c = λ never. absurd (cc)
