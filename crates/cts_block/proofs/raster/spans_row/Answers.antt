use Rattle.std.proofs.Common.{arith}
use Rattle.std.proofs.lemmas.Int.{ints}
use Rattle.cts_block.proofs.raster.spans_row.Goals as goal

pub returns-then-block-row : goal.returns-then-block-row
returns-then-block-row c = λ test halves within. record { above = omega (arith, ints); below = omega (arith, ints) }

pub returns-else-block-row : goal.returns-else-block-row
returns-else-block-row c = λ never. absurd (cc)
