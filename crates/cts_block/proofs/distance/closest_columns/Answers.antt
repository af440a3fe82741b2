use Rattle.std.proofs.Common.{arith}
use Rattle.std.proofs.lemmas.Int.{ints}
use Rattle.cts_block.specs.Search.{columns_of}
use Rattle.cts_block.proofs.OrderLemmas.{closest_same}
use Rattle.cts_block.proofs.distance.closest_columns.Goals as goal

pub returns : goal.returns
returns c =
    closest_same (columns_of c.args.die.now) _ c.args.from.x _ _ (omega (arith, ints)) (omega (arith, ints)) (omega (arith, ints)) c.closest.ensures
