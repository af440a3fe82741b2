use Rattle.std.proofs.Common.{arith}
use Rattle.std.proofs.lemmas.Int.{ints}
use Rattle.cts_memo.proofs.LeafPoints.{key_of_numbers, leaf_u, leaf_v}
use Rattle.cts_memo.proofs.key.Key.of_leaf.Goals as goal

pub returns : goal.returns
returns c sink leaf =
    let u = leaf_u sink c.args.leaf.now leaf in
    let v = leaf_v sink c.args.leaf.now leaf in
    key_of_numbers sink _ _ _ _ (omega (arith, ints, u, v)) (omega (arith, ints, u, v)) leaf.load (omega (arith, leaf.greatest))
