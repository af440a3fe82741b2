use Rattle.std.proofs.Common.{refl}
use Rattle.cts_near.proofs.forest.leaf_subtree.Goals as goal

pub returns-clause-leaf : goal.returns-clause-leaf
returns-clause-leaf c =
    record { name = refl; node = refl; leaf = c.leaf.result; is_leaf = c.leaf.ensures.leaf; side = refl }
