use Rattle.cts_plain.proofs.Settled.{settled_result}
use Rattle.cts_tree_workers.proofs.synthesis.tree_by.Goals as goal

pub settle_by-requires-clause-of_shape : goal.settle_by-requires-clause-of_shape
settle_by-requires-clause-of_shape g c κs within = (c.args.shape.now, c.requires.shape, c.in-Ok.ensures.placed)

pub returns-in-Ok-clause-tree : goal.returns-in-Ok-clause-tree
returns-in-Ok-clause-tree g c = c.settle_by.ensures.tree c.args.shape.now c.in-Ok.ensures.placed

pub returns-in-Ok-clause-ends : goal.returns-in-Ok-clause-ends
returns-in-Ok-clause-ends g c =
    settled_result c.args.instance.now c.args.shape.now c.settle_by.result (c.settle_by.ensures.ends c.args.shape.now c.in-Ok.ensures.placed)
