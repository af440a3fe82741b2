use Rattle.cts_top.proofs.Synthesising.{finished}
use Rattle.cts_top.proofs.workers.finish_plan.Goals as goal

pub returns-in-Ok : goal.returns-in-Ok
returns-in-Ok g c =
    finished c.args.planned.instance.now c.instance_is_valid.ensures c.args.planned.shape.now c.requires.planned.definition c.tree_by.result
    c.tree_by.ensures.tree c.tree_by.ensures.figures c.tree_by.ensures.sound c.tree_by.ensures.one_each c.tree_by.ensures.in_range c.tree_by.ensures.in_die
    c.tree_by.ensures.ends
