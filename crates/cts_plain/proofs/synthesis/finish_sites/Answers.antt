use Rattle.cts_plain.proofs.Settled.{settled_result}
use Rattle.cts_plain.proofs.synthesis.finish_sites.Goals as goal

pub returns-clause-ends : goal.returns-clause-ends
returns-clause-ends c =
    settled_result c.args.instance.now c.args.shape.now c.settle.result
    (c.settle.ensures.ends c.args.shape.now
    (record { plan = c.requires.sites.0; is_plan = c.requires.sites.1; is_placed = c.in_ok-placed.ensures.placed }))
