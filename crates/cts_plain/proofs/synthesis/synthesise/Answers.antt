use Rattle.cts_topo.specs.Topology.{shape_of}
use Rattle.cts_plain.proofs.Counted.{counted_all, counted_result}
use Rattle.cts_plain.proofs.synthesis.synthesise.Goals as goal

pub returns-clause-merges : goal.returns-clause-merges
returns-clause-merges g c =
    counted_all c.args.instance.now (shape_of c.args.instance.now.sinks) c.args.steps.now c.place.new.steps c.in_ok-placed.ensures.merges c.settle.result

pub returns-clause-merges_until : goal.returns-clause-merges_until
returns-clause-merges_until g c =
    counted_result c.args.instance.now (shape_of c.args.instance.now.sinks) c.args.steps.now c.place.new.steps c.in_ok-placed.ensures.merges c.settle.result
    (c.settle.ensures.ends (shape_of c.args.instance.now.sinks) c.in_ok-placed.ensures.placed)

pub returns-clause-merges_at_most : goal.returns-clause-merges_at_most
returns-clause-merges_at_most g c = c.place.ensures.merges_at_most
