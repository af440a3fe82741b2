use Rattle.std.proofs.Common.{ap, ◌∙◌}
use Rattle.cts_topo.specs.Topology.{shape_of}
use Rattle.cts_turn.specs.Passes.{seen_by}
use Rattle.cts_session.proofs.Draws.{known_of_plan}
use Rattle.cts_session.proofs.draw.plan.Goals as goal

pub returns-clause-shape : goal.returns-clause-shape
returns-clause-shape g c = c.in_ok-shape.ensures.definition ∙ ap shape_of c.sinks-sinks.ensures.part

pub returns-clause-known : goal.returns-clause-known
returns-clause-known g c =
    known_of_plan c.args.instance.now c.sinks-sinks.result.now c.in_ok-shape.shape (seen_by c.rebuild_with.new.pass)
    c.sinks-sinks.ensures.part c.in_ok-shape.ensures.definition c.in_ok-rebuild_with.ensures.known
