use Rattle.cts_turn.specs.Passes.{seen_by}
use Rattle.cts_session.proofs.Draws.{known_where_made, known_until_end}
use Rattle.cts_session.proofs.draw.draw.Goals as goal

pub returns-clause-known : goal.returns-clause-known
returns-clause-known g c =
    known_where_made c.args.instance.now (seen_by c.plan.new.pass) c.finish.result c.in_ok-shape.ensures.known

pub returns-clause-known_until : goal.returns-clause-known_until
returns-clause-known_until g c =
    known_until_end c.args.instance.now (seen_by c.plan.new.pass) c.finish.result c.in_ok-shape.ensures.known
