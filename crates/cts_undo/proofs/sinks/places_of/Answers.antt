use Rattle.cts_undo.proofs.Indexed.{next_indexed}
use Rattle.cts_undo.proofs.sinks.places_of.Goals as goal

pub loop-place-preserved : goal.loop-place-preserved
loop-place-preserved c =
    next_indexed c.args.sinks.now c.loop-place.places c.insert.new.self c.loop-place.place _ c.loop-place-test.true c.loop-place.invariant c.in_ok-insert.ensures.updates
