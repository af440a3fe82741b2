use Rattle.std.proofs.Common.{w64, arith}
use Rattle.std.proofs.lemmas.Int.{to_z_pos}
use Rattle.cts_script.proofs.Draws.{three_more, sink_from_states}
use Rattle.cts_script.proofs.make.make_sink.Goals as goal

pub returns-clause-sink : goal.returns-clause-sink
returns-clause-sink c seed h =
    let states = three_more seed c.args.number _ _ _ _ h c.draw-x.ensures.state c.draw-y.ensures.state c.draw-capacitance.ensures.state in
    rw (
      to_z_pos w64 c.draw-x.result (omega (arith, c.draw-x.ensures.below)),
      to_z_pos w64 c.draw-y.result (omega (arith, c.draw-y.ensures.below)),
    )
    (sink_from_states seed c.args.number _ _ _ states.0 states.1 states.2 _ _ _ c.draw-x.ensures.drawn c.draw-y.ensures.drawn c.draw-capacitance.ensures.drawn)

pub returns-clause-state : goal.returns-clause-state
returns-clause-state c seed h =
    (three_more seed c.args.number _ _ _ _ h c.draw-x.ensures.state c.draw-y.ensures.state c.draw-capacitance.ensures.state).2
