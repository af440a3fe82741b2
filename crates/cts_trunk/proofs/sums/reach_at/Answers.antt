use Rattle.std.proofs.Common.{◌+◌, ◌*◌, ap, ◌∙◌, arith}
use Rattle.cts_units.specs.declared.params.Wire.{Wire}
use Rattle.cts_units.specs.Delay.{wire_delay_of}
use Rattle.cts_trunk.specs.TrunkSums.{source_buffer, wires_of}
use Rattle.cts_trunk.proofs.Reaches.{length-wires, reach_is}
use Rattle.cts_trunk.proofs.sums.reach_at.Goals as goal

pub returns : goal.returns
returns c = λ i is before.
    let drive = c.args.drive.now in
    let len = c.piece_at-piece.result.length in
    let seen = c.piece_at-piece.result.seen in
    let driver = c.driver_of.result in
    reach_is i drive.repeater (wires_of drive c.args.stands.now) c.args.number c.args.before driver len seen
    c.reach_through.result
    (omega (arith, length-wires drive c.args.stands.now, c.requires.number))
    c.piece_at-piece.ensures.value before
    (λ first. c.driver_of.ensures.first first ∙ ap source_buffer is.source_is)
    c.driver_of.ensures.later
    (c.reach_through.ensures.load ∙ ap (λ (w : Wire). seen + w.c * len) is.wire_is)
    (c.reach_through.ensures.stage
    ∙ ap (λ (w : Wire). 2 * driver.rout * (seen + w.c * len) + wire_delay_of w.r w.c len seen) is.wire_is)
    c.reach_through.ensures.delay
