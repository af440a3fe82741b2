use Rattle.cts_check.proofs.Lengths.{short_decided}
use Rattle.cts_check.proofs.wires.is_short.Goals as goal

pub returns : goal.returns
returns c =
    short_decided c.args.node.now.wire c.way_length.result c.args.from c.items.result.now _ c.halves.result _ c.way_length.ensures
    c.items.ensures c.halves.ensures.point
