use Rattle.std.proofs.Common.{Some, None, length, sym, ap, subst, ◌∙◌}
use Rattle.cts_check.specs.Ways.{AreUpperEnds}
use Rattle.cts_check.specs.Rules.{MeetsSinks, MeetsRoute, MeetsShort, MeetsBufferBlocked}
use Rattle.cts_check.specs.declared.verdict.Rule.TheVariants.{Sinks, Route, Short, BufferBlocked}
use Rattle.cts_check.specs.Told.{told_nodes}
use Rattle.cts_check.proofs.Order.{told_first, none_before, met_too, broken_first}
use Rattle.cts_check.proofs.EndLengths.{end_each}
use Rattle.cts_check.proofs.judge.first_broken.Goals as goal

pub returns-in-Some : goal.returns-in-Some
returns-in-Some c = λ printed told.
    broken_first c.args.instance.now printed Sinks (none_before c.args.instance.now printed) c.in-Some.node
    (told_first (MeetsSinks c.args.instance.now) c.args.nodes.now (told_nodes c.args.instance.now.sinks printed.nodes) told c.in_ok-node.field-0 (Some c.in-Some.node) c.in-Some.is c.in_ok-node.ensures)

pub returns-in-Some-2 : goal.returns-in-Some-2
returns-in-Some-2 c = λ printed told.
    let before = met_too c.args.instance.now printed Sinks (none_before c.args.instance.now printed)
    (told_first (MeetsSinks c.args.instance.now) c.args.nodes.now (told_nodes c.args.instance.now.sinks printed.nodes) told c.in_ok-node.field-0 None c.in_default.is c.in_ok-node.ensures) in
    broken_first c.args.instance.now printed Route before c.in-Some-2.node
    (told_first (MeetsRoute c.args.instance.now) c.args.nodes.now (told_nodes c.args.instance.now.sinks printed.nodes) told c.in_ok-node-2.field-0 (Some c.in-Some-2.node) c.in-Some-2.is c.in_ok-node-2.ensures)

pub first_short_wire-requires-clause-one_each : goal.first_short_wire-requires-clause-one_each
first_short_wire-requires-clause-one_each c =
    ap length c.as_slice-ends.ensures.value ∙ end_each c.args.instance.now c.args.nodes.now c.requires.post_order c.in_ok-ends.ends.items c.in_ok-ends.ensures.ends

pub returns-in-Some-first_short_wire : goal.returns-in-Some-first_short_wire
returns-in-Some-first_short_wire c = λ printed told.
    let met_sinks = met_too c.args.instance.now printed Sinks (none_before c.args.instance.now printed)
    (told_first (MeetsSinks c.args.instance.now) c.args.nodes.now (told_nodes c.args.instance.now.sinks printed.nodes) told c.in_ok-node.field-0 None c.in_default.is c.in_ok-node.ensures) in
    let met_routes = met_too c.args.instance.now printed Route met_sinks
    (told_first (MeetsRoute c.args.instance.now) c.args.nodes.now (told_nodes c.args.instance.now.sinks printed.nodes) told c.in_ok-node-2.field-0 None c.in_default-2.is c.in_ok-node-2.ensures) in
    broken_first c.args.instance.now printed Short met_routes c.in-Some-first_short_wire.node
    (told_first (MeetsShort c.args.instance.now) c.args.nodes.now (told_nodes c.args.instance.now.sinks printed.nodes) told c.first_short_wire.result (Some c.in-Some-first_short_wire.node) c.in-Some-first_short_wire.is
    (c.first_short_wire.ensures c.args.instance.now c.requires.post_order (subst (AreUpperEnds c.args.instance.now c.args.nodes.now) (sym c.as_slice-ends.ensures.value) c.in_ok-ends.ensures.ends)))

pub returns-in-Some-3 : goal.returns-in-Some-3
returns-in-Some-3 c = λ printed told.
    let met_sinks = met_too c.args.instance.now printed Sinks (none_before c.args.instance.now printed)
    (told_first (MeetsSinks c.args.instance.now) c.args.nodes.now (told_nodes c.args.instance.now.sinks printed.nodes) told c.in_ok-node.field-0 None c.in_default.is c.in_ok-node.ensures) in
    let met_routes = met_too c.args.instance.now printed Route met_sinks
    (told_first (MeetsRoute c.args.instance.now) c.args.nodes.now (told_nodes c.args.instance.now.sinks printed.nodes) told c.in_ok-node-2.field-0 None c.in_default-2.is c.in_ok-node-2.ensures) in
    let met_wires = met_too c.args.instance.now printed Short met_routes
    (told_first (MeetsShort c.args.instance.now) c.args.nodes.now (told_nodes c.args.instance.now.sinks printed.nodes) told c.first_short_wire.result None c.in_default-first_short_wire.is
    (c.first_short_wire.ensures c.args.instance.now c.requires.post_order (subst (AreUpperEnds c.args.instance.now c.args.nodes.now) (sym c.as_slice-ends.ensures.value) c.in_ok-ends.ensures.ends))) in
    broken_first c.args.instance.now printed BufferBlocked met_wires c.in-Some-3.node
    (told_first (MeetsBufferBlocked c.args.instance.now) c.args.nodes.now (told_nodes c.args.instance.now.sinks printed.nodes) told c.in_ok-node-3.field-0 (Some c.in-Some-3.node) c.in-Some-3.is c.in_ok-node-3.ensures)

pub returns : goal.returns
returns c = λ printed told.
    let met_sinks = met_too c.args.instance.now printed Sinks (none_before c.args.instance.now printed)
    (told_first (MeetsSinks c.args.instance.now) c.args.nodes.now (told_nodes c.args.instance.now.sinks printed.nodes) told c.in_ok-node.field-0 None c.in_default.is c.in_ok-node.ensures) in
    let met_routes = met_too c.args.instance.now printed Route met_sinks
    (told_first (MeetsRoute c.args.instance.now) c.args.nodes.now (told_nodes c.args.instance.now.sinks printed.nodes) told c.in_ok-node-2.field-0 None c.in_default-2.is c.in_ok-node-2.ensures) in
    let met_wires = met_too c.args.instance.now printed Short met_routes
    (told_first (MeetsShort c.args.instance.now) c.args.nodes.now (told_nodes c.args.instance.now.sinks printed.nodes) told c.first_short_wire.result None c.in_default-first_short_wire.is
    (c.first_short_wire.ensures c.args.instance.now c.requires.post_order (subst (AreUpperEnds c.args.instance.now c.args.nodes.now) (sym c.as_slice-ends.ensures.value) c.in_ok-ends.ensures.ends))) in
    met_too c.args.instance.now printed BufferBlocked met_wires
    (told_first (MeetsBufferBlocked c.args.instance.now) c.args.nodes.now (told_nodes c.args.instance.now.sinks printed.nodes) told c.in_ok-node-3.field-0 None c.in-None.is c.in_ok-node-3.ensures)
