use Rattle.std.proofs.Common.{Some, None, ap, ◌∙◌, arith}
use Rattle.std.proofs.lemmas.Option.{slice_get_within}
use Rattle.cts_check.proofs.SinkRule.{pair_met, unknown_missed, elsewhere_missed, again_missed, leaf_met}
use Rattle.cts_check.proofs.SinkPlaces.{x_in_range, y_in_range, found_in, mark_is, is_true, never}
use Rattle.cts_check.proofs.sinks.meets_sink.Goals as goal

pub returns-in_default-clause-met : goal.returns-in_default-clause-met
returns-in_default-clause-met c = λ before marked.
    pair_met c.args.instance.now.sinks before c.args.node.now c.in_default.field-0 c.in_default.field-1 c.in_default.field-2 c.args.marks.now.items c.in_default.is marked

pub returns-in_default-sink_at-clause-missed : goal.returns-in_default-sink_at-clause-missed
returns-in_default-sink_at-clause-missed c = λ before marked.
    unknown_missed c.args.instance.now.sinks before c.args.node.now c.in-Leaf.id c.in-Leaf.sink c.in-Leaf.is c.requires.names c.sinks.ensures.valid.ids
    (found_in c.args.instance.now.sinks c.sinks.result.now c.in-Leaf.sink c.sink_at.result None c.sinks.ensures.part c.sink_at.ensures c.in_default-sink_at.is)

pub stands_at-requires-clause-x : goal.stands_at-requires-clause-x
stands_at-requires-clause-x c = x_in_range c.args.instance.now c.sinks.ensures.valid c.in-Leaf.sink c.in-Some.named (found_in c.args.instance.now.sinks c.sinks.result.now c.in-Leaf.sink c.sink_at.result (Some c.in-Some.named) c.sinks.ensures.part c.sink_at.ensures c.in-Some.is)

pub stands_at-requires-clause-y : goal.stands_at-requires-clause-y
stands_at-requires-clause-y c = y_in_range c.args.instance.now c.sinks.ensures.valid c.in-Leaf.sink c.in-Some.named (found_in c.args.instance.now.sinks c.sinks.result.now c.in-Leaf.sink c.sink_at.result (Some c.in-Some.named) c.sinks.ensures.part c.sink_at.ensures c.in-Some.is)

pub returns-then-not-stands_at-clause-missed : goal.returns-then-not-stands_at-clause-missed
returns-then-not-stands_at-clause-missed c = λ before marked.
    elsewhere_missed c.args.instance.now.sinks before c.args.node.now c.in-Leaf.id c.in-Leaf.sink c.in-Leaf.is c.requires.names c.sinks.ensures.valid.ids
    c.in-Some.named (found_in c.args.instance.now.sinks c.sinks.result.now c.in-Leaf.sink c.sink_at.result (Some c.in-Some.named) c.sinks.ensures.part c.sink_at.ensures c.in-Some.is) (λ stands. never c.stands_at.result (c.stands_at.ensures.1 stands) c.if-not-stands_at.true)

pub index-requires : goal.index-requires
index-requires c =
    omega (arith, c.requires.long, c.args.marks.now.ok.0, slice_get_within c.args.instance.now.sinks c.in-Leaf.sink c.in-Some.named (found_in c.args.instance.now.sinks c.sinks.result.now c.in-Leaf.sink c.sink_at.result (Some c.in-Some.named) c.sinks.ensures.part c.sink_at.ensures c.in-Some.is))

pub returns-then-index-clause-missed : goal.returns-then-index-clause-missed
returns-then-index-clause-missed c = λ before marked.
    again_missed c.args.instance.now.sinks before c.args.node.now c.in-Leaf.id c.in-Leaf.sink c.in-Leaf.is c.requires.names c.sinks.ensures.valid.ids
    c.in-Some.named (found_in c.args.instance.now.sinks c.sinks.result.now c.in-Leaf.sink c.sink_at.result (Some c.in-Some.named) c.sinks.ensures.part c.sink_at.ensures c.in-Some.is) (c.stands_at.ensures.0 c.if-not-stands_at.false) c.args.marks.now.items marked
    (mark_is c.args.marks.now.items c.in-Leaf.sink c.index.result.now (omega (arith, c.requires.long, slice_get_within c.args.instance.now.sinks c.in-Leaf.sink c.in-Some.named (found_in c.args.instance.now.sinks c.sinks.result.now c.in-Leaf.sink c.sink_at.result (Some c.in-Some.named) c.sinks.ensures.part c.sink_at.ensures c.in-Some.is))) c.index.ensures ∙ ap Some (is_true c.index.result.now c.if-index.true))

pub index_mut-requires : goal.index_mut-requires
index_mut-requires c =
    omega (arith, c.requires.long, c.args.marks.now.ok.0, slice_get_within c.args.instance.now.sinks c.in-Leaf.sink c.in-Some.named (found_in c.args.instance.now.sinks c.sinks.result.now c.in-Leaf.sink c.sink_at.result (Some c.in-Some.named) c.sinks.ensures.part c.sink_at.ensures c.in-Some.is))

pub returns-clause-met : goal.returns-clause-met
returns-clause-met c = λ before marked.
    leaf_met c.args.instance.now.sinks before c.args.node.now c.in-Leaf.id c.in-Leaf.sink c.in-Leaf.is c.requires.names c.sinks.ensures.valid.ids
    c.in-Some.named (found_in c.args.instance.now.sinks c.sinks.result.now c.in-Leaf.sink c.sink_at.result (Some c.in-Some.named) c.sinks.ensures.part c.sink_at.ensures c.in-Some.is) (c.stands_at.ensures.0 c.if-not-stands_at.false) c.args.marks.now.items marked
    (mark_is c.args.marks.now.items c.in-Leaf.sink c.index.result.now (omega (arith, c.requires.long, slice_get_within c.args.instance.now.sinks c.in-Leaf.sink c.in-Some.named (found_in c.args.instance.now.sinks c.sinks.result.now c.in-Leaf.sink c.sink_at.result (Some c.in-Some.named) c.sinks.ensures.part c.sink_at.ensures c.in-Some.is))) c.index.ensures ∙ ap Some c.if-index.false)
