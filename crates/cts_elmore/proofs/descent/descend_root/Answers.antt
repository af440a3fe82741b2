use Rattle.std.proofs.Common.{ap, subst, refl, arith, ◌∙◌}
use Rattle.cts_units.specs.declared.params.Params.{Params}
use Rattle.cts_elmore.specs.Outputs.{IsOutput}
use Rattle.cts_elmore.proofs.RootDown.{some, light, buffer_within, names_in, short, seen_small, delay_small, stage_small, below_small, root_descends}
use Rattle.cts_elmore.proofs.descent.descend_root.Goals as goal

pub overflow_sub-last : goal.overflow_sub-last
overflow_sub-last c = omega (arith, some c.args.instance.now c.params-params.ensures.valid c.args.nodes.now c.requires.post_order c.requires.fits c.args.drive c.requires.drive c.args.known.now c.requires.known)

pub bounds-nodes-last : goal.bounds-nodes-last
bounds-nodes-last c = omega (arith, some c.args.instance.now c.params-params.ensures.valid c.args.nodes.now c.requires.post_order c.requires.fits c.args.drive c.requires.drive c.args.known.now c.requires.known)

pub bounds-nodes-last-2 : goal.bounds-nodes-last-2
bounds-nodes-last-2 c = omega (arith, some c.args.instance.now c.params-params.ensures.valid c.args.nodes.now c.requires.post_order c.requires.fits c.args.drive c.requires.drive c.args.known.now c.requires.known)

pub bounds-nodes-last-3 : goal.bounds-nodes-last-3
bounds-nodes-last-3 c = omega (arith, some c.args.instance.now c.params-params.ensures.valid c.args.nodes.now c.requires.post_order c.requires.fits c.args.drive c.requires.drive c.args.known.now c.requires.known)

pub bounds-nodes-last-4 : goal.bounds-nodes-last-4
bounds-nodes-last-4 c = omega (arith, some c.args.instance.now c.params-params.ensures.valid c.args.nodes.now c.requires.post_order c.requires.fits c.args.drive c.requires.drive c.args.known.now c.requires.known)

pub source_output-above-requires-clause-load : goal.source_output-above-requires-clause-load
source_output-above-requires-clause-load c = light c.args.instance.now c.params-params.ensures.valid c.args.nodes.now c.requires.post_order c.requires.fits c.args.drive c.requires.drive c.args.known.now c.requires.known

pub part_figure-figure-requires-clause-kind : goal.part_figure-figure-requires-clause-kind
part_figure-figure-requires-clause-kind c = names_in c.args.instance.now c.params-params.ensures.valid c.args.nodes.now c.requires.post_order c.requires.fits c.args.drive c.requires.drive c.args.known.now c.requires.known c.source_r.result c.source_r.ensures.part c.source_output-above.result c.source_output-above.ensures c.index-nodes-last.result c.index-nodes-last-2.result c.params-params.result.now c.params-params.ensures.part

pub part_figure-figure-requires-clause-length : goal.part_figure-figure-requires-clause-length
part_figure-figure-requires-clause-length c = short c.args.instance.now c.params-params.ensures.valid c.args.nodes.now c.requires.post_order c.requires.fits c.args.drive c.requires.drive c.args.known.now c.requires.known c.source_r.result c.source_r.ensures.part c.source_output-above.result c.source_output-above.ensures c.index-nodes-last.result c.index-nodes-last-2.result

pub part_figure-figure-requires-clause-seen : goal.part_figure-figure-requires-clause-seen
part_figure-figure-requires-clause-seen c = seen_small c.args.instance.now c.params-params.ensures.valid c.args.nodes.now c.requires.post_order c.requires.fits c.args.drive c.requires.drive c.args.known.now c.requires.known c.source_r.result c.source_r.ensures.part c.source_output-above.result c.source_output-above.ensures c.index-nodes-last.result c.index-nodes-last-2.result c.params-params.result.now c.params-params.ensures.part

pub output_of-requires-clause-buffer : goal.output_of-requires-clause-buffer
output_of-requires-clause-buffer c =
    buffer_within c.args.instance.now c.params-params.ensures.valid c.args.nodes.now c.requires.post_order c.requires.fits c.args.drive c.requires.drive c.args.known.now c.requires.known c.index-nodes-last.result c.own_buffer.result c.own_buffer.ensures c.items.result.now
    (c.items.ensures ∙ ap (λ (p : Params). p.library) c.params-params.ensures.part)

pub output_of-requires-clause-below : goal.output_of-requires-clause-below
output_of-requires-clause-below c = below_small c.args.instance.now c.params-params.ensures.valid c.args.nodes.now c.requires.post_order c.requires.fits c.args.drive c.requires.drive c.args.known.now c.requires.known c.source_r.result c.source_r.ensures.part c.source_output-above.result c.source_output-above.ensures c.index-nodes-last.result c.index-nodes-last-2.result c.params-params.result.now c.params-params.ensures.part c.part_figure-figure.result c.part_figure-figure.ensures

pub output_of-requires-clause-delay : goal.output_of-requires-clause-delay
output_of-requires-clause-delay c = delay_small c.args.instance.now c.params-params.ensures.valid c.args.nodes.now c.requires.post_order c.requires.fits c.args.drive c.requires.drive c.args.known.now c.requires.known c.source_r.result c.source_r.ensures.part c.source_output-above.result c.source_output-above.ensures c.index-nodes-last.result c.index-nodes-last-2.result c.params-params.result.now c.params-params.ensures.part c.part_figure-figure.result c.part_figure-figure.ensures

pub output_of-requires-clause-stage : goal.output_of-requires-clause-stage
output_of-requires-clause-stage c = stage_small c.args.instance.now c.params-params.ensures.valid c.args.nodes.now c.requires.post_order c.requires.fits c.args.drive c.requires.drive c.args.known.now c.requires.known c.source_r.result c.source_r.ensures.part c.source_output-above.result c.source_output-above.ensures c.index-nodes-last.result c.index-nodes-last-2.result c.params-params.result.now c.params-params.ensures.part c.part_figure-figure.result c.part_figure-figure.ensures

pub is_slew_met-requires-clause-stage : goal.is_slew_met-requires-clause-stage
is_slew_met-requires-clause-stage c = stage_small c.args.instance.now c.params-params.ensures.valid c.args.nodes.now c.requires.post_order c.requires.fits c.args.drive c.requires.drive c.args.known.now c.requires.known c.source_r.result c.source_r.ensures.part c.source_output-above.result c.source_output-above.ensures c.index-nodes-last.result c.index-nodes-last-2.result c.params-params.result.now c.params-params.ensures.part c.part_figure-figure.result c.part_figure-figure.ensures

pub returns : goal.returns
returns c =
    root_descends c.args.instance.now c.params-params.ensures.valid c.args.nodes.now c.requires.post_order c.requires.fits c.args.drive c.requires.drive c.args.known.now c.requires.known c.source_r.result c.source_r.ensures.part c.source_output-above.result c.source_output-above.ensures c.index-nodes-last.result c.index-nodes-last-2.result c.params-params.result.now c.params-params.ensures.part c.part_figure-figure.result c.part_figure-figure.ensures c.own_buffer.result c.own_buffer.ensures c.output_of.result
    (subst (λ library. IsOutput library c.own_buffer.result c.part_figure-figure.result c.output_of.result) c.items.ensures c.output_of.ensures.output)
    c.load_limit-limit.result c.slew_limit.result c.load_limit-limit.ensures.part c.slew_limit.ensures.part c.is_load_met-root_met.result
    c.is_slew_met.result c.is_load_met-root_met.ensures c.is_slew_met.ensures _ refl refl refl refl
