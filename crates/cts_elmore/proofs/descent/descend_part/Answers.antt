use Rattle.std.proofs.Common.{◌≡◌, false, true, ◌++◌, ◌∷◌, [], refl, ap, subst, ◌∙◌, arith}
use Rattle.cts_elmore.specs.declared.figures.NodeFigure.{NodeFigure}
use Rattle.cts_elmore.specs.Outputs.{IsOutput}
use Rattle.cts_elmore.proofs.HandedDown.{some_output, kept, short, seen_small, delay_within, stage_within, stage_small, delay_small, below_small, known_next, down_at_leaf, down_at_pair, down_at_start, down_somewhere, down_at_end}
use Rattle.cts_elmore.proofs.descent.descend_part.Goals as goal

-- the value past the end of the figures
abbrev no_figure : NodeFigure
no_figure = record { below = 0; offset = 0; residue = 0; delay = 0; stage = 0 }

pub loop-number-init : goal.loop-number-init
loop-number-init c = (
  down_at_start c.args.instance.now c.params-params.ensures.valid c.args.first c.args.nodes.now c.requires.post_order c.requires.fits
      c.args.figures.now c.requires.known c.args.above c.push.new.self.items
      (c.in_ok-push.ensures.items ∙ ap (λ outputs. outputs ++ c.args.above ∷ []) c.new-outputs.ensures.items),
  c.requires.known,
)

pub unreachable-requires : goal.unreachable-requires
unreachable-requires c =
    let none : false ≡ true =
    c.in_default.ensures.variant.1
    (omega (
      arith,
      c.loop-number.outputs.ok.0,
      some_output c.args.instance.now c.params-params.ensures.valid c.args.first c.args.nodes.now c.requires.post_order c.requires.fits
          _ _ c.loop-number.number c.loop-number-test.true c.loop-number.auto.number c.loop-number.figures c.loop-number.outputs.items
          c.loop-number.load_met c.loop-number.slew_met (down_somewhere c.args.instance.now c.params-params.ensures.valid c.args.first c.args.nodes.now c.requires.post_order c.requires.fits
          c.args.above c.requires.above c.loop-number.number c.loop-number.figures c.loop-number.outputs.items
          c.loop-number.load_met c.loop-number.slew_met (c.loop-number.invariant.0)) (c.loop-number.invariant.1),
    )) in
    cc

pub part_figure-here-requires-clause-length : goal.part_figure-here-requires-clause-length
part_figure-here-requires-clause-length c =
    short c.args.instance.now c.params-params.ensures.valid c.args.first c.args.nodes.now c.requires.post_order c.requires.fits
    _ _ c.loop-number.number c.loop-number-test.true c.loop-number.auto.number c.loop-number.figures c.loop-number.outputs.items
    c.loop-number.load_met c.loop-number.slew_met (down_somewhere c.args.instance.now c.params-params.ensures.valid c.args.first c.args.nodes.now c.requires.post_order c.requires.fits
    c.args.above c.requires.above c.loop-number.number c.loop-number.figures c.loop-number.outputs.items
    c.loop-number.load_met c.loop-number.slew_met (c.loop-number.invariant.0)) (c.loop-number.invariant.1)
    c.pop.new.self.items c.in-Some.above c.in-Some.ensures.items c.index-nodes-number-in-loop-number.result

pub part_figure-here-requires-clause-seen : goal.part_figure-here-requires-clause-seen
part_figure-here-requires-clause-seen c =
    seen_small c.args.instance.now c.params-params.ensures.valid c.args.first c.args.nodes.now c.requires.post_order c.requires.fits
    _ _ c.loop-number.number c.loop-number-test.true c.loop-number.auto.number c.loop-number.figures c.loop-number.outputs.items
    c.loop-number.load_met c.loop-number.slew_met (down_somewhere c.args.instance.now c.params-params.ensures.valid c.args.first c.args.nodes.now c.requires.post_order c.requires.fits
    c.args.above c.requires.above c.loop-number.number c.loop-number.figures c.loop-number.outputs.items
    c.loop-number.load_met c.loop-number.slew_met (c.loop-number.invariant.0)) (c.loop-number.invariant.1)
    c.pop.new.self.items c.in-Some.above c.in-Some.ensures.items
    c.params-params.result.now c.params-params.ensures.part c.index-nodes-number.result no_figure _ refl

pub part_figure-here-requires-clause-delay : goal.part_figure-here-requires-clause-delay
part_figure-here-requires-clause-delay c =
    delay_within c.args.instance.now c.params-params.ensures.valid c.args.first c.args.nodes.now c.requires.post_order c.requires.fits
    _ _ c.loop-number.number c.loop-number-test.true c.loop-number.auto.number c.loop-number.figures c.loop-number.outputs.items
    c.loop-number.load_met c.loop-number.slew_met (down_somewhere c.args.instance.now c.params-params.ensures.valid c.args.first c.args.nodes.now c.requires.post_order c.requires.fits
    c.args.above c.requires.above c.loop-number.number c.loop-number.figures c.loop-number.outputs.items
    c.loop-number.load_met c.loop-number.slew_met (c.loop-number.invariant.0)) (c.loop-number.invariant.1)
    c.pop.new.self.items c.in-Some.above c.in-Some.ensures.items

pub part_figure-here-requires-clause-stage : goal.part_figure-here-requires-clause-stage
part_figure-here-requires-clause-stage c =
    stage_within c.args.instance.now c.params-params.ensures.valid c.args.first c.args.nodes.now c.requires.post_order c.requires.fits
    _ _ c.loop-number.number c.loop-number-test.true c.loop-number.auto.number c.loop-number.figures c.loop-number.outputs.items
    c.loop-number.load_met c.loop-number.slew_met (down_somewhere c.args.instance.now c.params-params.ensures.valid c.args.first c.args.nodes.now c.requires.post_order c.requires.fits
    c.args.above c.requires.above c.loop-number.number c.loop-number.figures c.loop-number.outputs.items
    c.loop-number.load_met c.loop-number.slew_met (c.loop-number.invariant.0)) (c.loop-number.invariant.1)
    c.pop.new.self.items c.in-Some.above c.in-Some.ensures.items

pub bounds-figures-number : goal.bounds-figures-number
bounds-figures-number c =
    kept c.args.instance.now c.params-params.ensures.valid c.args.first c.args.nodes.now c.requires.post_order c.requires.fits
    _ _ c.loop-number.number c.loop-number-test.true c.loop-number.auto.number c.loop-number.figures c.loop-number.outputs.items
    c.loop-number.load_met c.loop-number.slew_met (down_somewhere c.args.instance.now c.params-params.ensures.valid c.args.first c.args.nodes.now c.requires.post_order c.requires.fits
    c.args.above c.requires.above c.loop-number.number c.loop-number.figures c.loop-number.outputs.items
    c.loop-number.load_met c.loop-number.slew_met (c.loop-number.invariant.0)) (c.loop-number.invariant.1)

pub bounds-figures-number-in-loop-number : goal.bounds-figures-number-in-loop-number
bounds-figures-number-in-loop-number c =
    kept c.args.instance.now c.params-params.ensures.valid c.args.first c.args.nodes.now c.requires.post_order c.requires.fits
    _ _ c.loop-number.number c.loop-number-test.true c.loop-number.auto.number c.loop-number.figures c.loop-number.outputs.items
    c.loop-number.load_met c.loop-number.slew_met (down_somewhere c.args.instance.now c.params-params.ensures.valid c.args.first c.args.nodes.now c.requires.post_order c.requires.fits
    c.args.above c.requires.above c.loop-number.number c.loop-number.figures c.loop-number.outputs.items
    c.loop-number.load_met c.loop-number.slew_met (c.loop-number.invariant.0)) (c.loop-number.invariant.1)

pub is_slew_met-slew_met-requires-clause-stage : goal.is_slew_met-slew_met-requires-clause-stage
is_slew_met-slew_met-requires-clause-stage c =
    stage_small c.args.instance.now c.params-params.ensures.valid c.args.first c.args.nodes.now c.requires.post_order c.requires.fits
    _ _ c.loop-number.number c.loop-number-test.true c.loop-number.auto.number c.loop-number.figures c.loop-number.outputs.items
    c.loop-number.load_met c.loop-number.slew_met (down_somewhere c.args.instance.now c.params-params.ensures.valid c.args.first c.args.nodes.now c.requires.post_order c.requires.fits
    c.args.above c.requires.above c.loop-number.number c.loop-number.figures c.loop-number.outputs.items
    c.loop-number.load_met c.loop-number.slew_met (c.loop-number.invariant.0)) (c.loop-number.invariant.1)
    c.pop.new.self.items c.in-Some.above c.in-Some.ensures.items
    c.params-params.result.now c.params-params.ensures.part _ _ no_figure _ refl c.part_figure-here.result c.part_figure-here.ensures

pub output_of-output-requires-clause-below : goal.output_of-output-requires-clause-below
output_of-output-requires-clause-below c =
    below_small c.args.instance.now c.params-params.ensures.valid c.args.first c.args.nodes.now c.requires.post_order c.requires.fits
    _ _ c.loop-number.number c.loop-number-test.true c.loop-number.auto.number c.loop-number.figures c.loop-number.outputs.items
    c.loop-number.load_met c.loop-number.slew_met (down_somewhere c.args.instance.now c.params-params.ensures.valid c.args.first c.args.nodes.now c.requires.post_order c.requires.fits
    c.args.above c.requires.above c.loop-number.number c.loop-number.figures c.loop-number.outputs.items
    c.loop-number.load_met c.loop-number.slew_met (c.loop-number.invariant.0)) (c.loop-number.invariant.1)
    c.pop.new.self.items c.in-Some.above c.in-Some.ensures.items
    c.params-params.result.now c.params-params.ensures.part _ _ no_figure _ refl c.part_figure-here.result c.part_figure-here.ensures
    c.in-Pair.left c.in-Pair.right c.in-Pair.buffer c.in-Pair.is

pub output_of-output-requires-clause-delay : goal.output_of-output-requires-clause-delay
output_of-output-requires-clause-delay c =
    delay_small c.args.instance.now c.params-params.ensures.valid c.args.first c.args.nodes.now c.requires.post_order c.requires.fits
    _ _ c.loop-number.number c.loop-number-test.true c.loop-number.auto.number c.loop-number.figures c.loop-number.outputs.items
    c.loop-number.load_met c.loop-number.slew_met (down_somewhere c.args.instance.now c.params-params.ensures.valid c.args.first c.args.nodes.now c.requires.post_order c.requires.fits
    c.args.above c.requires.above c.loop-number.number c.loop-number.figures c.loop-number.outputs.items
    c.loop-number.load_met c.loop-number.slew_met (c.loop-number.invariant.0)) (c.loop-number.invariant.1)
    c.pop.new.self.items c.in-Some.above c.in-Some.ensures.items
    c.params-params.result.now c.params-params.ensures.part _ _ no_figure _ refl c.part_figure-here.result c.part_figure-here.ensures

pub output_of-output-requires-clause-stage : goal.output_of-output-requires-clause-stage
output_of-output-requires-clause-stage c =
    stage_small c.args.instance.now c.params-params.ensures.valid c.args.first c.args.nodes.now c.requires.post_order c.requires.fits
    _ _ c.loop-number.number c.loop-number-test.true c.loop-number.auto.number c.loop-number.figures c.loop-number.outputs.items
    c.loop-number.load_met c.loop-number.slew_met (down_somewhere c.args.instance.now c.params-params.ensures.valid c.args.first c.args.nodes.now c.requires.post_order c.requires.fits
    c.args.above c.requires.above c.loop-number.number c.loop-number.figures c.loop-number.outputs.items
    c.loop-number.load_met c.loop-number.slew_met (c.loop-number.invariant.0)) (c.loop-number.invariant.1)
    c.pop.new.self.items c.in-Some.above c.in-Some.ensures.items
    c.params-params.result.now c.params-params.ensures.part _ _ no_figure _ refl c.part_figure-here.result c.part_figure-here.ensures

pub loop-number-preserved-in-Continue-branch-3 : goal.loop-number-preserved-in-Continue-branch-3
loop-number-preserved-in-Continue-branch-3 c = (
  λ root up is. down_at_pair c.args.instance.now c.params-params.ensures.valid c.args.first c.args.nodes.now c.requires.post_order c.requires.fits
      root up c.loop-number.number c.loop-number-test.true c.loop-number.auto.number c.loop-number.figures c.loop-number.outputs.items
      c.loop-number.load_met c.loop-number.slew_met (c.loop-number.invariant.0 root up is) (c.loop-number.invariant.1)
      c.pop.new.self.items c.in-Some.above c.in-Some.ensures.items
      c.params-params.result.now c.params-params.ensures.part _ _ no_figure _ refl c.part_figure-here.result c.part_figure-here.ensures
      c.in-Pair.left c.in-Pair.right c.in-Pair.buffer c.in-Pair.is
      c.output_of-output.result
      (subst (λ library. IsOutput library c.in-Pair.buffer c.part_figure-here.result c.output_of-output.result) c.items.ensures c.output_of-output.ensures.output)
      c.push-in-Pair.new.self.items c.push-in-Pair-2.new.self.items c.in_ok-push-2.ensures.items c.in_ok-push-3.ensures.items
      c.load_limit.result c.slew_limit.result c.load_limit.ensures.part c.slew_limit.ensures.part
      c.is_load_met-load_met.result c.is_slew_met-slew_met.result c.is_load_met-load_met.ensures c.is_slew_met-slew_met.ensures,
  known_next c.args.instance.now c.params-params.ensures.valid c.args.first c.args.nodes.now c.requires.post_order c.requires.fits
      _ _ c.loop-number.number c.loop-number-test.true c.loop-number.auto.number c.loop-number.figures c.loop-number.outputs.items
      c.loop-number.load_met c.loop-number.slew_met (down_somewhere c.args.instance.now c.params-params.ensures.valid c.args.first c.args.nodes.now c.requires.post_order c.requires.fits
      c.args.above c.requires.above c.loop-number.number c.loop-number.figures c.loop-number.outputs.items
      c.loop-number.load_met c.loop-number.slew_met (c.loop-number.invariant.0)) (c.loop-number.invariant.1)
      c.pop.new.self.items c.in-Some.above c.in-Some.ensures.items
      c.params-params.result.now c.params-params.ensures.part _ _ no_figure _ refl c.part_figure-here.result c.part_figure-here.ensures,
)

pub loop-number-preserved : goal.loop-number-preserved
loop-number-preserved c = (
  λ root up is. down_at_leaf c.args.instance.now c.params-params.ensures.valid c.args.first c.args.nodes.now c.requires.post_order c.requires.fits
      root up c.loop-number.number c.loop-number-test.true c.loop-number.auto.number c.loop-number.figures c.loop-number.outputs.items
      c.loop-number.load_met c.loop-number.slew_met (c.loop-number.invariant.0 root up is) (c.loop-number.invariant.1)
      c.pop.new.self.items c.in-Some.above c.in-Some.ensures.items
      c.params-params.result.now c.params-params.ensures.part _ _ no_figure _ refl c.part_figure-here.result c.part_figure-here.ensures
      c.in_default-kind.field-0 c.in_default-kind.field-1 c.in_default-kind.is
      c.load_limit.result c.slew_limit.result c.load_limit.ensures.part c.slew_limit.ensures.part
      c.is_load_met-load_met.result c.is_slew_met-slew_met.result c.is_load_met-load_met.ensures c.is_slew_met-slew_met.ensures,
  known_next c.args.instance.now c.params-params.ensures.valid c.args.first c.args.nodes.now c.requires.post_order c.requires.fits
      _ _ c.loop-number.number c.loop-number-test.true c.loop-number.auto.number c.loop-number.figures c.loop-number.outputs.items
      c.loop-number.load_met c.loop-number.slew_met (down_somewhere c.args.instance.now c.params-params.ensures.valid c.args.first c.args.nodes.now c.requires.post_order c.requires.fits
      c.args.above c.requires.above c.loop-number.number c.loop-number.figures c.loop-number.outputs.items
      c.loop-number.load_met c.loop-number.slew_met (c.loop-number.invariant.0)) (c.loop-number.invariant.1)
      c.pop.new.self.items c.in-Some.above c.in-Some.ensures.items
      c.params-params.result.now c.params-params.ensures.part _ _ no_figure _ refl c.part_figure-here.result c.part_figure-here.ensures,
)

pub returns : goal.returns
returns c =
    down_at_end c.args.instance.now c.params-params.ensures.valid c.args.first c.args.nodes.now c.requires.post_order c.requires.fits
    c.args.above c.loop-number.number (omega arith) c.loop-number.figures c.loop-number.outputs.items _ (c.loop-number.invariant.0)
