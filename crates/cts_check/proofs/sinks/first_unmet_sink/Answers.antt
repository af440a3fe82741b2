use Rattle.std.proofs.Common.{◌<◌, ◌≤◌, false, length, take, replicate, IsTrue, sym, ap, subst, ◌∙◌, arith}
use Rattle.std.specs.List.{All}
use Rattle.cts_check.proofs.SinkRule.{marks_at_start, next_front, broken_at, met_next, met_everywhere, broken_past, marks_at_end, all_marked, not_all_marked}
use Rattle.cts_check.specs.Marks.{marks_of}
use Rattle.cts_check.proofs.SinkPlaces.{never}
use Rattle.cts_check.proofs.sinks.first_unmet_sink.Goals as goal

pub loop-number-init : goal.loop-number-init
loop-number-init c = record {
  marks = marks_at_start c.args.instance.now.sinks c.in_ok-marks.marks.items
      (c.in_ok-marks.ensures.items_if_clones_equal (λ y same. same) ∙ ap (λ qs. replicate (length qs) false) c.sinks.ensures.part);
  met = λ k less. absurd (omega (arith, less));
}

pub returns-then-not-meets_sink : goal.returns-then-not-meets_sink
returns-then-not-meets_sink c = (
  broken_at c.args.instance.now c.args.nodes.now c.loop-number.number c.index-nodes-number.result
      (omega (arith, c.loop-number-test.true, c.loop-number.auto.number-end)) c.index-nodes-number.is
      (c.if-not-meets_sink.ensures.missed (take c.loop-number.number c.args.nodes.now) c.loop-number.invariant.marks),
  c.loop-number.invariant.met,
)

pub loop-number-preserved : goal.loop-number-preserved
loop-number-preserved c =
    let within : c.loop-number.number < length c.args.nodes.now = omega (arith, c.loop-number-test.true, c.loop-number.auto.number-end) in
    let step = c.if-not-meets_sink.ensures.met (take c.loop-number.number c.args.nodes.now) c.loop-number.invariant.marks in
    record {
      marks = step.1 ∙ ap (marks_of c.args.instance.now.sinks) (next_front c.args.instance.now c.args.nodes.now c.loop-number.number c.index-nodes-number.result within c.index-nodes-number.is);
      met = met_next c.args.instance.now c.args.nodes.now c.loop-number.number c.index-nodes-number.result within c.index-nodes-number.is (step.0) c.loop-number.invariant.met;
    }

pub returns-then-are_all_marked : goal.returns-then-are_all_marked
returns-then-are_all_marked c =
    let past : length c.args.nodes.now ≤ c.loop-number.number = omega (arith, c.loop-number-test.false, c.loop-number.auto.number-end) in
    met_everywhere c.args.instance.now c.args.nodes.now c.loop-number.number past c.loop-number.invariant.met
    (all_marked c.args.instance.now c.args.nodes.now c.loop-number.marks.items
    (marks_at_end c.args.instance.now.sinks c.args.nodes.now c.loop-number.number c.loop-number.marks.items past c.loop-number.invariant.marks)
    (subst (All IsTrue) c.as_slice.ensures.value (c.are_all_marked.ensures.0 c.if-are_all_marked.true)))

pub returns : goal.returns
returns c =
    let past : length c.args.nodes.now ≤ c.loop-number.number = omega (arith, c.loop-number-test.false, c.loop-number.auto.number-end) in (
      broken_past c.args.instance.now c.args.nodes.now c.loop-number.number past c.loop-number.invariant.met
          (not_all_marked c.args.instance.now c.args.nodes.now c.loop-number.marks.items
          (marks_at_end c.args.instance.now.sinks c.args.nodes.now c.loop-number.number c.loop-number.marks.items past c.loop-number.invariant.marks)
          (λ all. never c.are_all_marked.result (c.are_all_marked.ensures.1 (subst (All IsTrue) (sym c.as_slice.ensures.value) all)) c.if-are_all_marked.false)),
      λ j less. c.loop-number.invariant.met j (omega (arith, less, c.loop-number-test.false, c.loop-number.auto.number-end)),
    )
