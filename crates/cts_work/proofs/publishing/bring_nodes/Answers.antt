use Rattle.std.proofs.Common.{◌+◌, ◌<◌, ◌≤◌, length, take, sym, ap, subst, arith}
use Rattle.std.proofs.lemmas.List.{take_all}
use Rattle.cts_turn.specs.Passes.{seen_by}
use Rattle.cts_memo.specs.Passes.{params_of}
use Rattle.cts_work.specs.declared.plan.PlanPart.{PlanPart}
use Rattle.cts_work.specs.Plans.{joined}
use Rattle.cts_work.specs.Work.{AreMade}
use Rattle.cts_work.proofs.Plans.{length-joined-upto, part_made, part_within}
use Rattle.cts_work.proofs.Nodes.{goes_further, stands_still}
use Rattle.cts_work.proofs.Numbered.{none_numbered, numbered_known}
use Rattle.cts_work.proofs.publishing.bring_nodes.Goals as goal

pub loop-number-init : goal.loop-number-init
loop-number-init g c =
    record {
      pass = stands_still c.args.work.now.memo.now c.args.pass.now c.requires.own;
      long = omega (arith, ap length c.in_ok-before.ensures.items);
      before = none_numbered c.args.work.now.sinks.now c.args.work.now.nodes.now (seen_by c.args.pass.now) c.in_ok-before.before.items c.in_ok-before.ensures.items;
    }

pub bring_part-requires-clause-within : goal.bring_part-requires-clause-within
bring_part-requires-clause-within g c κs within =
    let parts = c.args.plan.now.parts.items in
    let k = c.loop-number.number in
    let e : PlanPart = c.index-part.result.now in
    let h : k < length parts = omega (arith, c.loop-number-test.true, c.len-number-end.ensures) in
    let fits : length c.loop-number.before.items + length c.deref.result.now ≤ length c.args.work.now.nodes.now =
    omega (
      arith,
      c.requires.long,
      c.loop-number.invariant.long,
      ap length c.deref.ensures.value,
      part_within parts k e h,
      ap (λ (p : PlanPart). length p.nodes.items) c.index-part.ensures,
    ) in
    fits

pub bring_part-requires-clause-made : goal.bring_part-requires-clause-made
bring_part-requires-clause-made g c κs within =
    let parts = c.args.plan.now.parts.items in
    let k = c.loop-number.number in
    let e : PlanPart = c.index-part.result.now in
    let h : k < length parts = omega (arith, c.loop-number-test.true, c.len-number-end.ensures) in
    subst (λ n. AreMade c.args.work.now n c.deref.result.now) (sym c.loop-number.invariant.long)
    (subst (AreMade c.args.work.now (length (joined (take k parts)))) (sym c.deref.ensures.value)
    (subst (λ (p : PlanPart). AreMade c.args.work.now (length (joined (take k parts))) p.nodes.items) (sym c.index-part.ensures)
    (part_made (params_of c.args.work.now.memo.now) c.args.work.now.sinks.now c.args.work.now.nodes.now parts k e h c.requires.made)))

pub returns-clause-known : goal.returns-clause-known
returns-clause-known g c =
    let parts = c.args.plan.now.parts.items in
    numbered_known c.args.work.now.sinks.now c.args.work.now.nodes.now (seen_by c.loop-number.pass) c.loop-number.before.items
    (omega (
      arith,
      c.loop-number.invariant.long,
      ap (λ ps. length (joined ps)) (take_all c.loop-number.number parts (omega (arith, c.loop-number-test.false))),
      c.requires.long,
    ))
    c.loop-number.invariant.before

pub loop-number-preserved : goal.loop-number-preserved
loop-number-preserved g c =
    let parts = c.args.plan.now.parts.items in
    let k = c.loop-number.number in
    let e : PlanPart = c.index-part.result.now in
    let h : k < length parts = omega (arith, c.loop-number-test.true, c.len-number-end.ensures) in
    record {
      pass = goes_further c.args.work.now.memo.now c.args.pass.now c.loop-number.pass c.bring_part.new.pass c.loop-number.invariant.pass c.bring_part.ensures.pass;
      long = omega (
        arith,
        c.in_ok-bring_part.ensures.long,
        c.loop-number.invariant.long,
        ap length c.deref.ensures.value,
        ap (λ (p : PlanPart). length p.nodes.items) c.index-part.ensures,
        length-joined-upto parts k e h,
      );
      before = c.in_ok-bring_part.ensures.before;
    }

pub returns-in_err-before-clause-pass : goal.returns-in_err-before-clause-pass
returns-in_err-before-clause-pass g c = stands_still c.args.work.now.memo.now c.args.pass.now c.requires.own

pub returns-in_err-bring_part-clause-pass : goal.returns-in_err-bring_part-clause-pass
returns-in_err-bring_part-clause-pass g c =
    goes_further c.args.work.now.memo.now c.args.pass.now c.loop-number.pass c.bring_part.new.pass c.loop-number.invariant.pass c.bring_part.ensures.pass
