use Rattle.std.proofs.Common.{◌≡◌, ◌+◌, ◌∷◌, [], length, get_or, sym, ap, subst, arith, length-append}
use Rattle.cts_topo.proofs.Counts.{length-shape}
use Rattle.cts_turn.specs.Passes.{seen_by}
use Rattle.cts_work.specs.Numbered.{AreNumbered}
use Rattle.cts_work.specs.Work.{IsMadeAt}
use Rattle.cts_work.proofs.Nodes.{goes_further, stands_still}
use Rattle.cts_work.proofs.Numbered.{numbered_push}
use Rattle.cts_work.proofs.publishing.bring_part.Goals as goal

pub loop-place-init : goal.loop-place-init
loop-place-init g c =
    record {
      upto = omega arith;
      pass = stands_still c.args.work.now.memo.now c.args.pass.now c.requires.own;
      long = omega arith;
      before = c.requires.before;
    }

pub overflow_cast-first : goal.overflow_cast-first
overflow_cast-first g c =
    omega (
      arith,
      c.len-first.ensures,
      c.loop-place-test.true,
      c.requires.within,
      length-shape (length c.args.work.now.sinks.now) c.args.work.now.nodes.now c.requires.ready.shape,
      c.requires.ready.sinks.few,
    )

pub bring_node-requires-clause-own : goal.bring_node-requires-clause-own
bring_node-requires-clause-own g c κs within = c.loop-place.invariant.pass.own

pub bring_node-requires-clause-node : goal.bring_node-requires-clause-node
bring_node-requires-clause-node g c κs within = omega (arith, c.loop-place-test.true, c.requires.within, c.len-first.ensures)

pub bring_node-requires-clause-long : goal.bring_node-requires-clause-long
bring_node-requires-clause-long g c κs within =
    omega (arith, c.loop-place.invariant.long, ap length c.as_slice.ensures.value, c.len-first.ensures)

pub bring_node-requires-clause-before : goal.bring_node-requires-clause-before
bring_node-requires-clause-before g c κs within =
    subst (AreNumbered (seen_by c.loop-place.pass) c.args.work.now.sinks.now c.args.work.now.nodes.now) (sym c.as_slice.ensures.value)
    c.loop-place.invariant.before

pub bring_node-requires-clause-made : goal.bring_node-requires-clause-made
bring_node-requires-clause-made g c κs within =
    let place = c.loop-place.place in
    let made = c.index-part-place.result in
    let first : length c.args.before.now.items ≡ c.len-first.result = omega (arith, c.len-first.ensures) in
    subst (IsMadeAt c.args.work.now (c.len-first.result + place)) (sym c.index-part-place.is)
    (subst (λ n. IsMadeAt c.args.work.now (n + place) (get_or c.args.part.now place made)) first
    (c.requires.made.each place made c.loop-place-test.true))

pub loop-place-preserved : goal.loop-place-preserved
loop-place-preserved g c =
    let memo = c.args.work.now.memo.now in
    let sinks = c.args.work.now.sinks.now in
    let nodes = c.args.work.now.nodes.now in
    let step = c.bring_node.ensures.pass in
    let items = c.in_ok-push.ensures.items in
    record {
      upto = omega (arith, c.loop-place-test.true);
      pass = goes_further memo c.args.pass.now c.loop-place.pass c.bring_node.new.pass c.loop-place.invariant.pass step;
      long = omega (arith, ap length items, length-append c.loop-place.before.items (c.in_ok-next.next ∷ []), c.loop-place.invariant.long);
      before = subst (AreNumbered (seen_by c.bring_node.new.pass) sinks nodes) (sym items)
          (numbered_push sinks nodes (seen_by c.loop-place.pass) (seen_by c.bring_node.new.pass) (c.len-first.result + c.loop-place.place)
          c.loop-place.before.items c.in_ok-next.next step.goes_on step.own.short c.loop-place.invariant.before
          (omega (arith, c.loop-place.invariant.long, c.len-first.ensures)) c.in_ok-next.ensures.number);
    }

pub returns-clause-pass : goal.returns-clause-pass
returns-clause-pass g c = c.loop-place.invariant.pass

pub returns-clause-long : goal.returns-clause-long
returns-clause-long g c = omega (arith, c.loop-place.invariant.long, c.loop-place.invariant.upto, c.loop-place-test.false)

pub returns-clause-before : goal.returns-clause-before
returns-clause-before g c = c.loop-place.invariant.before

pub returns-in_err-next-clause-pass : goal.returns-in_err-next-clause-pass
returns-in_err-next-clause-pass g c =
    goes_further c.args.work.now.memo.now c.args.pass.now c.loop-place.pass c.bring_node.new.pass c.loop-place.invariant.pass c.bring_node.ensures.pass

pub returns-in_err-push-clause-pass : goal.returns-in_err-push-clause-pass
returns-in_err-push-clause-pass g c =
    goes_further c.args.work.now.memo.now c.args.pass.now c.loop-place.pass c.bring_node.new.pass c.loop-place.invariant.pass c.bring_node.ensures.pass
