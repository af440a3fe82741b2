use Rattle.std.proofs.Common.{◌∷◌, [], length, sym, ap, subst, arith, length-append}
use Rattle.cts_work.specs.Work.{AreMade}
use Rattle.cts_work.proofs.Parts.{part_ordered, next_fits, starts_from}
use Rattle.cts_work.proofs.Made.{none_made, made_push, made_end}
use Rattle.cts_work.proofs.making.make_part.Goals as goal

pub overflow_sub-root : goal.overflow_sub-root
overflow_sub-root g c = part_ordered c.args.work.now.nodes.now c.args.first c.args.root c.requires.part

pub overflow_add-node-end : goal.overflow_add-node-end
overflow_add-node-end g c = omega (arith, next_fits c.args.work.now c.args.root c.requires.ready c.requires.part.within)

pub loop-node-init : goal.loop-node-init
loop-node-init g c =
    let ordered = part_ordered c.args.work.now.nodes.now c.args.first c.args.root c.requires.part in
    record {
      from = omega arith;
      upto = omega (arith, ordered);
      long = omega (arith, ap length c.in_ok-made.ensures.items);
      made = none_made c.args.work.now c.args.first c.in_ok-made.made.items c.in_ok-made.ensures.items;
    }

pub make_node-requires-clause-starts : goal.make_node-requires-clause-starts
make_node-requires-clause-starts g c =
    starts_from c.args.work.now.nodes.now (length c.args.work.now.sinks.now) c.args.first c.args.root c.loop-node.node c.requires.ready.shape
    c.requires.part c.loop-node.invariant.from (omega (arith, c.loop-node-test.true))

pub make_node-requires-clause-long : goal.make_node-requires-clause-long
make_node-requires-clause-long g c = omega (arith, c.loop-node.invariant.long, ap length c.as_slice-part.ensures.value)

pub make_node-requires-clause-before : goal.make_node-requires-clause-before
make_node-requires-clause-before g c =
    subst (AreMade c.args.work.now c.args.first) (sym c.as_slice-part.ensures.value) c.loop-node.invariant.made

pub returns-in-Err-clause-ends : goal.returns-in-Err-clause-ends
returns-in-Err-clause-ends g c =
    made_end c.args.work.now c.args.first c.loop-node.node c.args.root c.loop-node.made.items c.in-Err.end
    c.loop-node.invariant.made c.loop-node.invariant.long (omega (arith, c.loop-node-test.true)) c.in-Err.ensures.ends

pub loop-node-preserved : goal.loop-node-preserved
loop-node-preserved g c =
    let items = c.in_ok-push-in-Ok.ensures.items in
    record {
      from = omega (arith, c.loop-node.invariant.from);
      upto = omega (arith, c.loop-node-test.true);
      long = omega (arith, ap length items, length-append c.loop-node.made.items (c.in-Ok.next ∷ []), c.loop-node.invariant.long);
      made = subst (AreMade c.args.work.now c.args.first) (sym items)
          (made_push c.args.work.now c.args.first c.loop-node.node c.loop-node.made.items c.in-Ok.next c.loop-node.invariant.made
          c.loop-node.invariant.long c.in-Ok.ensures.made);
    }

pub returns-clause-long : goal.returns-clause-long
returns-clause-long g c = omega (arith, c.loop-node.invariant.long, c.loop-node.invariant.upto, c.loop-node-test.false)

pub returns-clause-made : goal.returns-clause-made
returns-clause-made g c = c.loop-node.invariant.made
