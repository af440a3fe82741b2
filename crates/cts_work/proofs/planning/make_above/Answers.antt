use Rattle.std.proofs.Common.{◌≡◌, ◌-◌, ◌∷◌, [], ◌++◌, length, sym, ap, ◌∙◌, subst, append_assoc, arith, length-append}
use Rattle.cts_work.specs.Plans.{joined}
use Rattle.cts_work.specs.Work.{AreMade}
use Rattle.cts_work.proofs.Parts.{starts_first}
use Rattle.cts_work.proofs.Made.{made_push, made_end}
use Rattle.cts_work.proofs.planning.make_above.Goals as goal

pub make_node-requires-clause-starts : goal.make_node-requires-clause-starts
make_node-requires-clause-starts g c =
    starts_first c.args.work.now.nodes.now (length c.args.work.now.sinks.now) c.requires.ready.shape c.loop-node.node
    (omega (arith, c.loop-node-test.true, c.requires.to))

pub make_node-requires-clause-long : goal.make_node-requires-clause-long
make_node-requires-clause-long g c =
    omega (arith, c.loop-node.invariant.long, ap (λ l. length (joined c.args.parts.now ++ l)) c.as_slice.ensures.value)

pub make_node-requires-clause-before : goal.make_node-requires-clause-before
make_node-requires-clause-before g c =
    subst (λ l. AreMade c.args.work.now 0 (joined c.args.parts.now ++ l)) (sym c.as_slice.ensures.value) c.loop-node.invariant.made

pub returns-in-Err-clause-ends : goal.returns-in-Err-clause-ends
returns-in-Err-clause-ends g c =
    made_end c.args.work.now 0 c.loop-node.node (length c.args.work.now.nodes.now - 1) (joined c.args.parts.now ++ c.loop-node.part.items) c.in-Err.end
    c.loop-node.invariant.made (omega (arith, c.loop-node.invariant.long)) (omega (arith, c.loop-node-test.true, c.requires.to)) c.in-Err.ensures.ends

pub loop-node-preserved : goal.loop-node-preserved
loop-node-preserved g c =
    let before = joined c.args.parts.now ++ c.loop-node.part.items in
    let more = c.in-Ok.next ∷ [] in
    let items : joined c.args.parts.now ++ c.push.new.self.items ≡ before ++ more =
    ap (λ l. joined c.args.parts.now ++ l) c.in_ok-push-in-Ok.ensures.items
    ∙ sym (append_assoc (joined c.args.parts.now) c.loop-node.part.items more) in
    record {
      upto = omega (arith, c.loop-node-test.true);
      long = omega (arith, ap length items, length-append before more, c.loop-node.invariant.long);
      made = subst (AreMade c.args.work.now 0) (sym items)
          (made_push c.args.work.now 0 c.loop-node.node before c.in-Ok.next c.loop-node.invariant.made
          (omega (arith, c.loop-node.invariant.long)) c.in-Ok.ensures.made);
    }

pub returns-clause-long : goal.returns-clause-long
returns-clause-long g c = omega (arith, c.loop-node.invariant.long, c.loop-node.invariant.upto, c.loop-node-test.false)

pub returns-clause-made : goal.returns-clause-made
returns-clause-made g c = c.loop-node.invariant.made
