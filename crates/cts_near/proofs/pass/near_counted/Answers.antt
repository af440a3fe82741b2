use Rattle.std.proofs.Common.{◌≡◌, List, length, get_or, sym, subst, arith}
use Rattle.cts_topo.specs.declared.shape.ShapeNode.{ShapeNode}
use Rattle.cts_near.specs.declared.subtree.Subtree.{Subtree}
use Rattle.cts_near.specs.Near.{whole, IsNear}
use Rattle.cts_near.specs.Ends.{Ends}
use Rattle.cts_near.specs.Forest.{tree_at}
use Rattle.cts_near.proofs.Covers.{names_each_sink}
use Rattle.cts_near.proofs.Passed.{begun_leads, step_leads, step_ends, passed_on, last_is_near, near_fits}
use Rattle.cts_near.proofs.pass.near_counted.Goals as goal

pub loop-step-init : goal.loop-step-init
loop-step-init g c =
    record {
      forest = c.in_ok-forest.ensures.forest c.args.params.now;
      count = omega (arith, c.in_ok-forest.ensures.count);
      leads = begun_leads c.args.params.now c.args.sinks.now _ c.in_ok-forest.ensures.begun;
    }

pub returns-in_err-join_closest-clause-ends : goal.returns-in_err-join_closest-clause-ends
returns-in_err-join_closest-clause-ends g c =
    passed_on c.from_residual-in_err-join_closest.result (Ends c.args.params.now c.args.sinks.now) (c.in_err-join_closest.field-0.0)
    (c.from_residual-in_err-join_closest.ensures.1)
    (step_ends c.args.params.now c.args.sinks.now c.loop-step.step _ (c.in_err-join_closest.field-0.0) c.loop-step-test.true
    c.loop-step.invariant.leads c.in_err-join_closest.ensures.ends)

pub loop-step-preserved : goal.loop-step-preserved
loop-step-preserved g c =
    record {
      forest = c.in_ok-join_closest.ensures.forest;
      count = omega (arith, c.in_ok-join_closest.ensures.count, c.loop-step.invariant.count);
      leads = step_leads c.args.params.now c.args.sinks.now c.loop-step.step _ _ c.loop-step-test.true c.loop-step.invariant.leads
          c.in_ok-join_closest.ensures.joins;
    }

pub shape_at-requires-clause-room : goal.shape_at-requires-clause-room
shape_at-requires-clause-room g c =
    let one : length c.loop-step.forest.subtrees.items ≡ 1 =
    omega (arith, c.loop-step.invariant.count, c.loop-step-test.false, c.loop-step.auto.step, c.loop-step.auto.step-end) in
    let last : IsNear c.args.params.now c.args.sinks.now
    (whole (tree_at c.loop-step.forest.joins.items (get_or c.loop-step.forest.subtrees.items 0 c.index.result.now).node)) =
    last_is_near c.args.params.now c.args.sinks.now c.loop-step.step c.loop-step.forest.joins.items c.loop-step.forest.subtrees.items
    c.index.result.now one (omega (arith, c.loop-step-test.false)) c.loop-step.invariant.leads in
    let near : IsNear c.args.params.now c.args.sinks.now (whole (tree_at c.as_slice.result.now c.index.result.now.node)) =
    subst (λ (joins : List ShapeNode). IsNear c.args.params.now c.args.sinks.now (whole (tree_at joins c.index.result.now.node)))
    (sym c.as_slice.ensures.value)
    (subst (λ (s : Subtree). IsNear c.args.params.now c.args.sinks.now (whole (tree_at c.loop-step.forest.joins.items s.node)))
    (sym c.index.ensures) last) in
    near_fits c.args.params.now c.args.sinks.now c.as_slice.result.now c.index.result.now.node c.requires.distinct near
    (omega (arith, c.requires.few))

pub returns-clause-shape : goal.returns-clause-shape
returns-clause-shape g c =
    let one : length c.loop-step.forest.subtrees.items ≡ 1 =
    omega (arith, c.loop-step.invariant.count, c.loop-step-test.false, c.loop-step.auto.step, c.loop-step.auto.step-end) in
    let last : IsNear c.args.params.now c.args.sinks.now
    (whole (tree_at c.loop-step.forest.joins.items (get_or c.loop-step.forest.subtrees.items 0 c.index.result.now).node)) =
    last_is_near c.args.params.now c.args.sinks.now c.loop-step.step c.loop-step.forest.joins.items c.loop-step.forest.subtrees.items
    c.index.result.now one (omega (arith, c.loop-step-test.false)) c.loop-step.invariant.leads in
    let near : IsNear c.args.params.now c.args.sinks.now (whole (tree_at c.as_slice.result.now c.index.result.now.node)) =
    subst (λ (joins : List ShapeNode). IsNear c.args.params.now c.args.sinks.now (whole (tree_at joins c.index.result.now.node)))
    (sym c.as_slice.ensures.value)
    (subst (λ (s : Subtree). IsNear c.args.params.now c.args.sinks.now (whole (tree_at c.loop-step.forest.joins.items s.node)))
    (sym c.index.ensures) last) in
    record {
      tree = tree_at c.as_slice.result.now c.index.result.now.node;
      near = near;
      spelled = c.in_ok-shape.ensures;
    }

pub returns-clause-each_sink_once : goal.returns-clause-each_sink_once
returns-clause-each_sink_once g c =
    names_each_sink c.args.params.now c.args.sinks.now c.in_ok-shape.shape c.requires.distinct (returns-clause-shape g c)
