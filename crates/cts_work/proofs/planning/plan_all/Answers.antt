use Rattle.std.proofs.Common.{List, length, sym, ◌∙◌, subst, IfOk, IfErr}
use Rattle.cts_topo.specs.declared.shape.ShapeNode.{ShapeNode}
use Rattle.cts_topo.specs.Shape.{IsShapeOver}
use Rattle.cts_up.specs.Ends.{Ends}
use Rattle.cts_up.specs.Plan.{IsPlan}
use Rattle.cts_memo.specs.Passes.{params_of}
use Rattle.cts_work.specs.Plans.{nodes_of}
use Rattle.cts_work.proofs.Divisions.{whole_begins, whole_in_order, whole_pieces}
use Rattle.cts_work.proofs.planning.plan_all.Goals as goal

pub make_pieces-requires-clause-pieces : goal.make_pieces-requires-clause-pieces
make_pieces-requires-clause-pieces g c κs within =
    whole_pieces c.nodes-nodes.result.now (length c.args.sinks.now)
    (subst (IsShapeOver (length c.args.sinks.now)) (sym c.nodes-nodes.ensures.nodes) c.requires.shape) c.args.workers c.requires.some c.requires.few
    c.deref.result.now (c.deref.ensures.value ∙ c.in_ok-pieces.ensures)

pub plan_of-requires-clause-pieces : goal.plan_of-requires-clause-pieces
plan_of-requires-clause-pieces g c =
    whole_pieces c.nodes-nodes.result.now (length c.args.sinks.now)
    (subst (IsShapeOver (length c.args.sinks.now)) (sym c.nodes-nodes.ensures.nodes) c.requires.shape) c.args.workers c.requires.some c.requires.few
    c.deref-2.result.now (c.deref-2.ensures.value ∙ c.in_ok-pieces.ensures)

pub plan_of-requires-clause-order : goal.plan_of-requires-clause-order
plan_of-requires-clause-order g c =
    whole_in_order c.nodes-nodes.result.now (length c.args.sinks.now)
    (subst (IsShapeOver (length c.args.sinks.now)) (sym c.nodes-nodes.ensures.nodes) c.requires.shape) c.args.workers c.requires.some c.requires.few
    c.deref-2.result.now (c.deref-2.ensures.value ∙ c.in_ok-pieces.ensures)

pub plan_of-requires-clause-begin : goal.plan_of-requires-clause-begin
plan_of-requires-clause-begin g c =
    whole_begins c.nodes-nodes.result.now (length c.args.sinks.now)
    (subst (IsShapeOver (length c.args.sinks.now)) (sym c.nodes-nodes.ensures.nodes) c.requires.shape) c.args.workers c.requires.some c.requires.few
    c.deref-2.result.now (c.deref-2.ensures.value ∙ c.in_ok-pieces.ensures)

pub make_pieces-requires-clause-ready : goal.make_pieces-requires-clause-ready
make_pieces-requires-clause-ready g c κs within = record {
  sinks = c.requires.sinks;
  shape = subst (IsShapeOver (length c.args.sinks.now)) (sym c.nodes-nodes.ensures.nodes) c.requires.shape;
}

pub plan_of-requires-clause-ready : goal.plan_of-requires-clause-ready
plan_of-requires-clause-ready g c = record {
  sinks = c.requires.sinks;
  shape = subst (IsShapeOver (length c.args.sinks.now)) (sym c.nodes-nodes.ensures.nodes) c.requires.shape;
}

pub returns-clause-plan : goal.returns-clause-plan
returns-clause-plan g c =
    subst (λ (ns : List ShapeNode). IfOk c.plan_of.result (λ plan. IsPlan (params_of c.args.memo.now) c.args.sinks.now ns (nodes_of plan)))
    c.nodes-nodes.ensures.nodes c.plan_of.ensures.plan

pub returns-clause-ends : goal.returns-clause-ends
returns-clause-ends g c =
    subst (λ (ns : List ShapeNode). IfErr c.plan_of.result (Ends (params_of c.args.memo.now) c.args.sinks.now ns))
    c.nodes-nodes.ensures.nodes c.plan_of.ensures.ends
