use Rattle.std.proofs.Common.{List, sym, subst}
use Rattle.cts_memo.specs.Passes.{params_of}
use Rattle.cts_topo.specs.declared.shape.ShapeNode.{ShapeNode}
use Rattle.cts_up.specs.Plan.{IsPlan}
use Rattle.cts_work.specs.Plans.{nodes_of}
use Rattle.cts_work.proofs.Plans.{made_plan}
use Rattle.cts_work.proofs.publishing.publish_plan.Goals as goal

pub bring_nodes-requires-clause-long : goal.bring_nodes-requires-clause-long
bring_nodes-requires-clause-long g c κs within =
    (made_plan (params_of c.args.memo.now) c.args.sinks.now c.nodes-nodes.result.now (nodes_of c.args.plan.now)
    (subst (λ (ns : List ShapeNode). IsPlan (params_of c.args.memo.now) c.args.sinks.now ns (nodes_of c.args.plan.now))
    (sym c.nodes-nodes.ensures.nodes) c.requires.plan)).0

pub bring_nodes-requires-clause-made : goal.bring_nodes-requires-clause-made
bring_nodes-requires-clause-made g c κs within =
    (made_plan (params_of c.args.memo.now) c.args.sinks.now c.nodes-nodes.result.now (nodes_of c.args.plan.now)
    (subst (λ (ns : List ShapeNode). IsPlan (params_of c.args.memo.now) c.args.sinks.now ns (nodes_of c.args.plan.now))
    (sym c.nodes-nodes.ensures.nodes) c.requires.plan)).1
