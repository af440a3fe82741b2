use Rattle.std.proofs.Common.{◌+◌, ◌*◌, below_more, arith}
use Rattle.cts_route.specs.WindowOf.{IsNoDetour}
use Rattle.cts_route.proofs.Edges.{edge_shut}
use Rattle.cts_route.proofs.view.View.is_open.Goals as goal

pub loop-k-init : goal.loop-k-init
loop-k-init c = λ k lt. absurd (omega arith)

pub loop-k-preserved : goal.loop-k-preserved
loop-k-preserved c =
    below_more (λ k. IsNoDetour c.args.self.now (c.edge_of-edge.result.first + k * c.edge_of-edge.result.step)) c.loop-k.k c.loop-k.invariant c.if-leads_out.ensures

pub returns : goal.returns
returns c =
    edge_shut c.args.frame.now c.args.self.now c.args.direction _ _ c.edge_of-edge.result c.requires (omega arith) (omega arith) c.edge_of-edge.ensures
    (λ k lt. c.loop-k.invariant k (omega arith))
