-- The numbers of balanced nodes are within the limits.
use Rattle.std.proofs.Common.{ℕ, ◌+◌, ◌*◌, ◌^◌, ◌≤◌, List, sym, subst, arith}
use Rattle.std.specs.List.{All}
use Rattle.cts_units.specs.declared.params.Sink.{Sink}
use Rattle.cts_units.specs.declared.params.Params.{Params}
use Rattle.cts_units.specs.Choice.{seen_load_of}
use Rattle.cts_units.specs.Limits.{IsParams}
use Rattle.cts_up.proofs.Sides.{seen_within}
use Rattle.cts_postorder.specs.BinaryTree.{BinaryTree, tip, fork, size}
use Rattle.cts_tree.specs.declared.nodes.TreeNode.{TreeNode}
use Rattle.cts_tree.specs.Nodes.{buffer_of}
use Rattle.cts_embed.specs.declared.node.NodeBalance.{NodeBalance}
use Rattle.cts_embed.specs.Balance.{IsBalance, IsLeafBalance, load_below}
use Rattle.cts_embed.specs.Range.{IsInRange}
use Rattle.cts_embed.proofs.OfLeaves.{IsSmallSink, SinkOf, sink_found, sink_has}

-- no least delay is above the greatest
no_greater : (params : Params) (sinks : List Sink) (t : BinaryTree TreeNode) (node : NodeBalance) → IsBalance params sinks t node
    → node.least ≤ node.greatest
unfolding IsBalance
no_greater params sinks (tip n) node p =
    let leaf : SinkOf sinks n.kind (λ sink. IsLeafBalance sink node) = sink_found sinks n.kind (λ sink. IsLeafBalance sink node) p in
    omega (arith, leaf.has.greatest, leaf.has.least)
no_greater params sinks (fork l r n) node p =
    omega (arith, p.4.greatest, p.4.least, no_greater params sinks l p.0 p.2, no_greater params sinks r p.1 p.3)

-- each pair has two wires more, of less than 2^31 nm
few_wires : (params : Params) (sinks : List Sink) (t : BinaryTree TreeNode) (node : NodeBalance) → IsBalance params sinks t node
    → node.wires + 2 ^ 32 ≤ size t * 2 ^ 32
unfolding IsBalance size
few_wires params sinks (tip n) node p =
    let leaf : SinkOf sinks n.kind (λ sink. IsLeafBalance sink node) = sink_found sinks n.kind (λ sink. IsLeafBalance sink node) p in
    omega (arith, leaf.has.total)
few_wires params sinks (fork l r n) node p =
    omega (
      arith,
      p.4.total,
      p.4.left_within,
      p.4.right_within,
      few_wires params sinks l p.0 p.2,
      few_wires params sinks r p.1 p.3,
    )

pub in_range : (params : Params) (sinks : List Sink) (t : BinaryTree TreeNode) (node : NodeBalance)
    → IsBalance params sinks t node → IsParams params → All IsSmallSink sinks → size t ≤ 131071 → IsInRange node
unfolding IsBalance
in_range params sinks (tip n) node p ok small few =
    let leaf : SinkOf sinks n.kind (λ sink. IsLeafBalance sink node) = sink_found sinks n.kind (λ sink. IsLeafBalance sink node) p in
    let of_sink : IsSmallSink leaf.sink = sink_has IsSmallSink sinks n.kind leaf.sink small leaf.named in
    record {
      greatest = omega (arith, leaf.has.greatest, of_sink.1);
      least = omega (arith, leaf.has.greatest, leaf.has.least);
      load = omega (arith, leaf.has.load, of_sink.0);
      wires = omega (arith, leaf.has.total);
    }
in_range params sinks (fork l r n) node p ok small few =
    let below : ℕ = load_below params.wire p.0 p.1 node.left_wire node.right_wire in
    let seen : seen_load_of params.library (buffer_of n.kind) below ≤ 2 ^ 56 =
    seen_within params (buffer_of n.kind) below ok p.4.load_within in
    record {
      greatest = p.4.greatest_within;
      least = no_greater params sinks (fork l r n) node p;
      load = subst (λ x. x ≤ 2 ^ 56) (sym p.4.load) seen;
      wires = omega (arith, few_wires params sinks (fork l r n) node p, few);
    }
