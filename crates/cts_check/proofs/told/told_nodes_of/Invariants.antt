use Rattle.std.proofs.Common.{◌≡◌, ℕ, ◌≤◌, map, take, get_or}
use Rattle.cts_report_reader.specs.declared.node.ReportNode.{ReportNode}
use Rattle.cts_report_reader.specs.Nodes.{seen_node}
use Rattle.cts_check.specs.Claims.{claims_seen}
use Rattle.cts_check.specs.Told.{told_node}
use Rattle.cts_check.proofs.told.told_nodes_of.Given as goal

abbrev pub invariant-loop-node : goal.invariant-loop-node
invariant-loop-node l = record {
  tree : l.tree.items ≡ map (λ node. told_node l.fn.sinks (seen_node node)) (take l.node-index l.fn.nodes);
  claims : claims_seen l.nodes ≡ claims_seen l.fn.nodes;
  rest : (k : ℕ) (d : ReportNode) → l.node-index ≤ k → get_or l.nodes k d ≡ get_or l.fn.nodes k d;
}
