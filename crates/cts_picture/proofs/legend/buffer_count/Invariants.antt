use Rattle.std.proofs.Common.{◌≡◌, ◌≤◌, take, map}
use Rattle.cts_report_reader.specs.Nodes.{seen_node}
use Rattle.cts_picture.specs.Legend.{buffer_count}
use Rattle.cts_picture.proofs.legend.buffer_count.Given as goal

abbrev pub invariant-loop-node : goal.invariant-loop-node
invariant-loop-node l =
    (l.count ≡ buffer_count (map seen_node (take l.node-index l.nodes))) × (l.count ≤ l.node-index)
