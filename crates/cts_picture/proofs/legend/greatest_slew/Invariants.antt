use Rattle.std.proofs.Common.{◌≡◌, ◌^◌, ◌<◌, take, map}
use Rattle.cts_report_reader.specs.Nodes.{seen_node}
use Rattle.cts_picture.specs.Legend.{greatest_slew}
use Rattle.cts_picture.proofs.legend.greatest_slew.Given as goal

abbrev pub invariant-loop-node : goal.invariant-loop-node
invariant-loop-node l =
    (l.slew ≡ greatest_slew (map seen_node (take l.node-index l.nodes))) × (l.slew < 10 ^ 38)
