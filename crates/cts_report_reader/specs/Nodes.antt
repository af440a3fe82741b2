-- What a report prints of its nodes, as the types of the code hold it.
use Rattle.std.specs.Prelude.{ℕ, List, map, All, Option, Some, None}
use Rattle.cts_report.specs.Printed.{PrintedKind, sink_leaf, pair_node, PrintedNode}
use Rattle.cts_report_reader.specs.declared.node.ReportKind.{ReportKind}
use Rattle.cts_report_reader.specs.declared.node.ReportKind.TheVariants.{Leaf, TimedLeaf, Pair}
use Rattle.cts_report_reader.specs.declared.node.ReportNode.{ReportNode}
use Rattle.cts_report_reader.specs.declared.node.Tail.{Tail}
use Rattle.cts_report_reader.specs.NodeLine.{TailFound}
use Rattle.cts_report_reader.specs.Seen.{IsSeen, seen_point}

abbrev pub seen_tail : Tail → TailFound
seen_tail tail = (tail.delay, (tail.arrival, (tail.slew, (tail.wire, (map seen_point tail.corners, tt)))))

abbrev pub seen_buffer : Option ℕ → Option ℕ
seen_buffer buffer = buffer

abbrev pub seen_kind : ReportKind → PrintedKind
seen_kind (Leaf id) = sink_leaf id
seen_kind (TimedLeaf id arrival) = sink_leaf id
seen_kind (Pair left right buffer residue) = pair_node left right buffer residue

abbrev pub seen_arrival : ReportKind → Option ℕ
seen_arrival (Leaf id) = None
seen_arrival (TimedLeaf id arrival) = Some arrival
seen_arrival (Pair left right buffer residue) = None

abbrev pub seen_node : ReportNode → PrintedNode
seen_node node = record {
  kind = seen_kind node.kind;
  place = seen_point node.place;
  load = node.load;
  delay = node.delay;
  arrival = seen_arrival node.kind;
  slew = node.slew;
  wire = node.wire;
  corners = map seen_point node.corners;
}

-- the place and the corners have coordinates as a die can have
pub record IsSeenNode (node : ReportNode) : Type 0 where
  pub place : IsSeen node.place
  pub corners : All IsSeen node.corners

abbrev pub seen_nodes : List ReportNode → List PrintedNode
seen_nodes nodes = map seen_node nodes
