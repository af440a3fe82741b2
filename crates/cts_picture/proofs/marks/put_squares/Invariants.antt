use Rattle.std.proofs.Common.{take, map}
use Rattle.std.specs.List.{flat_map}
use Rattle.cts_io.specs.Text.{Puts}
use Rattle.cts_report_reader.specs.Nodes.{seen_node}
use Rattle.cts_picture.specs.Sheet.{buffer_text}
use Rattle.cts_picture.proofs.marks.put_squares.Given as goal

abbrev pub invariant-loop-node : goal.invariant-loop-node
invariant-loop-node g l =
    Puts g.K.ByteSink (l.fn.sink, l.fn.out) (l.sink, l.out)
    (flat_map (λ node. buffer_text l.stroke node.place node.kind) (map seen_node (take l.node-index l.nodes)))
