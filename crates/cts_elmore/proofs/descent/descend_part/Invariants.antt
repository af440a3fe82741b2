use Rattle.std.specs.List.{AllZip}
use Rattle.cts_postorder.specs.PostOrder.{trees_of}
use Rattle.cts_tree.specs.Nodes.{children_from}
use Rattle.cts_elmore.specs.Subtrees.{IsKnownBelow}
use Rattle.cts_elmore.proofs.HandedDown.{IsDown}
use Rattle.cts_elmore.proofs.descent.descend_part.Given as goal

abbrev pub invariant-loop-number : goal.invariant-loop-number
invariant-loop-number l =
    IsDown l.instance l.first l.nodes l.fn.above l.number l.figures l.outputs.items l.load_met l.slew_met
    × AllZip (IsKnownBelow l.instance) (trees_of (children_from l.first) l.nodes) l.figures
