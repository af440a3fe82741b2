use Rattle.std.proofs.Common.{◌≡◌, take, drop}
use Rattle.std.specs.List.{AllZip}
use Rattle.std.specs.Slice.Iter.{iter_rest}
use Rattle.cts_postorder.specs.PostOrder.{trees_of}
use Rattle.cts_tree.specs.Nodes.{children_from}
use Rattle.cts_elmore.specs.Loads.{leaf_pins}
use Rattle.cts_elmore.specs.Subtrees.{IsSubtree, IsKnownBelow}
use Rattle.cts_postorder.specs.Waiting.{AreWaiting}
use Rattle.cts_elmore.proofs.subtree.gather.Given as goal

abbrev pub invariant-loop-number : goal.invariant-loop-number
invariant-loop-number l =
    AreWaiting (children_from 0) l.nodes (IsSubtree l.instance) l.number l.waiting.items
    × AllZip (IsKnownBelow l.instance) (take l.number (trees_of (children_from 0) l.nodes)) l.figures.items
    × (iter_rest l.left ≡ leaf_pins l.instance (drop l.number l.nodes))
