use Rattle.std.proofs.Common.{◌≡◌, ◌+◌, take, length}
use Rattle.std.specs.List.{AllZip}
use Rattle.cts_postorder.specs.PostOrder.{trees_of}
use Rattle.cts_topo.specs.Shape.{children_from, leaf_sinks}
use Rattle.cts_up.specs.Ascending.{IsAscent}
use Rattle.cts_up.specs.Plan.{IsFinished}
use Rattle.cts_up.proofs.pass.up.Given as goal

abbrev pub invariant-loop-number : goal.invariant-loop-number
invariant-loop-number g l =
    record {
      ascent : IsAscent l.params l.sinks 0 l.nodes l.number l.ascent.named.items l.ascent.leaves l.ascent.waiting.items;
      plan : AllZip (IsFinished l.params l.sinks) (take l.number (trees_of (children_from 0) l.nodes)) l.plan.items;
      merges : l.steps + length (leaf_sinks (take l.number l.nodes)) ≡ l.fn.steps + l.number;
    }
