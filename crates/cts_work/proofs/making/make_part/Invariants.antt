use Rattle.std.proofs.Common.{◌≡◌, ◌+◌, ◌≤◌, length}
use Rattle.cts_work.specs.Work.{AreMade}
use Rattle.cts_work.proofs.making.make_part.Given as goal

abbrev pub invariant-loop-node : goal.invariant-loop-node
invariant-loop-node g l =
    record {
      from : l.first ≤ l.node;
      upto : l.node ≤ l.root + 1;
      long : l.first + length l.made.items ≡ l.node;
      made : AreMade l.work l.first l.made.items;
    }
