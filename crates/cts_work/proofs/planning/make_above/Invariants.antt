use Rattle.std.proofs.Common.{◌≡◌, ◌≤◌, ◌++◌, length}
use Rattle.cts_work.specs.Plans.{joined}
use Rattle.cts_work.specs.Work.{AreMade}
use Rattle.cts_work.proofs.planning.make_above.Given as goal

abbrev pub invariant-loop-node : goal.invariant-loop-node
invariant-loop-node g l =
    record {
      upto : l.node ≤ l.to;
      long : length (joined l.parts ++ l.part.items) ≡ l.node;
      made : AreMade l.work 0 (joined l.parts ++ l.part.items);
    }
