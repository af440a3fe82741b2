use Rattle.std.proofs.Common.{◌≡◌, take}
use Rattle.cts_work.specs.Plans.{joined}
use Rattle.cts_work.proofs.plan.Plan.to_list.Given as goal

abbrev pub invariant-loop-part : goal.invariant-loop-part
invariant-loop-part l =
    record {
      list : l.list.items ≡ joined (take l.part-index l.self.parts.items);
    }
