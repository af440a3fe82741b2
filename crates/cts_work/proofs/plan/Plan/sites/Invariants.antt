use Rattle.std.proofs.Common.{◌≡◌, map, take}
use Rattle.cts_up.specs.Sites.{site_of}
use Rattle.cts_work.specs.Plans.{joined}
use Rattle.cts_work.proofs.plan.Plan.sites.Given as goal

abbrev pub invariant-loop-part : goal.invariant-loop-part
invariant-loop-part l =
    record {
      sites : l.sites.items ≡ map site_of (joined (take l.part-index l.self.parts.items));
    }
