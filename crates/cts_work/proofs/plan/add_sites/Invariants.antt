use Rattle.std.proofs.Common.{◌≡◌, ◌++◌, map, take}
use Rattle.cts_up.specs.Sites.{site_of}
use Rattle.cts_work.proofs.plan.add_sites.Given as goal

abbrev pub invariant-loop-finished : goal.invariant-loop-finished
invariant-loop-finished l =
    record {
      sites : l.sites.items ≡ l.fn.sites.items ++ map site_of (take l.finished-index l.nodes);
    }
