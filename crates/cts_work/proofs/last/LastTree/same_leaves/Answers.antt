use Rattle.std.proofs.Common.{take, refl}
use Rattle.cts_work.proofs.Taken.{no_leaves}
use Rattle.cts_work.proofs.last.LastTree.same_leaves.Goals as goal

pub loop-sink-init : goal.loop-sink-init
loop-sink-init c =
    record {
      same = no_leaves c.args.self.now (take 0 c.args.sinks.now) c.in_ok-leaves.leaves.items refl c.in_ok-leaves.ensures.items;
    }
