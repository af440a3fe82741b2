use Rattle.std.proofs.Common.{◌≡◌, length, take}
use Rattle.cts_turn.specs.Passes.{seen_by}
use Rattle.cts_work.specs.Built.{GoesOn}
use Rattle.cts_work.specs.Numbered.{AreNumbered}
use Rattle.cts_work.specs.Plans.{joined}
use Rattle.cts_work.proofs.publishing.bring_nodes.Given as goal

abbrev pub invariant-loop-number : goal.invariant-loop-number
invariant-loop-number g l =
    record {
      pass : GoesOn l.work.memo.now l.fn.pass l.pass;
      long : length l.before.items ≡ length (joined (take l.number l.plan.parts.items));
      before : AreNumbered (seen_by l.pass) l.work.sinks.now l.work.nodes.now l.before.items;
    }
