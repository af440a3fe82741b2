use Rattle.std.proofs.Common.{◌≡◌, ◌+◌, ◌≤◌, length}
use Rattle.cts_turn.specs.Passes.{seen_by}
use Rattle.cts_work.specs.Built.{GoesOn}
use Rattle.cts_work.specs.Numbered.{AreNumbered}
use Rattle.cts_work.proofs.publishing.bring_part.Given as goal

abbrev pub invariant-loop-place : goal.invariant-loop-place
invariant-loop-place g l =
    record {
      upto : l.place ≤ length l.part;
      pass : GoesOn l.work.memo.now l.fn.pass l.pass;
      long : length l.before.items ≡ length l.fn.before.items + l.place;
      before : AreNumbered (seen_by l.pass) l.work.sinks.now l.work.nodes.now l.before.items;
    }
