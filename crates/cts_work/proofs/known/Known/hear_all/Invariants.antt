use mathlib.Core.List.{IsPrefix}
use Rattle.cts_turn.specs.Passes.{seen_by}
use Rattle.cts_work.specs.Built.{GoesOn}
use Rattle.cts_work.specs.Known.{IsKnown}
use Rattle.cts_work.proofs.known.Known.hear_all.Given as goal

abbrev pub invariant-loop : goal.invariant-loop
invariant-loop g l =
    record {
      pass : GoesOn l.memo l.fn.pass l.pass;
      known : IsKnown (seen_by l.pass) l.self;
      more : IsPrefix l.fn.self.nodes.items l.self.nodes.items;
    }
