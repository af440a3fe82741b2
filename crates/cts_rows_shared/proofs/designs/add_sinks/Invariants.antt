use Rattle.std.proofs.Common.{◌≡◌}
use Rattle.cts_turn.specs.Passes.{share_of}
use Rattle.cts_design.specs.Passes.{IsPassOf}
use Rattle.cts_rows_shared.proofs.designs.add_sinks.Given as goal

abbrev pub invariant-loop-id : goal.invariant-loop-id
invariant-loop-id g l = record { own : IsPassOf l.design l.pass; share : share_of l.pass ≡ share_of l.fn.pass }
