use Rattle.cts_check.proofs.Named.{AreNamedTo}
use Rattle.cts_check.proofs.places.named_sinks.Given as goal

abbrev pub invariant-loop-place : goal.invariant-loop-place
invariant-loop-place l = AreNamedTo l.sinks l.ids.items l.place
