use Rattle.std.proofs.Common.{◌≡◌}
use Rattle.cts_script.specs.Scripts.{scripts_of}
use Rattle.cts_script.proofs.read.scripts_of.Given as goal

abbrev pub invariant-loop-before : goal.invariant-loop-before
invariant-loop-before l = l.scripts.items ≡ scripts_of l.before l.asked
