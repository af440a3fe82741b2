use Rattle.std.proofs.Common.{◌≡◌, take}
use Rattle.cts_script.specs.Scripts.{steps_of}
use Rattle.cts_script.proofs.read.steps_of.Given as goal

abbrev pub invariant-loop-a : goal.invariant-loop-a
invariant-loop-a l = l.steps.items ≡ steps_of l.caller (take l.a-index l.asked)
