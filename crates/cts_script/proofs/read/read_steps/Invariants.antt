use Rattle.std.proofs.Common.{◌≡◌, ◌≤◌, [], length}
use Rattle.cts_read.specs.Grammar.{left_in}
use Rattle.cts_script.specs.Scripts.{AreAsked, steps_at}
use Rattle.cts_script.proofs.read.read_steps.Given as goal

-- the steps so far, and those that are left, are what all lines give
abbrev pub invariant-loop-asked : goal.invariant-loop-asked
invariant-loop-asked l = record {
  so_far : steps_at l.callers l.asked.items (left_in l.lines) ≡ steps_at l.callers [] (left_in l.fn.lines);
  few : length l.asked.items ≤ 65536;
  within : AreAsked l.asked.items;
}

abbrev pub decreases-loop-asked : goal.decreases-loop-asked
decreases-loop-asked l = length (left_in l.lines).lines
