use Rattle.std.proofs.Common.{◌≡◌, ◌≤◌, [], length}
use Rattle.cts_read.specs.Grammar.{left_in}
use Rattle.cts_script.specs.Replays.{AreReplayed, replay_steps_at}
use Rattle.cts_script.proofs.replay.read_replay_steps.Given as goal

-- the steps so far, and those that are left, are what all lines give
abbrev pub invariant-loop-steps : goal.invariant-loop-steps
invariant-loop-steps l = record {
  so_far : replay_steps_at l.steps.items (left_in l.lines) ≡ replay_steps_at [] (left_in l.fn.lines);
  few : length l.steps.items ≤ 65536;
  within : AreReplayed l.steps.items;
}

abbrev pub decreases-loop-steps : goal.decreases-loop-steps
decreases-loop-steps l = length (left_in l.lines).lines
