use Rattle.std.proofs.Common.{ℕ, ◌<◌}
use Rattle.cts_check.specs.Rules.{MeetsBufferBlocked}
use Rattle.cts_check.proofs.buffers.first_blocked_buffer.Given as goal

abbrev pub invariant-loop-number : goal.invariant-loop-number
invariant-loop-number l = (j : ℕ) → j < l.number → MeetsBufferBlocked l.instance l.nodes j
