use Rattle.std.proofs.Common.{◌<◌, ◌<ℤ◌, length}
use Rattle.cts_route.specs.LineLists.{line_at}
use Rattle.cts_route.proofs.lines.room_for.Given as goal

abbrev pub invariant-loop-after : goal.invariant-loop-after
invariant-loop-after l = l.after < length l.lines → l.line <ℤ line_at l.lines l.after
