use Rattle.std.proofs.Common.{◌≡◌, length}
use Rattle.cts_tree_workers.proofs.figures.figures_room.Given as goal

abbrev pub invariant-loop : goal.invariant-loop
invariant-loop l = length l.room.items ≡ l.counter
