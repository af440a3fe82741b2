use Rattle.std.proofs.Common.{◌≡◌, length}
use Rattle.cts_shape_workers.proofs.places.room_for.Given as goal

abbrev pub invariant-loop : goal.invariant-loop
invariant-loop l = length l.room.items ≡ l.counter
