use Rattle.std.proofs.Common.{◌≡◌, ◌≤ℤ◌, ◌-ℤ◌}
use Rattle.std.specs.Prelude.{unsigned_abs}
use Rattle.cts_block.specs.declared.whole.Whole.{Whole}
use Rattle.cts_block.specs.FreePoints.{IsHalfInDie}
use Rattle.cts_block.specs.Search.{IsFreeAmong, half_of}
use Rattle.cts_block.proofs.search.fall.Given as goal

abbrev pub invariant-loop-block : goal.invariant-loop-block
invariant-loop-block g l = record {
  column : l.at.x ≡ l.fn.from.x;
  below : l.at.y ≤ℤ l.fn.from.y;
  in_die : IsHalfInDie l.die (half_of l.at);
  first : (q : Whole) → IsFreeAmong (g.O.Obstacles.counts l.obstacles) l.die q → q.x ≡ l.at.x → q.y ≤ℤ l.fn.from.y → q.y ≤ℤ l.at.y;
}

abbrev pub decreases-loop-block : goal.decreases-loop-block
decreases-loop-block g l = unsigned_abs (l.at.y -ℤ l.die.y1)
