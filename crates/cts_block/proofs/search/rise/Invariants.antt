use Rattle.std.proofs.Common.{◌≡◌, ◌≤ℤ◌, ◌-ℤ◌}
use Rattle.std.specs.Prelude.{unsigned_abs}
use Rattle.cts_block.specs.declared.whole.Whole.{Whole}
use Rattle.cts_block.specs.FreePoints.{IsHalfInDie}
use Rattle.cts_block.specs.Search.{IsFreeAmong, half_of}
use Rattle.cts_block.proofs.search.rise.Given as goal

abbrev pub invariant-loop-block : goal.invariant-loop-block
invariant-loop-block g l = record {
  column : l.at.x ≡ l.fn.from.x;
  above : l.fn.from.y ≤ℤ l.at.y;
  in_die : IsHalfInDie l.die (half_of l.at);
  first : (q : Whole) → IsFreeAmong (g.O.Obstacles.counts l.obstacles) l.die q → q.x ≡ l.at.x → l.fn.from.y ≤ℤ q.y → l.at.y ≤ℤ q.y;
}

abbrev pub decreases-loop-block : goal.decreases-loop-block
decreases-loop-block g l = unsigned_abs (l.die.y2 -ℤ l.at.y)
