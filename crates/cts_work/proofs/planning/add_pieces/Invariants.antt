use Rattle.std.proofs.Common.{◌≡◌, ℕ, ◌<◌, ◌≤◌, drop, length, slice_get}
use Rattle.cts_work.specs.Pieces.{AreInOrder, begins_at}
use Rattle.cts_work.specs.Plans.{joined}
use Rattle.cts_work.specs.Work.{AreMade}
use Rattle.cts_work.proofs.planning.add_pieces.Given as goal

abbrev pub invariant-loop-number : goal.invariant-loop-number
invariant-loop-number g l =
    record {
      upto : l.number ≤ length l.pieces;
      order : AreInOrder l.work.nodes.now (length (joined l.parts.items)) (drop l.number l.pieces) (length l.work.nodes.now);
      begins : length (joined l.parts.items) ≡ begins_at (drop l.number l.pieces) (length l.work.nodes.now);
      made : AreMade l.work 0 (joined l.parts.items);
      long : length l.slots.items ≡ length l.pieces;
      slots : (n : ℕ) → l.number ≤ n → n < length l.pieces → slice_get l.slots.items n ≡ slice_get l.fn.slots.items n;
    }
