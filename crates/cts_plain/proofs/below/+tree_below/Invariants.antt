use Rattle.std.proofs.Common.{ℕ}
use Rattle.cts_plain.proofs.below.+tree_below.Given as goal

abbrev pub decreases-tree_below : goal.decreases-tree_below
decreases-tree_below l = l.number
