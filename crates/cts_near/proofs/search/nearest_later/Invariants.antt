use Rattle.cts_near.proofs.Nearest.{NearestSoFar}
use Rattle.cts_near.proofs.search.nearest_later.Given as goal

abbrev pub invariant-loop-later : goal.invariant-loop-later
invariant-loop-later l = NearestSoFar l.subtrees l.subtree l.place l.later l.nearest l.least
