use Rattle.cts_topo.proofs.Pivots.{turns_left}
use Rattle.cts_topo.proofs.divide.+add_tree.Given as goal

abbrev pub decreases-add_tree : goal.decreases-add_tree
decreases-add_tree l = turns_left l.wide l.along.now
