use Prim.Native.Nat.{◌+◌, ◌-◌, ◌*◌}
use Rattle.cts_shape_workers.proofs.divide.+parts.Given as goal

abbrev pub decreases-add_tree_by : goal.decreases-add_tree_by
decreases-add_tree_by g l = 4 * l.workers

abbrev pub decreases-add_parts_by : goal.decreases-add_parts_by
decreases-add_parts_by g l = 4 * l.workers - 1

abbrev pub decreases-add_parts_by-back : goal.decreases-add_parts_by-back
decreases-add_parts_by-back g l = 4 * l.there + 1

abbrev pub decreases-add_parts_by-front : goal.decreases-add_parts_by-front
decreases-add_parts_by-front g l = 4 * l.here + 1
