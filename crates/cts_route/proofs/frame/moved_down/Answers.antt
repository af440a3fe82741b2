use Rattle.std.proofs.Common.{arith}
use Rattle.cts_route.proofs.frame.moved_down.Goals as goal
use Rattle.cts_route.proofs.frame.moved_down.Goals.{then-line-bound, else-line-bound}

pub loop-line-init : goal.loop-line-init
loop-line-init c = omega arith

pub overflow_add-below : goal.overflow_add-below
overflow_add-below c = omega arith

pub loop-line-preserved : goal.loop-line-preserved
loop-line-preserved c = omega arith

pub offset_bounds-lines-below : goal.offset_bounds-lines-below
offset_bounds-lines-below c = omega arith

pub bounds-lines-below : goal.bounds-lines-below
bounds-lines-below c = omega arith
