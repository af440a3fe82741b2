use Rattle.std.proofs.Common.{◌*◌, ◌≤◌, arith}
use Rattle.std.proofs.Math.Nat.{mul-le-mul}
use Rattle.cts_block.proofs.raster.side_for.Goals as goal

pub loop-side-init : goal.loop-side-init
loop-side-init c = (omega arith, omega arith)

pub overflow_mul-side : goal.overflow_mul-side
overflow_mul-side c = let few : c.loop-side.side * c.loop-side.side ≤ 64 * 64 = mul-le-mul c.loop-side.invariant.1 c.loop-side.invariant.1 in omega (arith, few)

pub overflow_add-side : goal.overflow_add-side
overflow_add-side c = omega arith

pub loop-side-smaller : goal.loop-side-smaller
loop-side-smaller c = omega arith

pub loop-side-preserved : goal.loop-side-preserved
loop-side-preserved c = (omega arith, omega arith)

pub returns-else-side-blocks-clause-some : goal.returns-else-side-blocks-clause-some
returns-else-side-blocks-clause-some c = c.loop-side.invariant.0

pub returns-else-side-blocks-clause-few : goal.returns-else-side-blocks-clause-few
returns-else-side-blocks-clause-few c = c.loop-side.invariant.1

pub returns-after-loop-side-clause-some : goal.returns-after-loop-side-clause-some
returns-after-loop-side-clause-some c = c.loop-side.invariant.0

pub returns-after-loop-side-clause-few : goal.returns-after-loop-side-clause-few
returns-after-loop-side-clause-few c = c.loop-side.invariant.1
