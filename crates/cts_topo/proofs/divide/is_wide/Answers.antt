-- The ends of the two lists tell the extents.
use Rattle.std.proofs.Common.{true, false, ◌-◌, length, sym, arith}
use Rattle.cts_topo.proofs.Shuffles.{length-Shuffled}
use Rattle.cts_topo.proofs.Extents.{ends_rise, ends_tell}
use Rattle.cts_topo.proofs.divide.is_wide.Goals as goal

pub bounds-by_y-last : goal.bounds-by_y-last
bounds-by_y-last c = omega (arith, length-Shuffled c.requires.same, c.requires.some)

pub bounds-by_y-0 : goal.bounds-by_y-0
bounds-by_y-0 c = omega (arith, length-Shuffled c.requires.same, c.requires.some)

pub overflow_sub-result : goal.overflow_sub-result
overflow_sub-result c =
    ends_rise true c.args.by_x.now (length c.args.by_x.now - 1) _ _ c.requires.by_x (omega (arith, c.requires.some))

pub overflow_sub-result-2 : goal.overflow_sub-result-2
overflow_sub-result-2 c =
    ends_rise false c.args.by_y.now (length c.args.by_x.now - 1) _ _ c.requires.by_y
    (omega (arith, length-Shuffled c.requires.same, c.requires.some))

pub returns : goal.returns
returns c =
    sym (ends_tell c.args.by_x.now c.args.by_y.now (length c.args.by_x.now - 1) _ _ _ _ c.requires.by_x c.requires.by_y c.requires.same
    (omega (arith, c.requires.some)) (omega (arith, length-Shuffled c.requires.same, c.requires.some)))
