use Rattle.std.proofs.Common.{sym, take_all, arith}
use Rattle.cts_io.specs.Text.{Puts}
use Rattle.cts_io.proofs.Chains.{◌▸◌, puts_nothing}
use Rattle.cts_report.proofs.Numbered.{points_step}
use Rattle.cts_report.proofs.line.put_points.Goals as goal

pub loop-point-init : goal.loop-point-init
loop-point-init g c = puts_nothing _ _

pub bounds-points-point-index : goal.bounds-points-point-index
bounds-points-point-index g c = omega arith

pub loop-point-smaller : goal.loop-point-smaller
loop-point-smaller g c = omega arith

pub loop-point-preserved : goal.loop-point-preserved
loop-point-preserved g c =
    points_step (λ text. Puts g.K.ByteSink (c.args.sink.now, c.args.out.now) (c.put_point.new.sink, c.put_point.new.out) text)
    c.args.points.now c.loop-point.point-index _ c.loop-point-test.true (c.loop-point.invariant ▸ c.put_point.ensures)

pub returns : goal.returns
returns g c =
    rw (sym (take_all c.loop-point.point-index c.args.points.now (omega (arith, c.loop-point-test.false)))) c.loop-point.invariant
