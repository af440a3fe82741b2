use Rattle.std.proofs.Common.{sym, take_all, arith}
use Rattle.cts_io.specs.Text.{Puts}
use Rattle.cts_io.proofs.Chains.{◌▸◌, puts_nothing}
use Rattle.cts_report_reader.specs.Seen.{seen_point}
use Rattle.cts_report.specs.Lines.{point_words}
use Rattle.cts_picture.proofs.Pieces.{seen_step}
use Rattle.cts_picture.proofs.wire.put_points.Goals as goal

pub loop-point-init : goal.loop-point-init
loop-point-init g c = puts_nothing _ _

pub bounds-points-point-index : goal.bounds-points-point-index
bounds-points-point-index g c = omega arith

pub loop-point-smaller : goal.loop-point-smaller
loop-point-smaller g c = omega arith

pub put_point-requires : goal.put_point-requires
put_point-requires g c = c.requires c.loop-point.point-index _ c.loop-point-test.true

pub loop-point-preserved : goal.loop-point-preserved
loop-point-preserved g c =
    seen_step (λ text. Puts g.K.ByteSink (c.args.sink.now, c.args.out.now) (c.put_point.new.sink, c.put_point.new.out) text)
    point_words seen_point c.args.points.now c.loop-point.point-index _ c.loop-point-test.true (c.loop-point.invariant ▸ c.put_point.ensures)

pub returns : goal.returns
returns g c =
    rw (sym (take_all c.loop-point.point-index c.args.points.now (omega (arith, c.loop-point-test.false)))) c.loop-point.invariant
