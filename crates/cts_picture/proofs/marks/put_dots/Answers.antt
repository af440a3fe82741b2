use Rattle.std.proofs.Common.{sym, take_all, arith}
use Rattle.cts_io.specs.Text.{Puts}
use Rattle.cts_io.proofs.Chains.{◌▸◌, puts_nothing}
use Rattle.cts_picture.specs.Sheet.{sink_text}
use Rattle.cts_picture.proofs.Pieces.{texts_step}
use Rattle.cts_picture.proofs.marks.put_dots.Goals as goal

pub loop-pin-init : goal.loop-pin-init
loop-pin-init g c = puts_nothing _ _

pub bounds-sinks-pin-index : goal.bounds-sinks-pin-index
bounds-sinks-pin-index g c = omega arith

pub loop-pin-smaller : goal.loop-pin-smaller
loop-pin-smaller g c = omega arith

pub put_sink-requires : goal.put_sink-requires
put_sink-requires g c = c.requires c.loop-pin.pin-index _ c.loop-pin-test.true

pub loop-pin-preserved : goal.loop-pin-preserved
loop-pin-preserved g c =
    texts_step (λ text. Puts g.K.ByteSink (c.args.sink.now, c.args.out.now) (c.put_sink.new.sink, c.put_sink.new.out) text)
    sink_text c.args.sinks.now c.loop-pin.pin-index _ c.loop-pin-test.true (c.loop-pin.invariant ▸ c.put_sink.ensures)

pub returns : goal.returns
returns g c =
    rw (sym (take_all c.loop-pin.pin-index c.args.sinks.now (omega (arith, c.loop-pin-test.false)))) c.loop-pin.invariant
