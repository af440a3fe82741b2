use Rattle.std.proofs.Common.{pos, take_all, sym, subst}
use Rattle.cts_io.specs.Text.{Puts}
use Rattle.cts_io.proofs.Chains.{◌▸◌, puts_nothing}
use Rattle.cts_trunk.specs.declared.trunk.Repeater.{Repeater}
use Rattle.cts_trunk.specs.Lines.{repeater_lines}
use Rattle.cts_trunk.proofs.Numbered.{lines_before_more}
use Rattle.cts_trunk.proofs.text.put_repeaters.Goals as goal

-- what a list of repeaters gives past its end
abbrev no_repeater : Repeater
no_repeater = record { place = record { u = pos 0; v = pos 0 }; length = 0; load = 0; delay = 0; stage = 0 }

pub loop-number-init : goal.loop-number-init
unfolding repeater_lines
loop-number-init g c = puts_nothing _ _

pub loop-number-preserved : goal.loop-number-preserved
loop-number-preserved g c =
    subst (λ text. Puts g.K.ByteSink (c.args.sink.now, c.args.out.now) (c.put_repeater.new.sink, c.put_repeater.new.out) text)
    (sym (lines_before_more c.args.repeaters.now c.loop-number.number no_repeater c.loop-number-test.true))
    (c.loop-number.invariant ▸ c.put_repeater.ensures)

pub returns : goal.returns
returns g c =
    rw (sym (take_all c.loop-number.number c.args.repeaters.now c.loop-number-test.false))
    c.loop-number.invariant
