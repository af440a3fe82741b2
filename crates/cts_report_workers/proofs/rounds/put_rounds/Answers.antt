use Rattle.std.proofs.Common.{◌≡◌, ◌+◌, ◌*◌, length, sym, subst, arith}
use Rattle.cts_io.specs.Text.{Puts}
use Rattle.cts_io.proofs.Chains.{◌▸◌, puts_nothing}
use Rattle.cts_report_workers.specs.Stretches.{stretch_text}
use Rattle.cts_report_workers.proofs.Stretches.{stretch_none, stretch_on, stretch_whole}
use Rattle.cts_report_workers.proofs.rounds.put_rounds.Goals as goal

pub loop-first-init : goal.loop-first-init
loop-first-init g c =
    subst (λ text. Puts g.K.ByteSink (c.args.sink.now, c.args.out.now) (c.args.sink.now, c.args.out.now) text)
    (sym (stretch_none c.args.body.now 0)) (puts_nothing _ _)

pub loop-first-preserved : goal.loop-first-preserved
loop-first-preserved g c =
    let pages : length c.loop-first.pages ≡ length c.args.pages.now = omega (arith, c.loop-first.auto.pages) in
    subst (λ n. Puts g.K.ByteSink (c.args.sink.now, c.args.out.now) (c.put_round.new.sink, c.put_round.new.out)
    (stretch_text c.args.body.now 0 (c.loop-first.first + n * c.args.stretch))) pages
    (subst (λ text. Puts g.K.ByteSink (c.args.sink.now, c.args.out.now) (c.put_round.new.sink, c.put_round.new.out) text)
    (sym (stretch_on c.args.body.now c.loop-first.first (length c.loop-first.pages * c.args.stretch)))
    (◌▸◌ {y = stretch_text c.args.body.now c.loop-first.first (length c.loop-first.pages * c.args.stretch)} c.loop-first.invariant c.put_round.ensures))

pub returns : goal.returns
returns g c =
    rw (sym (stretch_whole c.args.body.now c.loop-first.first c.requires.ready.long (omega (arith, c.loop-first-test.false)))) c.loop-first.invariant
