use Rattle.std.proofs.Common.{◌+◌, ◌*◌, sym, subst}
use Rattle.cts_io.specs.Text.{Puts}
use Rattle.cts_io.proofs.Chains.{◌▸◌, puts_nothing}
use Rattle.cts_report_workers.specs.Stretches.{Says, stretch_text}
use Rattle.cts_report_workers.proofs.Stretches.{stretch_start, stretch_more}
use Rattle.cts_report_workers.proofs.rounds.put_pages.Goals as goal

pub loop-number-init : goal.loop-number-init
loop-number-init g c =
    subst (λ text. Puts g.K.ByteSink (c.args.sink.now, c.args.out.now) (c.args.sink.now, c.args.out.now) text)
    (sym (stretch_start c.args.body.now c.args.first c.args.stretch)) (puts_nothing _ _)

pub loop-number-preserved : goal.loop-number-preserved
loop-number-preserved g c =
    subst (λ text. Puts g.K.ByteSink (c.args.sink.now, c.args.out.now) (c.put_page.new.sink, c.put_page.new.out) text)
    (sym (stretch_more c.args.body.now c.args.first c.args.stretch c.loop-number.number))
    (c.loop-number.invariant ▸ c.put_page.ensures)

pub put_page-requires-clause-says : goal.put_page-requires-clause-says
put_page-requires-clause-says g c =
    subst (λ page. Says page (stretch_text c.args.body.now (c.args.first + c.loop-number.number * c.args.stretch) c.args.stretch))
    (sym c.index-pages-number.is) (c.requires.filled c.loop-number.number c.index-pages-number.result c.loop-number-test.true)
