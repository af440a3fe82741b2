use Rattle.cts_io.proofs.Chains.{◌▸◌}
use Rattle.cts_report.specs.Lines.{arrival_lines, closing_lines, total_lines}
use Rattle.cts_report.specs.Report.{printed_arrivals, printed_totals}
use Rattle.cts_report.proofs.Numbered.{concat-append}
use Rattle.cts_report.proofs.report.put_totals.Goals as goal

pub put_arrivals-requires-clause-greatest : goal.put_arrivals-requires-clause-greatest
put_arrivals-requires-clause-greatest g c = λ two. (c.requires.arrivals two).greatest

pub put_arrivals-requires-clause-least : goal.put_arrivals-requires-clause-least
put_arrivals-requires-clause-least g c = λ two. (c.requires.arrivals two).least

pub returns : goal.returns
unfolding total_lines closing_lines
returns g c =
    let figures = c.args.figures.now in
    rw (concat-append (arrival_lines (printed_arrivals c.args.version figures.arrival_greatest figures.arrival_least))
    (closing_lines (printed_totals c.args.version figures)))
    (c.put_load_line.ensures ▸ (c.put_length_line.ensures ▸ (c.put_delay_line.ensures ▸ (c.put_delay_line-2.ensures
    ▸ (c.put_arrivals.ensures ▸ (c.put_delay_line-3.ensures ▸ (c.put_delay_line-4.ensures ▸ (c.put_answer.ensures
    ▸ (c.put_answer-2.ensures ▸ c.put.ensures)))))))))
