use Rattle.std.proofs.Common.{sym}
use Rattle.cts_io.proofs.Chains.{◌▸◌, written}
use Rattle.cts_report.specs.Report.{printed_report}
use Rattle.cts_report.proofs.Numbered.{length-printed_nodes, report_parts}
use Rattle.cts_report.proofs.report.write_report.Goals as goal

pub put_totals-requires-clause-arrivals : goal.put_totals-requires-clause-arrivals
put_totals-requires-clause-arrivals g c = λ two. c.requires.arrivals

pub returns : goal.returns
returns g c =
    rw (
      sym c.version-version.ensures.part,
      report_parts c.version-version.result (printed_report c.version-version.result c.args.tree.now c.args.figures.now),
      length-printed_nodes c.version-version.result c.args.tree.now c.args.figures.now.nodes c.requires.long,
      sym c.nodes-nodes.ensures.nodes,
      sym c.items.ensures,
    )
    (written c.new-out.ensures
    (c.put_head.ensures ▸ (c.put_stretch.ensures ▸ c.put_totals.ensures))
    c.finish.ensures)
