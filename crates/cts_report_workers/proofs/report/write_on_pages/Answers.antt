use Rattle.std.proofs.Common.{sym}
use Rattle.cts_io.proofs.Chains.{◌▸◌, written}
use Rattle.cts_report.specs.Report.{printed_report}
use Rattle.cts_report.proofs.Numbered.{length-printed_nodes, report_parts}
use Rattle.cts_report_workers.proofs.report.write_on_pages.Goals as goal

pub returns : goal.returns
returns g c =
    rw (
      sym c.version.ensures.part,
      report_parts c.version.result (printed_report c.version.result c.args.tree.now c.args.figures.now),
      length-printed_nodes c.version.result c.args.tree.now c.args.figures.now.nodes c.requires.printable.long,
      sym c.nodes.ensures.nodes,
      sym c.items.ensures,
    )
    (written c.new-out.ensures
    (c.put_head.ensures ▸ (c.put_rounds.ensures ▸ c.put_totals.ensures))
    c.finish.ensures)
