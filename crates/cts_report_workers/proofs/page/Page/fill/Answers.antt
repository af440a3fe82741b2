use Rattle.cts_io.proofs.Chains.{written}
use Rattle.cts_report_workers.proofs.Said.{says_written}
use Rattle.cts_report_workers.proofs.page.Page.fill.Goals as goal

pub returns : goal.returns
returns c =
    says_written _ _ _ _ c.clear.ensures.text c.clear.ensures.faults (written c.new-out.ensures c.put_lines.ensures c.finish.ensures)
