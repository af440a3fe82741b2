use Rattle.std.proofs.Common.{◌≡◌, sym}
use Rattle.cts_instance.specs.declared.version.Version.TheVariants.{One, Two}
use Rattle.cts_io.proofs.Chains.{◌▸◌, written}
use Rattle.cts_report.specs.Lines.{summary_lines}
use Rattle.cts_report.proofs.report.write_summary.Goals as goal

one_is_not_two : One ≡ Two → ⊥
one_is_not_two e = cc

pub put_totals-requires-clause-arrivals : goal.put_totals-requires-clause-arrivals
put_totals-requires-clause-arrivals g c = λ two. absurd (one_is_not_two two)

pub returns : goal.returns
unfolding summary_lines
returns g c =
    rw (sym c.nodes.ensures.nodes)
    (written c.new-out.ensures (c.put.ensures ▸ (c.put_count.ensures ▸ c.put_totals.ensures)) c.finish.ensures)
