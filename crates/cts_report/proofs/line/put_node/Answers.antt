use Rattle.std.proofs.Common.{sym, arith}
use Rattle.cts_io.proofs.Chains.{◌▸◌}
use Rattle.cts_report.specs.Lines.{node_line}
use Rattle.cts_report.proofs.line.put_node.Goals as goal

pub put_arrival-requires : goal.put_arrival-requires
put_arrival-requires g c = omega arith

pub returns : goal.returns
unfolding node_line
returns g c =
    rw (sym c.items.ensures, ← c.from.ensures)
    (c.put_whole.ensures ▸ c.put_name.ensures ▸ c.put.ensures ▸ c.put_place.ensures ▸ c.put_load.ensures ▸ c.put_delay.ensures
    ▸ c.put_arrival.ensures ▸ c.put_slew.ensures ▸ c.put_length.ensures ▸ c.put_corners.ensures ▸ c.put-2.ensures)
