use Rattle.std.proofs.Common.{sym}
use Rattle.cts_io.proofs.Chains.{◌▸◌, written}
use Rattle.cts_report.proofs.Numbered.{concat-append}
use Rattle.cts_trunk.specs.Lines.{trunk_lines, repeater_lines, closing_lines}
use Rattle.cts_trunk.proofs.text.write_trunk.Goals as goal

pub returns : goal.returns
unfolding trunk_lines closing_lines
returns g c =
    rw (
      concat-append (repeater_lines 1 c.args.trunk.now.repeaters) (closing_lines c.args.trunk.now),
      sym c.items-repeaters.ensures,
    )
    (written c.new-out.ensures
    (c.put.ensures ▸ (c.put_count.ensures ▸ (c.put_repeaters.ensures ▸ c.put_closing.ensures)))
    c.finish.ensures)
