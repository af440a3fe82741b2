use Rattle.cts_io.proofs.Chains.{◌▸◌, puts_nothing}
use Rattle.cts_trunk.specs.Lines.{closing_lines}
use Rattle.cts_trunk.proofs.text.put_closing.Goals as goal

pub returns : goal.returns
unfolding closing_lines
returns g c =
    c.put_root.ensures ▸ (c.put_delay_line.ensures ▸ (c.put_delay_line-2.ensures ▸ (c.put_delay_line-3.ensures
    ▸ (c.put_load_line.ensures ▸ (c.put_answer.ensures ▸ (c.put_answer-2.ensures ▸ (c.put.ensures ▸ puts_nothing _ _)))))))
