use Rattle.cts_io.proofs.Chains.{◌▸◌}
use Rattle.cts_script.specs.Text.{line_of}
use Rattle.cts_history.specs.History.{entry_line}
use Rattle.cts_history.proofs.history.put_entry.Goals as goal

pub returns : goal.returns
unfolding entry_line line_of
returns g c =
    (c.put_labelled.ensures
    ▸ ((rw c.from.ensures at c.put_labelled-2.ensures) ▸ ((rw c.from-2.ensures at c.put_labelled-3.ensures) ▸ c.put_edit.ensures)))
    ▸ c.put.ensures
