use Rattle.cts_io.proofs.Chains.{◌▸◌, written}
use Rattle.cts_script.specs.Text.{line_of}
use Rattle.cts_history.specs.History.{history_text}
use Rattle.cts_history.proofs.history.write_history.Goals as goal

pub returns : goal.returns
unfolding history_text line_of
returns g c =
    written c.new-out.ensures
    (c.put.ensures ▸ c.put_length_of.ensures ▸ c.put_entries.ensures ▸ c.put_callers.ensures ▸ c.put-2.ensures)
    c.finish.ensures
