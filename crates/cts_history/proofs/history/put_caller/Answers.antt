use Rattle.cts_io.proofs.Chains.{◌▸◌, puts_nothing}
use Rattle.cts_script.specs.Text.{line_of}
use Rattle.cts_history.specs.History.{caller_text}
use Rattle.cts_history.proofs.history.put_caller.Goals as goal

pub returns : goal.returns
unfolding caller_text line_of
returns g c =
    ((c.put_labelled.ensures ▸ (c.put_labelled-2.ensures ▸ puts_nothing _ _)) ▸ c.put.ensures)
    ▸ c.put_replies.ensures
