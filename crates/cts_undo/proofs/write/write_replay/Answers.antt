use Rattle.cts_io.proofs.Chains.{◌▸◌, written}
use Rattle.cts_script.specs.Text.{line_of}
use Rattle.cts_undo.specs.ReplayText.{replay_text}
use Rattle.cts_undo.proofs.write.write_replay.Goals as goal

pub returns : goal.returns
unfolding replay_text line_of
returns g c =
    written c.new-out.ensures
    (c.put.ensures ▸ c.put_length_of.ensures ▸ c.put_entries.ensures ▸ c.put_replies.ensures ▸ c.put-2.ensures)
    c.finish.ensures
