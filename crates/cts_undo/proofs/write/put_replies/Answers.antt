use Rattle.cts_io.proofs.Chains.{◌▸◌, puts_nothing}
use Rattle.cts_script.specs.Text.{line_of}
use Rattle.cts_undo.specs.ReplayText.{replies_text}
use Rattle.cts_undo.proofs.write.put_replies.Goals as goal

pub returns : goal.returns
unfolding replies_text line_of
returns g c =
    (c.put.ensures ▸ (c.put_count.ensures ▸ (c.put_word.ensures ▸ (c.put_whole.ensures ▸ puts_nothing _ _))) ▸ c.put-2.ensures)
    ▸ c.put_lines.ensures
