use Rattle.cts_io.proofs.Chains.{◌▸◌, puts_nothing}
use Rattle.cts_script.specs.Text.{line_of}
use Rattle.cts_undo.proofs.write.put_moved.Goals as goal

pub returns : goal.returns
unfolding line_of
returns g c =
    c.put.ensures ▸ (c.put_count.ensures ▸ (c.put_word.ensures ▸ (c.put_count-2.ensures ▸ puts_nothing _ _))) ▸ c.put-2.ensures
