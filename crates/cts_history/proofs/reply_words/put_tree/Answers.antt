use Rattle.cts_io.proofs.Chains.{◌▸◌, puts_nothing}
use Rattle.cts_history.proofs.reply_words.put_tree.Goals as goal

pub put_delay-requires : goal.put_delay-requires
put_delay-requires g c = c.requires

pub returns : goal.returns
returns g c =
    (rw c.from.ensures at c.put_labelled.ensures) ▸ (c.put_word.ensures ▸ (c.put_delay.ensures ▸ (c.put_word-2.ensures
    ▸ (c.put_length.ensures ▸ puts_nothing _ _))))
