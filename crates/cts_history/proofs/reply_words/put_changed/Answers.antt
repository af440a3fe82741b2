use Rattle.cts_io.proofs.Chains.{◌▸◌, puts_nothing}
use Rattle.cts_history.proofs.reply_words.put_changed.Goals as goal

pub returns-in-Accepted : goal.returns-in-Accepted
returns-in-Accepted g c = rw c.in-Accepted.is ((rw c.from.ensures at c.put_labelled.ensures) ▸ puts_nothing _ _)

pub returns-in-Refused : goal.returns-in-Refused
returns-in-Refused g c =
    rw c.in-Refused.is
    (c.put_word.ensures ▸ (c.put_cause.ensures ▸ ((rw c.from-in-Refused.ensures at c.put_labelled-in-Refused.ensures) ▸ puts_nothing _ _)))

pub returns-in-NoMemory : goal.returns-in-NoMemory
returns-in-NoMemory g c = rw c.in-NoMemory.is (puts_nothing _ _)
