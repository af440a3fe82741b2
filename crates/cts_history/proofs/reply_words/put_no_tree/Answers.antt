use Rattle.cts_io.proofs.Chains.{◌▸◌, puts_nothing}
use Rattle.cts_history.proofs.reply_words.put_no_tree.Goals as goal

pub returns-in-Beyond : goal.returns-in-Beyond
returns-in-Beyond g c =
    rw c.in-Beyond.is
    ((rw c.from.ensures at c.put_labelled.ensures) ▸ ((rw c.from-in-Beyond.ensures at c.put_labelled-in-Beyond.ensures) ▸ puts_nothing _ _))

pub returns-in-Cut : goal.returns-in-Cut
returns-in-Cut g c =
    rw c.in-Cut.is
    ((rw c.from-in-Cut.ensures at c.put_labelled-in-Cut.ensures)
    ▸ ((rw c.from-in-Cut-2.ensures at c.put_labelled-in-Cut-2.ensures) ▸ puts_nothing _ _))

pub returns-in-NoMemory : goal.returns-in-NoMemory
returns-in-NoMemory g c = rw c.in-NoMemory.is (puts_nothing _ _)
