use Rattle.cts_picture.proofs.legend.has_buffer.Goals as goal

pub returns-in-Pair : goal.returns-in-Pair
returns-in-Pair c = rw c.in-Pair.is c.is_some.ensures
