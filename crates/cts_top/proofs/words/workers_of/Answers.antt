use Rattle.cts_top.proofs.words.workers_of.Goals as goal

pub returns : goal.returns
returns c = c.number.ensures
