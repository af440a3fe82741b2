use Rattle.cts_work.proofs.past.Past.keep_no_tree.Goals as goal

pub returns-then-is_too_much : goal.returns-then-is_too_much
returns-then-is_too_much c seen past = c.nothing.ensures seen
