use Rattle.cts_edit.proofs.roster.append.Goals as goal

pub returns-in-Ok-clause-slots : goal.returns-in-Ok-clause-slots
returns-in-Ok-clause-slots c = c.in_ok-push.ensures.items
