use Rattle.cts_near.proofs.search.gap_from.Goals as goal

pub returns : goal.returns
returns c = c.gap.ensures.value
