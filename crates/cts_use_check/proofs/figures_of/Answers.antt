use Rattle.cts_use_check.proofs.figures_of.Goals as goal

pub returns : goal.returns
returns c =
    c.figures_in_range_are_printable.ensures _ _ c.requires.nodes c.in_ok-figures.ensures.one_each c.in_ok-figures.ensures.in_range
