use Rattle.cts_work.proofs.pieces.+divide.Given as goal

-- proposed from what the function passes where it calls itself
abbrev pub decreases-divide : goal.decreases-divide
decreases-divide l = l.lots
