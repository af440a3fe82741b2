use Rattle.cts_near.proofs.synthesis.synthesise_near.Given as goal

abbrev pub ghosts-synthesise_counted : goal.ghosts-synthesise_counted
ghosts-synthesise_counted a = record { name = a.blank.name; parts = a.blank.parts }
