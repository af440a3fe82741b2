use Rattle.cts_near.proofs.pass.near.Given as goal

abbrev pub ghosts-near_counted : goal.ghosts-near_counted
ghosts-near_counted a = record { name = a.blank.name; parts = a.blank.parts }
