use Rattle.cts_rows_shared.proofs.rebuilds.plan_of.Given as goal

abbrev pub ghosts-counted : goal.ghosts-counted
ghosts-counted g a = record { name = a.blank.name; parts = a.blank.parts }
