use Rattle.cts_work.proofs.planning.plan_of.Given as goal

abbrev pub ghosts-plan_counted : goal.ghosts-plan_counted
ghosts-plan_counted a = record { name = a.blank.name; parts = a.blank.parts }
