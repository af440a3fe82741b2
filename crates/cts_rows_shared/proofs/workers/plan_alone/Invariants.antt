use Rattle.cts_rows_shared.proofs.workers.plan_alone.Given as goal

abbrev pub ghosts-plan_counted : goal.ghosts-plan_counted
ghosts-plan_counted a = record { name = a.blank.name; parts = a.blank.parts }
