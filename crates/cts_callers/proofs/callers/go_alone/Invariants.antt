use Rattle.cts_callers.proofs.callers.go_alone.Given as goal

abbrev pub ghosts-go_counted : goal.ghosts-go_counted
ghosts-go_counted g a = record { name = a.blank.name; parts = a.blank.parts }
