use Rattle.cts_callers.proofs.edit.draw_last.Given as goal

abbrev pub ghosts-draw_counted : goal.ghosts-draw_counted
ghosts-draw_counted g a = record { name = a.blank.name; parts = a.blank.parts }
