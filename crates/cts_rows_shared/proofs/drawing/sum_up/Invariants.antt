use Rattle.cts_rows_shared.proofs.drawing.sum_up.Given as goal

abbrev pub ghosts-totals_counted : goal.ghosts-totals_counted
ghosts-totals_counted g a = record { name = a.blank.name; parts = a.blank.parts }
