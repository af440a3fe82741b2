use Rattle.cts_work.proofs.workers.make_piece.Given as goal

abbrev pub ghosts-make_counted : goal.ghosts-make_counted
ghosts-make_counted a = record { name = a.blank.name; parts = a.blank.parts }
