use Rattle.std.proofs.lemmas.List.{take_rest}
use Rattle.std.proofs.Math.Seq.{drop-length}
use Rattle.cts_io.proofs.Pieces.{lines_of-first, lines_of-last, taken-first, taken-last}
use Rattle.cts_io.proofs.cursor.split_line.Goals as goal

pub returns-in-Some-clause-lines : goal.returns-in-Some-clause-lines
returns-in-Some-clause-lines c =
    rw take_rest (lines_of-first _ _ _ c.in-Some.ensures c.without_cr.ensures)

pub returns-in-None-clause-lines : goal.returns-in-None-clause-lines
returns-in-None-clause-lines c =
    rw (take_rest, drop-length) (lines_of-last _ _ c.requires c.in-None.ensures c.without_cr-in-None.ensures)

pub returns-in-Some-clause-taken : goal.returns-in-Some-clause-taken
returns-in-Some-clause-taken c =
    rw take_rest (taken-first _ _ _ c.in-Some.ensures c.without_cr.ensures)

pub returns-in-None-clause-taken : goal.returns-in-None-clause-taken
returns-in-None-clause-taken c =
    rw (take_rest, drop-length) (taken-last _ _ c.without_cr-in-None.ensures)
