use Rattle.std.proofs.Common.{[], sym, subst, arith}
use Rattle.std.specs.List.{All}
use Rattle.std.proofs.lemmas.Int.{ints}
use Rattle.std.proofs.lemmas.List.Elements.{All-cons, All-nil}
use Rattle.cts_report.specs.Report.{IsOnSheet}
use Rattle.cts_use_check.proofs.tap.bent.Goals as goal

pub returns : goal.returns
returns c =
    subst (All IsOnSheet) (sym c.one.ensures)
    (All-cons IsOnSheet _ [] (record { x = omega (arith, ints); y = omega (arith, ints) }) (All-nil IsOnSheet))
