use Rattle.std.proofs.Common.{refl, ap, arith}
use Rattle.cts_io.specs.Lines.{LinesLeft}
use Rattle.cts_io.proofs.cursor.Lines.next.Goals as goal

pub returns-clause-number : goal.returns-clause-number
returns-clause-number c = omega (arith, ap (λ (s : LinesLeft). s.line) c.self.view_is)

pub returns-clause-after : goal.returns-clause-after
returns-clause-after c = refl
