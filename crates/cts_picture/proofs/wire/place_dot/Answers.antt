use Rattle.std.proofs.Common.{◌∙◌, ℕ, ap, ap₂, w64}
use Rattle.std.proofs.lemmas.Int.{to_z-of_z}
use Rattle.cts_report.specs.Printed.{PrintedPoint}
use Rattle.cts_picture.specs.Frame.{drawn}
use Rattle.cts_picture.proofs.wire.place_dot.Goals as goal

abbrev at : ℕ → ℕ → PrintedPoint
at x y = record { x = x; y = y }

pub returns-clause-seen : goal.returns-clause-seen
returns-clause-seen c =
    ap₂ at
    (c.drawn.ensures.same ∙ ap drawn (to_z-of_z w64 c.args.x c.ranges.x))
    (c.drawn-2.ensures.same ∙ ap drawn (to_z-of_z w64 c.args.y c.ranges.y))

pub returns-clause-dot : goal.returns-clause-dot
returns-clause-dot c = record { x = c.drawn.ensures.bound; y = c.drawn-2.ensures.bound }
