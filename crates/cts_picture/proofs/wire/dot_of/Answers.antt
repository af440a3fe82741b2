use Rattle.std.proofs.Common.{◌∙◌, ◌*◌, ◌≤◌, ℕ, ap, ap₂, arith}
use Rattle.std.specs.Prelude.{unsigned_abs}
use Rattle.cts_report.specs.Printed.{PrintedPoint}
use Rattle.cts_picture.proofs.Found.{five_within, whole}
use Rattle.cts_picture.proofs.wire.dot_of.Goals as goal

abbrev five : ℕ → ℕ → PrintedPoint
five x y = record { x = 5 * x; y = 5 * y }

few : 200000000 ≤ 200000000
few = omega arith

pub returns-clause-seen : goal.returns-clause-seen
returns-clause-seen c =
    ap₂ five
    (c.unsigned_abs.ensures.value ∙ ap unsigned_abs (whole c.args.point.x 200000000 few (c.requires.x.0) (c.requires.x.1)))
    (c.unsigned_abs-2.ensures.value ∙ ap unsigned_abs (whole c.args.point.y 200000000 few (c.requires.y.0) (c.requires.y.1)))

pub returns-clause-dot : goal.returns-clause-dot
returns-clause-dot c = record {
  x = five_within c.unsigned_abs.result c.args.point.x
      (c.unsigned_abs.ensures.value ∙ ap unsigned_abs (whole c.args.point.x 200000000 few (c.requires.x.0) (c.requires.x.1)))
      (c.requires.x.0) (c.requires.x.1);
  y = five_within c.unsigned_abs-2.result c.args.point.y
      (c.unsigned_abs-2.ensures.value ∙ ap unsigned_abs (whole c.args.point.y 200000000 few (c.requires.y.0) (c.requires.y.1)))
      (c.requires.y.0) (c.requires.y.1);
}
