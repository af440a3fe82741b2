use Rattle.std.proofs.Common.{ap, arith}
use Rattle.cts_geom.specs.declared.points.Half.{Half}
use Rattle.cts_trunk.proofs.look.room_in_block.Goals as goal

pub returns-clause-inside : goal.returns-clause-inside
returns-clause-inside c = λ e d at_is short. record {
  x = c.room_across.ensures.inside e d (ap (λ (p : Half). p.x) at_is) (omega (arith, short, c.min.ensures));
  y = c.room_along.ensures.inside e d (ap (λ (p : Half). p.y) at_is) (omega (arith, short, c.min.ensures));
}
