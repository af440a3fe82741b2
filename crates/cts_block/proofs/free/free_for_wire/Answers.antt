use Rattle.std.proofs.Common.{refl, sym, subst}
use Rattle.std.specs.List.{All}
use Rattle.cts_geom.specs.declared.points.Half.{Half}
use Rattle.cts_block.specs.FreePoints.{IsHalfInDie, IsOpenToWires}
use Rattle.cts_block.proofs.free.free_for_wire.Goals as goal

pub returns-then-is_half_in_die : goal.returns-then-is_half_in_die
returns-then-is_half_in_die c =
    let point = c.halves-point.ensures.point in (
      λ test. record {
        in_die = subst (IsHalfInDie c.args.die.now) point (c.if-is_half_in_die.ensures.0 refl);
        clear = subst (λ (p : Half). All (IsOpenToWires p) c.args.blocks.now) point (c.are_open_to_wires.ensures.0 test);
      },
      λ free. c.are_open_to_wires.ensures.1 (subst (λ (p : Half). All (IsOpenToWires p) c.args.blocks.now) (sym point) free.clear),
    )

pub returns-else-is_half_in_die : goal.returns-else-is_half_in_die
returns-else-is_half_in_die c = (
  λ never. absurd (cc),
  λ free. c.is_half_in_die.ensures.1 (subst (IsHalfInDie c.args.die.now) (sym c.halves-point.ensures.point) free.in_die),
)
