use Rattle.std.proofs.Common.{arith, rules}
use Rattle.cts_near.proofs.Bounds.{bound_at_most, left_falls}
use Rattle.cts_near.proofs.search.closest.Goals as goal

pub loop-bounds-smaller : goal.loop-bounds-smaller
loop-bounds-smaller c =
    left_falls c.loop-bounds.bounds c.first_least-first.result c.nearest_later-second.result.1 (omega (arith, c.first_least-first.ensures.0))
    (omega (
      arith,
      bound_at_most c.args.subtrees.now c.loop-bounds.bounds c.first_least-first.result c.nearest_later-second.result.0
          c.nearest_later-second.result.1 c.loop-bounds.invariant c.nearest_later-second.ensures,
      c.if-gap-bounds.false,
    )) (search rules)
