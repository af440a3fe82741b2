use Rattle.std.proofs.Common.{sym, subst}
use Rattle.cts_block.specs.NearestFree.{IsDieInRange}
use Rattle.cts_route.specs.Limits.{AreBlocksInRange}
use Rattle.cts_embed.proofs.Grounds.{blocks_in_range, die_in_range}
use Rattle.cts_rows.proofs.routes.end_on_grid.Goals as goal

pub of-requires-clause-blocks : goal.of-requires-clause-blocks
of-requires-clause-blocks c =
    subst AreBlocksInRange (sym c.blocks-2.ensures.part) (blocks_in_range c.in_ok-walled.walled c.blocks-2.ensures.valid)

pub of-requires-clause-die : goal.of-requires-clause-die
of-requires-clause-die c = subst IsDieInRange (sym c.die.ensures.part) (die_in_range c.in_ok-walled.walled c.die.ensures.valid)
