use Rattle.std.proofs.Common.{sym, subst}
use Rattle.cts_block.specs.NearestFree.{IsDieInRange}
use Rattle.cts_route.specs.Limits.{AreBlocksInRange}
use Rattle.cts_embed.proofs.Grounds.{blocks_in_range, die_in_range}
use Rattle.cts_rows.proofs.routes.route_among.Goals as goal

pub route-requires-clause-blocks : goal.route-requires-clause-blocks
route-requires-clause-blocks c =
    subst AreBlocksInRange (sym c.blocks-2.ensures.part) (blocks_in_range c.in_ok-walled.walled c.blocks-2.ensures.valid)

pub route-requires-clause-die : goal.route-requires-clause-die
route-requires-clause-die c = subst IsDieInRange (sym c.die-die.ensures.part) (die_in_range c.in_ok-walled.walled c.die-die.ensures.valid)
