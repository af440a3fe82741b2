use Rattle.std.proofs.Common.{arith}
use Rattle.cts_turn.proofs.Keeps.{draws}
use Rattle.cts_turn.proofs.turn.Turn.draw.Goals as goal

pub fetch_add-requires : goal.fetch_add-requires
fetch_add-requires g c = (
  c.requires.own,
  omega (arith, c.args.self.now.sized.0),
  draws g.O.Object.told g.O.Object.base _ _ _ _ c.requires.idle.0 c.requires.idle.1 c.requires.idle.2,
)

pub returns-clause-own : goal.returns-clause-own
returns-clause-own g c = c.fetch_add.ensures.0

pub returns-clause-ticket : goal.returns-clause-ticket
returns-clause-ticket g c = c.fetch_add.ensures.2
