use Rattle.std.proofs.Common.{ap, arith}
use Rattle.cts_deal.proofs.Keeps.{draws}
use Rattle.cts_deal.proofs.deal.Deal.draw.Goals as goal

pub fetch_add-requires : goal.fetch_add-requires
fetch_add-requires c = (
  c.requires.own.own,
  omega (arith, c.args.self.now.sized.0),
  draws _ _ _ _ c.requires.room,
)

pub returns-clause-drawn : goal.returns-clause-drawn
returns-clause-drawn c = ap (λ m. m.0.drawn) c.fetch_add.ensures.2.0
