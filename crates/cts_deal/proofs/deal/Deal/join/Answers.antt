use Rattle.std.proofs.Common.{ap}
use Rattle.cts_deal.proofs.deal.Deal.join.Goals as goal

pub returns-clause-drawn : goal.returns-clause-drawn
returns-clause-drawn c = ap (λ m. m.0.drawn) c.join_seat.ensures.2

pub returns-clause-share : goal.returns-clause-share
returns-clause-share c = ap (λ m. m.0.share) c.join_seat.ensures.2
