use Rattle.std.proofs.Common.{ap}
use Rattle.cts_deal.proofs.deal.Deal.split.Goals as goal

pub returns-clause-share : goal.returns-clause-share
returns-clause-share c = (ap (λ m. m.0.share) c.split_seat-other.ensures.2, ap (λ m. m.0.share) c.split_seat-other.ensures.4)
