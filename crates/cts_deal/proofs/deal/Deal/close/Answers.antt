use Rattle.std.proofs.Common.{arith}
use Rattle.cts_deal.proofs.Keeps.{closes, counts, fits}
use Rattle.cts_deal.proofs.deal.Deal.close.Goals as goal

pub overflow_cast-result : goal.overflow_cast-result
overflow_cast-result c = let few = fits _ _ _ _ c.requires.whole c.close_with-closed.ensures.values.2 _ c.word-count.ensures in omega arith

pub returns-clause-dealt : goal.returns-clause-dealt
returns-clause-dealt c = closes _ _ _ _ c.requires.whole c.close_with-closed.ensures.values.2

pub returns-clause-count : goal.returns-clause-count
returns-clause-count c = counts _ _ _ _ c.requires.whole c.close_with-closed.ensures.values.2 _ c.word-count.ensures
