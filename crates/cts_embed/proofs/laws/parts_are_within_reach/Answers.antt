use Rattle.cts_embed.proofs.Reach.{parts_within_reach}
use Rattle.cts_embed.proofs.laws.parts_are_within_reach.Goals as goal

pub returns : goal.returns
returns c = parts_within_reach
