use Rattle.cts_embed.proofs.Beyond.{least_beyond_one}
use Rattle.cts_embed.proofs.laws.least_beyond_is_one.Goals as goal

pub returns : goal.returns
returns c = least_beyond_one
