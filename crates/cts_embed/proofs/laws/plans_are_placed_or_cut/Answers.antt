use Rattle.cts_embed.proofs.PlacesExist.{plan_placed_or_cut}
use Rattle.cts_embed.proofs.laws.plans_are_placed_or_cut.Goals as goal

pub returns : goal.returns
returns c = plan_placed_or_cut
