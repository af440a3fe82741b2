use Rattle.std.proofs.Common.{refl}
use Rattle.cts_up.proofs.site.site_of.Goals as goal

pub returns : goal.returns
returns c = refl
