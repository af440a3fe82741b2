use Rattle.cts_design.proofs.Sent.{design_shared}
use Rattle.cts_design.proofs.laws.design_is_shared.Goals as goal

pub returns : goal.returns
returns c = design_shared
