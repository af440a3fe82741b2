use Rattle.std.proofs.Common.{refl}
use Rattle.cts_top.proofs.edit.with_version.Goals as goal

pub with_sinks-requires : goal.with_sinks-requires
with_sinks-requires c = c.requires

pub returns-clause-replies : goal.returns-clause-replies
returns-clause-replies c = refl
