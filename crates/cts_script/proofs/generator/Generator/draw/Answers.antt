use Rattle.std.proofs.Common.{refl}
use Rattle.cts_script.specs.Generator.{next_state}
use Rattle.cts_script.proofs.generator.Generator.draw.Goals as goal

pub returns-clause-state : goal.returns-clause-state
unfolding next_state
returns-clause-state c = refl

pub returns-clause-drawn : goal.returns-clause-drawn
returns-clause-drawn c = refl
