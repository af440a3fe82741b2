use Rattle.cts_postorder.proofs.Stacks.{open_is_completable}
use Rattle.cts_postorder.proofs.laws.open_is_completable.Goals as goal

pub returns : goal.returns
returns c = open_is_completable
