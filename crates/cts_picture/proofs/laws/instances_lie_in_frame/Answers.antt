use Rattle.cts_picture.proofs.InFrame.{instances_lie_in_frame}
use Rattle.cts_picture.proofs.laws.instances_lie_in_frame.Goals as goal

pub returns : goal.returns
returns c = instances_lie_in_frame
