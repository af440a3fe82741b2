use Rattle.cts_picture.proofs.InFrame.{wires_lie_in_frame}
use Rattle.cts_picture.proofs.laws.wires_lie_in_frame.Goals as goal

pub returns : goal.returns
returns c = wires_lie_in_frame
