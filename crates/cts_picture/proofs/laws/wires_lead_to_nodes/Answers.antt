use Rattle.cts_picture.proofs.InFrame.{wires_lead_to_nodes}
use Rattle.cts_picture.proofs.laws.wires_lead_to_nodes.Goals as goal

pub returns : goal.returns
returns c = wires_lead_to_nodes
