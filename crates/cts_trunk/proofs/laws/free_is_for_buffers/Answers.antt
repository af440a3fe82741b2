use Rattle.cts_trunk.proofs.Freedom.{free_is_for_buffers_lem}
use Rattle.cts_trunk.proofs.laws.free_is_for_buffers.Goals as goal

pub returns : goal.returns
returns c = free_is_for_buffers_lem
