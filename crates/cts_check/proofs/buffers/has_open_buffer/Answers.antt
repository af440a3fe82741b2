use Rattle.cts_check.proofs.SeenSpots.{spot_in_range}
use Rattle.cts_check.proofs.buffers.has_open_buffer.Goals as goal

pub is_open_to_buffers-requires : goal.is_open_to_buffers-requires
is_open_to_buffers-requires c = spot_in_range c.args.node.now.place c.requires.place
