use Rattle.std.proofs.Common.{arith}
use Rattle.cts_io.proofs.Chains.{◌▸◌}
use Rattle.cts_io.proofs.Given.{puts_kept}
use Rattle.cts_io.proofs.buffer.SinkBuffer.put_over.Goals as goal

pub keep-requires : goal.keep-requires
keep-requires g c = rw c.send.ensures.none (omega arith)

pub pass-requires : goal.pass-requires
pass-requires g c = c.send.ensures.none

pub returns-then-piece-le-ROOM : goal.returns-then-piece-le-ROOM
returns-then-piece-le-ROOM g c = c.send.ensures.given ▸ puts_kept _ _ _ _ _ c.keep.ensures

pub returns-else-piece-le-ROOM : goal.returns-else-piece-le-ROOM
returns-else-piece-le-ROOM g c = c.send.ensures.given ▸ c.pass.ensures
