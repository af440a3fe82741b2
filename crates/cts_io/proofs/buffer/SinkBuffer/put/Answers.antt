use Rattle.cts_io.proofs.Given.{puts_kept}
use Rattle.cts_io.proofs.buffer.SinkBuffer.put.Goals as goal

pub returns-then-piece-self : goal.returns-then-piece-self
returns-then-piece-self g c = puts_kept _ _ _ _ _ c.keep.ensures

pub returns-else-piece-self : goal.returns-else-piece-self
returns-else-piece-self g c = c.put_over.ensures
