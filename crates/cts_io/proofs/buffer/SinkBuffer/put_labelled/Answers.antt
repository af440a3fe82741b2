use Rattle.cts_io.proofs.Chains.{◌▸◌}
use Rattle.cts_io.proofs.Given.{puts_kept}
use Rattle.cts_io.proofs.buffer.SinkBuffer.put_labelled.Goals as goal

pub returns-then-label-room : goal.returns-then-label-room
returns-then-label-room g c = puts_kept _ _ _ _ _ c.keep.ensures ▸ puts_kept _ _ _ _ _ c.keep_decimal.ensures

pub returns-else-room-ge-LONGEST_NUMBER : goal.returns-else-room-ge-LONGEST_NUMBER
returns-else-room-ge-LONGEST_NUMBER g c = c.put_labelled_over.ensures
