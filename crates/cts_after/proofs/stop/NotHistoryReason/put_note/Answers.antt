use Rattle.cts_io.proofs.Chains.{◌▸◌}
use Rattle.cts_after.specs.Notes.{not_history_note}
use Rattle.cts_after.proofs.stop.NotHistoryReason.put_note.Goals as goal

pub returns : goal.returns
unfolding not_history_note
returns g c = c.put_numbered.ensures ▸ c.put.ensures
