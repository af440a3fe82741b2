use Rattle.cts_notes.specs.Notes.{refusal_note}
use Rattle.cts_io.proofs.Chains.{◌▸◌}
use Rattle.cts_notes.proofs.notes.put_refusal.Goals as goal

pub returns : goal.returns
unfolding refusal_note
returns g c = c.put_numbered.ensures ▸ c.put.ensures ▸ c.put_cause.ensures ▸ c.put-2.ensures
