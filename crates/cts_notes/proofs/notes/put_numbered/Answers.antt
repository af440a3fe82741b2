use Rattle.std.proofs.Common.{◌∙◌}
use Rattle.cts_io.proofs.Chains.{◌▸◌}
use Rattle.cts_notes.specs.Notes.{numbered}
use Rattle.cts_notes.proofs.notes.put_numbered.Goals as goal

pub returns : goal.returns
unfolding numbered
returns g c = c.put.ensures ▸ rw (c.bytes.ensures ∙ c.decimal.ensures.text) at c.put-2.ensures
