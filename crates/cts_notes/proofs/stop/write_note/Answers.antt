use Rattle.cts_io.proofs.Chains.{written}
use Rattle.cts_notes.proofs.stop.write_note.Goals as goal

pub returns : goal.returns
returns g c = written c.new-out.ensures c.put_ending.ensures c.finish.ensures
