use Rattle.cts_io.proofs.Chains.{◌▸◌}
use Rattle.cts_io.proofs.buffer.SinkBuffer.put_labelled_over.Goals as goal

pub put_decimal-requires-clause-value : goal.put_decimal-requires-clause-value
put_decimal-requires-clause-value g c = c.requires.value

pub put_decimal-requires-clause-places : goal.put_decimal-requires-clause-places
put_decimal-requires-clause-places g c = c.requires.places

pub returns : goal.returns
returns g c = c.put_over.ensures ▸ c.put_decimal.ensures
