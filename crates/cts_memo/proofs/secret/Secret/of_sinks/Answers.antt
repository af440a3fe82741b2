use Rattle.std.proofs.Common.{[]}
use Rattle.std.specs.List.{flat_map}
use Rattle.cts_memo.specs.Secrets.{sink_parts}
use Rattle.cts_memo.proofs.secret.Secret.of_sinks.Goals as goal

pub returns : goal.returns
returns c = c.secret.ensures (flat_map sink_parts c.args.sinks.now) (c.add_sinks.ensures [] c.new-mixture.ensures)
