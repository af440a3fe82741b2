use Rattle.std.proofs.Common.{◌∙◌, ap}
use Rattle.cts_edit.specs.Edits.{has_id}
use Rattle.cts_edit.proofs.DistinctIds.{new_so_far}
use Rattle.cts_edit.proofs.roster.Roster.of.Goals as goal

pub add-requires-clause-new : goal.add-requires-clause-new
add-requires-clause-new c =
    ap (has_id _) c.loop-sink.invariant ∙ new_so_far c.args.sinks.now c.loop-sink.sink-index _ c.requires.distinct c.loop-sink-test.true
