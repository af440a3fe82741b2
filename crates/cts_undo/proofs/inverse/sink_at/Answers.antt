use Rattle.std.proofs.lemmas.Option.{slice_get_within}
use Rattle.cts_undo.proofs.inverse.sink_at.Goals as goal

pub bounds-sinks-place : goal.bounds-sinks-place
bounds-sinks-place c = slice_get_within c.args.sinks.now c.args.place c.requires.sink c.requires.here
