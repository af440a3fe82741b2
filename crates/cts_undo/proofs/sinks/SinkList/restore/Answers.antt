use Rattle.std.proofs.Common.{refl}
use Rattle.cts_undo.proofs.Indexed.{put_is, put_keeps}
use Rattle.cts_undo.proofs.sinks.SinkList.restore.Goals as goal

pub invariant_of-self : goal.invariant_of-self
invariant_of-self c =
    put_keeps c.self.inside.sinks.items c.args.self.now c.args.sink.id c.place-place.result c.self.view_is c.requires.distinct c.place-place.ensures
    c.self.inside.places c.args.sink c.self.invariant refl

pub returns : goal.returns
returns c =
    put_is c.self.inside.sinks.items c.args.self.now c.args.sink.id c.place-place.result c.self.view_is c.requires.distinct c.place-place.ensures c.args.sink
