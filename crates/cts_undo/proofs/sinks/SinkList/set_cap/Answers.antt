use Rattle.std.proofs.Common.{refl}
use Rattle.cts_edit.specs.Edits.{with_cap}
use Rattle.cts_undo.proofs.Indexed.{write_is, write_keeps}
use Rattle.cts_undo.proofs.sinks.SinkList.set_cap.Goals as goal

pub invariant_of-self : goal.invariant_of-self
invariant_of-self c =
    write_keeps c.self.inside.sinks.items c.args.self.now c.args.id c.place-place.result c.self.view_is c.requires.distinct c.place-place.ensures
    c.self.inside.places (with_cap c.args.cap) c.index.result.now c.of_cap.result c.self.invariant c.index.ensures c.of_cap.ensures refl

pub returns : goal.returns
returns c =
    write_is c.self.inside.sinks.items c.args.self.now c.args.id c.place-place.result c.self.view_is c.requires.distinct c.place-place.ensures
    (with_cap c.args.cap) c.index.result.now c.of_cap.result c.index.ensures c.of_cap.ensures
