use Rattle.std.proofs.Common.{◌≡◌, refl, rules}
use Rattle.cts_edit.specs.Edits.{moved_to}
use Rattle.cts_undo.proofs.Indexed.{write_is, write_keeps}
use Rattle.cts_undo.proofs.sinks.SinkList.move_to.Goals as goal

pub invariant_of-self : goal.invariant_of-self
invariant_of-self c =
    let made : c.at_place.result ≡ moved_to c.args.x c.args.y c.index.result.now = search rules in
    write_keeps c.self.inside.sinks.items c.args.self.now c.args.id c.place-place.result c.self.view_is c.requires.distinct c.place-place.ensures
    c.self.inside.places (moved_to c.args.x c.args.y) c.index.result.now c.at_place.result c.self.invariant c.index.ensures made refl

pub returns : goal.returns
returns c =
    let made : c.at_place.result ≡ moved_to c.args.x c.args.y c.index.result.now = search rules in
    write_is c.self.inside.sinks.items c.args.self.now c.args.id c.place-place.result c.self.view_is c.requires.distinct c.place-place.ensures
    (moved_to c.args.x c.args.y) c.index.result.now c.at_place.result c.index.ensures made
