use Rattle.cts_undo.proofs.Indexed.{remove_is, remove_keeps}
use Rattle.cts_undo.proofs.sinks.SinkList.remove.Goals as goal

pub invariant_of-self : goal.invariant_of-self
invariant_of-self c =
    remove_keeps c.self.inside.sinks.items c.args.self.now c.args.id c.place-place.result c.self.view_is c.requires.distinct c.place-place.ensures
    c.self.inside.places c.remove-2.new.self c.remove.new.self.items c.self.invariant c.remove.ensures.items c.remove-2.ensures.updates

pub returns : goal.returns
returns c =
    remove_is c.self.inside.sinks.items c.args.self.now c.args.id c.place-place.result c.self.view_is c.requires.distinct c.place-place.ensures
    c.remove.new.self.items c.remove.ensures.items
