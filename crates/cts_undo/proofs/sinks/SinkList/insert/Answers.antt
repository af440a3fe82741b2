use Rattle.cts_undo.proofs.Indexed.{insert_keeps}
use Rattle.cts_undo.proofs.sinks.SinkList.insert.Goals as goal

pub invariant_of-self : goal.invariant_of-self
invariant_of-self c =
    insert_keeps c.self.inside.sinks.items c.put_in.new.sinks.items c.self.inside.places c.put_in.new.places c.args.place c.args.sink c.put_in.result c.self.invariant
    c.put_in.ensures.sinks c.put_in.ensures.places c.put_in.ensures.same_sinks c.put_in.ensures.same_places
