use Rattle.std.proofs.Common.{subst, sym}
use Rattle.cts_io.specs.Text.{Puts}
use Rattle.cts_picture.specs.Dots.{seen_dot}
use Rattle.cts_picture.specs.Drawable.{IsDrawableNode}
use Rattle.cts_picture.proofs.Found.{no_wire, wire_found}
use Rattle.cts_picture.proofs.tree.put_wire_to.Goals as goal

pub put_wire-requires-clause-node : goal.put_wire-requires-clause-node
put_wire-requires-clause-node g c =
    let found = c.in-Some.ensures.lookup in
    subst IsDrawableNode (sym (found.1)) (c.requires.nodes c.args.number c.in-Some.node.now (found.3.0))

pub put_wire-requires-clause-scale : goal.put_wire-requires-clause-scale
put_wire-requires-clause-scale g c = c.requires.scale

pub put_wire-requires-clause-upper : goal.put_wire-requires-clause-upper
put_wire-requires-clause-upper g c = c.requires.upper

pub returns-in-Some : goal.returns-in-Some
returns-in-Some g c =
    let found = c.in-Some.ensures.lookup in
    wire_found (λ text. Puts g.K.ByteSink (c.args.sink.now, c.args.out.now) (c.put_wire.new.sink, c.put_wire.new.out) text)
    c.args.scale.now c.args.nodes.now (seen_dot c.args.upper) c.args.number c.in-Some.node.now (found.3.0) (found.1) c.put_wire.ensures

pub returns-in-None : goal.returns-in-None
returns-in-None g c =
    let found = c.in-None.ensures.lookup in
    no_wire (λ text. Puts g.K.ByteSink (c.args.sink.now, c.args.out.now) (c.put.new.sink, c.put.new.self) text)
    c.args.scale.now c.args.nodes.now (seen_dot c.args.upper) c.args.number (found.3) c.put.ensures
