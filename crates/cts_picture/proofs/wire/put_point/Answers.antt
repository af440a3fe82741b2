use Rattle.cts_picture.proofs.wire.put_point.Goals as goal

pub returns : goal.returns
returns g c = rw c.dot_of.ensures.seen at c.put_dot.ensures
