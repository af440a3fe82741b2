use Rattle.cts_picture.proofs.marks.put_fill.Goals as goal

pub returns-in-Buffer : goal.returns-in-Buffer
returns-in-Buffer g c = rw c.in-Buffer.is c.put.ensures

pub returns-in-All : goal.returns-in-All
returns-in-All g c = rw c.in-All.is c.put-in-All.ensures
