use Rattle.cts_top.proofs.Forms.{made_zip}
use Rattle.cts_top.proofs.words.made.Goals as goal

pub returns : goal.returns
returns c =
    rw c.zip.ensures
    (made_zip c.args.seed.now c.args.sinks.now c.number.result c.number-2.result c.number.ensures c.number-2.ensures)
