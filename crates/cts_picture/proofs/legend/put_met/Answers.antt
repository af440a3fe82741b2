use Rattle.cts_io.proofs.Chains.{◌▸◌}
use Rattle.cts_picture.specs.Legend.{met_words}
use Rattle.cts_picture.proofs.legend.put_met.Goals as goal
use Rattle.cts_picture.proofs.legend.put_met.Goals.{then-met, else-met}

pub returns : goal.returns
unfolding met_words
returns g c =
    elim c.if-met.branch [
      | then-met w ↦ rw w.if-met.true (c.put.ensures ▸ (rw w.put-is at c.put-2.ensures))
      | else-met w ↦ rw w.if-met.false (c.put.ensures ▸ (rw w.put-is at c.put-2.ensures))
    ]
