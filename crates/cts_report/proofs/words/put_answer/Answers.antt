use Rattle.cts_io.proofs.Chains.{◌▸◌}
use Rattle.cts_report.specs.Lines.{answer}
use Rattle.cts_report.proofs.words.put_answer.Goals as goal
use Rattle.cts_report.proofs.words.put_answer.Goals.{then-met, else-met}

pub returns : goal.returns
unfolding answer
returns g c =
    elim c.if-met.branch [
      | then-met w ↦ rw w.if-met.true (c.put.ensures ▸ (rw w.put-is at c.put-2.ensures))
      | else-met w ↦ rw w.if-met.false (c.put.ensures ▸ (rw w.put-is at c.put-2.ensures))
    ]
