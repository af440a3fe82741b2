use Rattle.std.proofs.Common.{inl, inr}
use Rattle.cts_io.proofs.Chains.{puts_nothing}
use Rattle.cts_report.specs.Lines.{arrival_words}
use Rattle.cts_picture.proofs.wire.put_arrival.Goals as goal

pub returns-in-TimedLeaf : goal.returns-in-TimedLeaf
unfolding arrival_words
returns-in-TimedLeaf g c = rw c.in-TimedLeaf.is c.put_time.ensures

pub returns-in-Leaf : goal.returns-in-Leaf
unfolding arrival_words
returns-in-Leaf g c =
    elim c.in-Leaf.is [
      | inl leaf ↦ rw leaf.1 (puts_nothing _ _)
      | inr pair ↦ rw pair.4 (puts_nothing _ _)
    ]
