use Rattle.std.proofs.Common.{◌∙◌}
use Rattle.cts_read.proofs.Places.{place_after}
use Rattle.cts_read.proofs.cursor.Cursor.next.Goals as goal

pub invariant_of-self-2 : goal.invariant_of-self-2
invariant_of-self-2 c =
    let taken = c.in_ok-next.ensures.taken in
    place_after _ _ _ _ taken.0 _ _ c.self.invariant taken.1 taken.2 c.in_ok-next.ensures.first (c.in_ok-next.ensures.after ∙ c.in_ok-next.ensures.number)
