use Rattle.std.proofs.Common.{◌≡◌, ◌≤◌, ◌^◌, ◌-◌}
use Rattle.cts_picture.specs.Frame.{bar_of, lengthened}
use Rattle.cts_picture.proofs.frame.bar_of.Given as goal

abbrev pub invariant-loop-times : goal.invariant-loop-times
invariant-loop-times l =
    (lengthened (8 - l._times) l.bar l.side ≡ bar_of l.side) × (l.bar ≤ 10 ^ 9)
