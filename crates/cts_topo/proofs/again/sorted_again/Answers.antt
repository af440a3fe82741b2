-- As many pins that rise as there are pins are all of them, in order.
use Rattle.std.proofs.Common.{arith}
use Rattle.std.proofs.lemmas.Result.{IfOk-weaker}
use Rattle.cts_topo.proofs.Shuffles.{shuffled_of}
use Rattle.cts_topo.proofs.Rising.{rises_all, rises_sorted}
use Rattle.cts_topo.proofs.again.sorted_again.Goals as goal

pub returns-then-len-pins-clause-same : goal.returns-then-len-pins-clause-same
returns-then-len-pins-clause-same c =
    rises_all c.args.wide c.args.pins.now c.in_ok-some.some.items c.in_ok-some.ensures
    (omega (arith, c.len.ensures, c.if-len-pins.true, c.in_ok-some.some.ok.0))

pub returns-then-len-pins-clause-sorted : goal.returns-then-len-pins-clause-sorted
returns-then-len-pins-clause-sorted c = rises_sorted c.args.wide c.args.pins.now c.in_ok-some.some.items c.in_ok-some.ensures

pub returns-clause-same : goal.returns-clause-same
returns-clause-same c =
    IfOk-weaker c.sorted_along.result _ _ (λ sorted h. shuffled_of c.args.pins.now sorted.items h) c.sorted_along.ensures.permutation
