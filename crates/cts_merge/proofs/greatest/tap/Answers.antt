-- No distance, a first side that is too slow for any length, or the quotient as far as the distance goes.
use Rattle.std.proofs.Common.{arith}
use Rattle.cts_merge.proofs.Taps.{tap_nowhere, tap_slow, tap_inside, tap_whole}
use Rattle.cts_merge.proofs.greatest.tap.Goals as goal

pub returns-then-d-eq0 : goal.returns-then-d-eq0
returns-then-d-eq0 c = tap_nowhere c.args.wire c.args.a.now c.args.b.now c.args.d (omega arith)

pub returns-then-whole-a : goal.returns-then-whole-a
returns-then-whole-a c = tap_slow c.args.wire c.args.a.now c.args.b.now c.args.d (omega arith)

pub returns-then-length-d : goal.returns-then-length-d
returns-then-length-d c =
    tap_inside c.args.wire c.args.a.now c.args.b.now c.args.d c.delay_through-whole.result c.unit_share-unit.result
    (omega arith) (omega arith) (omega arith) (omega arith) (omega arith)

pub returns-else-length-d : goal.returns-else-length-d
returns-else-length-d c =
    tap_whole c.args.wire c.args.a.now c.args.b.now c.args.d c.delay_through-whole.result c.unit_share-unit.result
    (omega arith) (omega arith) (omega arith) (omega arith) (omega arith)
