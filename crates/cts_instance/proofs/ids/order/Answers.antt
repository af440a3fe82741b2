use Rattle.std.proofs.Common.{arith}
use Rattle.cts_instance.proofs.IdLemmas.{first_more}
use Rattle.cts_instance.proofs.ids.order.Goals as goal

pub loop-ordered-preserved : goal.loop-ordered-preserved
loop-ordered-preserved c = record {
  within = omega arith;
  first = first_more c.args.ids.now c.loop-ordered.ordered c.loop-ordered.known c.insert.new.self 0
      c.loop-ordered.invariant.first c.loop-ordered-test.true c.in_ok-insert.ensures.updates;
}
