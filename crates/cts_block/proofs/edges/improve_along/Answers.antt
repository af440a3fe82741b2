use Rattle.cts_block.proofs.OrderLemmas.{ahead_trans}
use Rattle.cts_block.proofs.SearchLemmas.{range_in_die}
use Rattle.cts_block.proofs.EdgeLemmas.{edge_more, stopped}
use Rattle.cts_block.proofs.edges.improve_along.Goals as goal

pub reach-requires-clause-p : goal.reach-requires-clause-p
reach-requires-clause-p g c = range_in_die _ c.requires.die _ c.loop-edge.invariant.free.in_die

pub returns-then-reach-edge-clause-first : goal.returns-then-reach-edge-clause-first
returns-then-reach-edge-clause-first g c =
    stopped (g.O.Obstacles.counts c.args.obstacles.now) c.args.die.now c.args.from c.args.edges.now c.loop-edge.edge-index c.loop-edge-test.true c.edge-item.result c.edge-item.is c.args.start c.loop-edge.best
    c.requires.ordered c.requires.far (rw c.reach.ensures.value at c.if-reach-edge.true) c.loop-edge.invariant.first

pub loop-edge-preserved : goal.loop-edge-preserved
loop-edge-preserved g c =
    let old = c.loop-edge.invariant in
    let best = c.loop-edge.best in
    let new = c.improve-best.result in
    record {
      free = c.improve-best.ensures.free;
      ahead = ahead_trans c.args.from new best c.args.near c.improve-best.ensures.ahead old.ahead;
      first = edge_more (g.O.Obstacles.counts c.args.obstacles.now) c.args.die.now c.args.from c.args.edges.now c.loop-edge.edge-index c.loop-edge-test.true c.edge-item.result c.edge-item.is
          best new c.improve-best.ensures.ahead c.improve-best.ensures.first old.first;
    }
