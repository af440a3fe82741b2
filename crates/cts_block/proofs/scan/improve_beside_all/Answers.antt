use Rattle.std.proofs.Common.{◌≡◌, true, false}
use Rattle.cts_block.proofs.OrderLemmas.{ahead_refl, ahead_trans}
use Rattle.cts_block.proofs.ObstacleLemmas.{more_edges}
use Rattle.cts_block.proofs.scan.improve_beside_all.Goals as goal
use Rattle.cts_block.proofs.scan.improve_beside_all.Goals.{then-stops, else-stops}

pub loop-block-preserved : goal.loop-block-preserved
loop-block-preserved c =
    let old = c.loop-block.invariant in
    let best = c.loop-block.best in
    elim c.if-stops.branch [
      | then-stops w ↦
          let new = w.improve_beside-best.result in
          let ensures = w.improve_beside-best.ensures in
          rw w.best-is (record {
            free = ensures.free;
            ahead = ahead_trans c.args.from new best c.args.start ensures.ahead old.ahead;
            first = more_edges c.args.scan.now.blocks.now c.args.scan.now.buffered c.args.die.now c.args.from c.loop-block.block-index c.loop-block-test.true _ best new ensures.ahead (λ _. ensures.first) old.first;
          })
      | else-stops w ↦
          rw w.best-is (record {
            free = old.free;
            ahead = old.ahead;
            first = more_edges c.args.scan.now.blocks.now c.args.scan.now.buffered c.args.die.now c.args.from c.loop-block.block-index c.loop-block-test.true _ best best (ahead_refl c.args.from best) (λ stops. absurd (let never : false ≡ true = w.if-stops.ensures.1 stops in cc)) old.first;
          })
    ]
