use Rattle.std.proofs.Common.{◌≡◌, true, false, refl, arith}
use Rattle.std.proofs.lemmas.List.Elements.{Contains-append_left}
use Rattle.cts_block.proofs.RasterLemmas.{last_contained}
use Rattle.cts_block.proofs.MapLemmas.{stopping_more, stopping_sound, stopping_all}
use Rattle.cts_block.proofs.free_map.stopping_wires.Goals as goal
use Rattle.cts_block.proofs.free_map.stopping_wires.Goals.{then-stops+in_ok-push, else-stops}

pub loop-block-preserved : goal.loop-block-preserved
loop-block-preserved c =
    let blocks = c.args.blocks.now in
    let old = c.loop-block.list.items in
    let before = c.loop-block.invariant in
    elim c.if-stops.branch [
      | then-stops+in_ok-push w ↦ rw (w.list-is, w.in_ok-push.ensures.items) (record {
        sound = stopping_sound blocks c.loop-block.block-index c.loop-block-test.true _ old (w.if-stops.ensures.0 refl) before.sound;
        complete = stopping_more blocks c.loop-block.block-index c.loop-block-test.true _ old _ (Contains-append_left old _)
            (λ stops. last_contained old _) before.complete;
      })
      | else-stops w ↦ rw w.list-is (record {
        sound = before.sound;
        complete = stopping_more blocks c.loop-block.block-index c.loop-block-test.true _ old old (λ block listed. listed)
            (λ stops. absurd (let never : false ≡ true = w.if-stops.ensures.1 stops in cc)) before.complete;
      })
    ]

pub returns-clause-complete : goal.returns-clause-complete
returns-clause-complete c =
    stopping_all c.args.blocks.now c.loop-block.list.items (λ k d below. c.loop-block.invariant.complete k d (omega (arith, below, c.loop-block-test.false)))
