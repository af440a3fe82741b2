use Rattle.std.proofs.Common.{◌≡◌, true, false}
use Rattle.std.proofs.lemmas.List.Elements.{Contains-append_left}
use Rattle.cts_geom.specs.declared.points.Half.{Half}
use Rattle.cts_block.specs.Raster.{IsHalfIn}
use Rattle.cts_block.proofs.RasterLemmas.{kept_more, sound_more, last_contained}
use Rattle.cts_block.proofs.raster.cell_of.Goals as goal
use Rattle.cts_block.proofs.raster.cell_of.Goals.{then-meets+in_ok-push-2, else-meets}

pub loop-block-preserved : goal.loop-block-preserved
loop-block-preserved c =
    let blocks = c.args.blocks.now in
    let old = c.loop-block.cell.items in
    let before = c.loop-block.invariant in
    let In : Half → Type 0 = λ at. IsHalfIn c.args.column at.x × IsHalfIn c.args.row at.y in
    elim c.if-meets.branch [
      | then-meets+in_ok-push-2 w ↦ rw (w.cell-is, w.in_ok-push-2.ensures.items) (record {
        sound = sound_more blocks In c.loop-block.block-index c.loop-block-test.true _ old before.sound;
        complete = kept_more blocks In c.loop-block.block-index c.loop-block-test.true _ old _ (Contains-append_left old _)
            (λ at is_in inside. last_contained old _) before.complete;
      })
      | else-meets w ↦ rw w.cell-is (record {
        sound = before.sound;
        complete = kept_more blocks In c.loop-block.block-index c.loop-block-test.true _ old old (λ block listed. listed)
            (λ at is_in inside. absurd (let never : false ≡ true = w.if-meets.ensures at is_in.0 is_in.1 inside in cc)) before.complete;
      })
    ]
