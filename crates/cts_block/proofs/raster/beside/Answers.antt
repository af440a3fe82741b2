use Rattle.std.proofs.Common.{◌≡◌, true, false}
use Rattle.std.proofs.lemmas.List.Elements.{Contains-append_left}
use Rattle.cts_geom.specs.declared.points.Half.{Half}
use Rattle.cts_block.specs.Raster.{IsHalfIn}
use Rattle.cts_block.proofs.RasterLemmas.{kept_more, sound_more, last_contained}
use Rattle.cts_block.proofs.raster.beside.Goals as goal
use Rattle.cts_block.proofs.raster.beside.Goals.{then-reaches_column+in_ok-push, else-reaches_column}

pub loop-block-preserved : goal.loop-block-preserved
loop-block-preserved c =
    let blocks = c.args.blocks.now in
    let old = c.loop-block.near.items in
    let before = c.loop-block.invariant in
    let In : Half → Type 0 = λ at. IsHalfIn c.args.column at.x in
    elim c.if-reaches_column.branch [
      | then-reaches_column+in_ok-push w ↦ rw (w.near-is, w.in_ok-push.ensures.items) (record {
        sound = sound_more blocks In c.loop-block.block-index c.loop-block-test.true _ old before.sound;
        complete = kept_more blocks In c.loop-block.block-index c.loop-block-test.true _ old _ (Contains-append_left old _)
            (λ at is_in inside. last_contained old _) before.complete;
      })
      | else-reaches_column w ↦ rw w.near-is (record {
        sound = before.sound;
        complete = kept_more blocks In c.loop-block.block-index c.loop-block-test.true _ old old (λ block listed. listed)
            (λ at is_in inside. absurd (let never : false ≡ true = w.if-reaches_column.ensures at.x is_in inside.x in cc)) before.complete;
      })
    ]
