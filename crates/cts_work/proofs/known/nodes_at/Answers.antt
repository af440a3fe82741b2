use Rattle.std.proofs.Common.{length, refl, sym, ap, ◌++◌, ◌∷◌, [], ◌∙◌}
use Rattle.std.proofs.lemmas.Option.{slice_get_read}
use Rattle.cts_work.proofs.Picked.{picked-next, picked-past}
use Rattle.cts_work.proofs.known.nodes_at.Goals as goal

pub loop-place-preserved-in_default : goal.loop-place-preserved-in_default
loop-place-preserved-in_default c =
    record {
      own = c.loop-place.invariant.own
          ∙ sym (picked-past c.args.nodes.now c.args.places.now c.loop-place.place-index 0 c.loop-place-test.true (sym (c.in_default.ensures.lookup.0)));
    }

pub loop-place-preserved : goal.loop-place-preserved
loop-place-preserved c =
    let found = c.in-Some.ensures.lookup in
    let here = slice_get_read c.args.nodes.now (length c.args.nodes.now) _ c.in-Some.node.now refl (found.3.0) (found.1) in
    record {
      own = c.in_ok-push.ensures.items ∙ ap (λ bs. bs ++ c.in-Some.node.now ∷ []) c.loop-place.invariant.own
          ∙ sym (picked-next c.args.nodes.now c.args.places.now c.loop-place.place-index 0 c.in-Some.node.now c.loop-place-test.true here);
    }
