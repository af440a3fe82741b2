use Rattle.std.proofs.Common.{◌++◌, ◌∷◌, [], sym, ap, ◌∙◌, arith}
use Rattle.std.proofs.lemmas.List.FromFn.{map-range_with_len_more}
use Rattle.cts_topo.specs.declared.shape.ShapeNode.TheVariants.{Leaf}
use Rattle.cts_near.proofs.forest.leaves_of.Goals as goal

pub loop-place-preserved : goal.loop-place-preserved
loop-place-preserved c =
    c.in_ok-push.ensures.items ∙ ap (λ leaves. leaves ++ Leaf c.loop-place.place ∷ []) c.loop-place.invariant
    ∙ sym (map-range_with_len_more (λ sink. Leaf sink) 0 c.loop-place.place c.loop-place.place (omega arith))
