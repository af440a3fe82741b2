use Rattle.std.proofs.Common.{◌++◌, ◌∷◌, [], sym, ap₂, ◌∙◌}
use Rattle.cts_topo.proofs.PinsFrom.{pins_from_more}
use Rattle.cts_topo.proofs.divide.pins_of.Goals as goal

pub loop-place-preserved : goal.loop-place-preserved
loop-place-preserved c =
    c.in_ok-push.ensures.items ∙ ap₂ (λ ps p. ps ++ p ∷ []) c.loop-place.invariant c.pin_of.ensures
    ∙ sym (pins_from_more _ _ _ c.loop-place-test.true)
