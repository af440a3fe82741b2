use Rattle.std.proofs.Common.{◌%◌, ◌^◌, ap, map, ◌∙◌}
use Rattle.cts_topo.proofs.RoughOrder.{places_more}
use Rattle.cts_topo.proofs.divide.rough_keys.Goals as goal

pub loop-place-preserved : goal.loop-place-preserved
loop-place-preserved c =
    let l = c.loop-place in
    ap (map (λ key. key % 2 ^ 17)) c.in_ok-push.ensures.items ∙ places_more l.place l.keys.items c.rough_key.result l.invariant c.rough_key.ensures
