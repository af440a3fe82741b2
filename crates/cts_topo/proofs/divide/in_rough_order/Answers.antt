use Rattle.std.proofs.Common.{◌%◌, ◌^◌, ◌<◌, map, length, sym, ap, subst, ◌∙◌, arith, IsPermutation}
use Rattle.std.specs.List.{All}
use Rattle.std.proofs.lemmas.List.{take_all}
use Rattle.std.proofs.lemmas.List.Sorted.{All-permutation}
use Rattle.cts_topo.proofs.RoughOrder.{pin_by, places_inside, in_other_order}
use Rattle.cts_topo.proofs.divide.in_rough_order.Goals as goal

pub bounds-pins-place_in : goal.bounds-pins-place_in
bounds-pins-place_in c =
    let inside = All-permutation (λ key. key % 2 ^ 17 < length c.args.pins.now) c.in_ok-keys.keys.items _ c.sort_unstable.ensures.permutation
    (places_inside c.args.pins.now c.in_ok-keys.keys.items c.in_ok-keys.ensures) in
    let listed : All (λ key. key % 2 ^ 17 < length c.args.pins.now) c.deref-key-items.result.now =
    subst (All (λ key. key % 2 ^ 17 < length c.args.pins.now)) (sym c.deref-key-items.ensures.value) inside in
    omega (arith, c.place_in.ensures, listed c.loop-key.key-index 0 (omega (arith, c.loop-key-test.true, c.loop-key.auto.key-index-end)))

pub returns : goal.returns
returns c =
    let all = c.loop-key.invariant ∙ ap (map (pin_by c.args.pins.now)) (take_all c.loop-key.key-index c.deref-key-items.result.now
    (omega (arith, c.loop-key-test.false, c.loop-key.auto.key-index-end)) ∙ c.deref-key-items.ensures.value) in
    subst (IsPermutation c.args.pins.now) (sym all)
    (in_other_order c.args.pins.now c.in_ok-keys.keys.items c.in_ok-keys.ensures _ c.sort_unstable.ensures.permutation)
