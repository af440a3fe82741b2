-- Each pin that is pushed stands in the list and comes behind the last one.
use Rattle.std.proofs.Common.{◌≡◌, ◌-◌, List, All, Contains, length, refl, sym, subst, arith, IsPermutation}
use Rattle.std.proofs.lemmas.List.Elements.{All-drop, All-take}
use Rattle.std.proofs.lemmas.List.Sorted.{All-permutation}
use Rattle.cts_topo.specs.declared.pin.Pin.{Pin}
use Rattle.cts_topo.specs.Rising.{AreFresh}
use Rattle.cts_topo.proofs.Rising.{rises_more}
use Rattle.cts_topo.proofs.merge.merged_along.Goals as goal

-- the fresh pins stand in the list also where they are sorted
sorted_inside : (pins fresh given sorted shown : List Pin) → AreFresh pins fresh → given ≡ fresh → IsPermutation given sorted
    → shown ≡ sorted → All (Contains pins) shown
sorted_inside pins fresh given sorted shown are given_is order is =
    subst (All (Contains pins)) (sym is)
    (All-permutation (Contains pins) given sorted order (subst (All (Contains pins)) (sym given_is) are.inside))

pub loop-next-preserved : goal.loop-next-preserved
loop-next-preserved c =
    let fresh = sorted_inside _ _ _ _ _ c.requires.fresh c.as_slice.ensures.value c.in_ok-fresh.ensures.permutation c.as_slice-fresh.ensures.value in
    record {
      rises = rises_more _ _ _ _ _ _ c.loop-next.invariant.rises c.as_slice-in-loop-next.ensures.value
          (fresh c.loop-next.next _ c.loop-next-test.true) (c.if-not-is_next.ensures refl) c.in_ok-push.ensures.items;
      within = omega arith;
    }

pub loop-old-preserved : goal.loop-old-preserved
loop-old-preserved c = record {
  rises = rises_more _ _ _ _ _ _ c.loop-next.invariant.rises c.as_slice-in-loop-old.ensures.value c.in-Some.ensures
      (c.if-not-is_next-2.ensures refl) c.in_ok-push-2.ensures.items;
  within = c.loop-next.invariant.within;
}

pub loop-pin-preserved : goal.loop-pin-preserved
loop-pin-preserved c =
    let fresh = sorted_inside _ _ _ _ _ c.requires.fresh c.as_slice.ensures.value c.in_ok-fresh.ensures.permutation c.as_slice-fresh.ensures.value in
    let rest = All-take (Contains c.args.pins.now) (length c.as_slice-fresh.result.now - c.loop-old.next) _
    (All-drop (Contains c.args.pins.now) c.loop-old.next _ fresh) in
    rises_more _ _ _ _ _ _ c.loop-pin.invariant c.as_slice-in-loop-pin.ensures.value
    (rest c.loop-pin.pin-index _ (omega (arith, c.loop-pin-test.true, c.loop-pin.auto.pin-index-end)))
    (c.if-not-is_next-3.ensures refl) c.in_ok-push-3.ensures.items
