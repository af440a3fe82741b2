-- The fresh ones among the pins that a walk has passed.
use Rattle.std.proofs.Common.{◌≡◌, ℕ, ◌+◌, ◌≤◌, List, [], ◌∷◌, ◌++◌, length, All, Contains, sym, ap, subst, arith, length-append}
use Rattle.std.proofs.lemmas.List.Elements.{All-push}
use Rattle.cts_topo.specs.declared.pin.Pin.{Pin}

-- some of the first pins of a list
pub record ArePassed (pins fresh : List Pin) (next : ℕ) : Type 0 where
  pub inside : All (Contains pins) fresh
  pub few : length fresh ≤ next
  pub within : next ≤ length pins

pub passed_same : (pins fresh new : List Pin) (next after : ℕ) → ArePassed pins fresh next → new ≡ fresh → next ≤ after
    → after ≤ length pins → ArePassed pins new after
passed_same pins fresh new next after passed is less within = record {
  inside = subst (All (Contains pins)) (sym is) passed.inside;
  few = omega (arith, ap length is, passed.few, less);
  within = within;
}

pub passed_more : (pins fresh new : List Pin) (p : Pin) (next after : ℕ) → ArePassed pins fresh next → Contains pins p
    → new ≡ fresh ++ p ∷ [] → after ≡ next + 1 → after ≤ length pins → ArePassed pins new after
passed_more pins fresh new p next after passed stands is one within = record {
  inside = subst (All (Contains pins)) (sym is) (All-push (Contains pins) fresh p passed.inside stands);
  few = omega (arith, ap length is, length-append fresh (p ∷ []), passed.few, one);
  within = within;
}
