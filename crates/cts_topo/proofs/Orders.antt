-- The order of pins is total, and tells pins with distinct ids apart.
use Rattle.std.proofs.Common.{◌≡◌, ℕ, Bool, true, false, Ordering, Less, Equal, Greater, nat_cmp, is_lt, refl, ap, arith}
use Rattle.std.specs.Cmp.{IsTotalOrder, IsStrictWeakOrder}
use Rattle.std.specs.Ordering.{ordering_then, ordering_reverse}
use Rattle.std.proofs.lemmas.Cmp.{then_total, on_total, nat_cmp_total}
use Rattle.std.proofs.lemmas.List.MinMax.{ranks_by}
use Rattle.std.proofs.lemmas.Bool.Decides.{nat_tests}
use Rattle.cts_topo.specs.declared.pin.Pin.{Pin}
use Rattle.cts_topo.specs.Topology.{compare_along, is_before}

pub pins_total : (wide : Bool) → IsTotalOrder (compare_along wide)
pins_total true =
    then_total (then_total (on_total (λ (p : Pin). p.x) nat_cmp_total) (on_total (λ (p : Pin). p.y) nat_cmp_total))
    (on_total (λ (p : Pin). p.id) nat_cmp_total)
pins_total false =
    then_total (then_total (on_total (λ (p : Pin). p.y) nat_cmp_total) (on_total (λ (p : Pin). p.x) nat_cmp_total))
    (on_total (λ (p : Pin). p.id) nat_cmp_total)

pub pins_weak : (wide : Bool) → IsStrictWeakOrder (is_before wide)
pins_weak wide = ranks_by (pins_total wide) (λ (p : Pin). p)

less_of : (o : Ordering) → is_lt o ≡ true → o ≡ Less
less_of Less h = refl
less_of Equal h = cc
less_of Greater h = cc

pub is_before-trans : (wide : Bool) (p q r : Pin) → is_before wide p q ≡ true → is_before wide q r ≡ true
    → is_before wide p r ≡ true
is_before-trans wide p q r h w = ap is_lt ((pins_total wide).trans p q r (less_of _ h) (less_of _ w))

same_number : (m n : ℕ) → nat_cmp m n ≡ Equal → m ≡ n
same_number m n h = grind (arith, nat_tests)

last_ties : (a b c : Ordering) → ordering_then (ordering_then a b) c ≡ Equal → c ≡ Equal
last_ties Less b c h = cc
last_ties Equal Less c h = cc
last_ties Equal Equal c h = h
last_ties Equal Greater c h = cc
last_ties Greater b c h = cc

-- pins that tie have one id
same_id : (wide : Bool) (p q : Pin) → compare_along wide p q ≡ Equal → p.id ≡ q.id
same_id true p q h = same_number p.id q.id (last_ties (nat_cmp p.x q.x) (nat_cmp p.y q.y) _ h)
same_id false p q h = same_number p.id q.id (last_ties (nat_cmp p.y q.y) (nat_cmp p.x q.x) _ h)

neither : (o r : Ordering) → is_lt o ≡ false → is_lt r ≡ false → o ≡ ordering_reverse r → o ≡ Equal
neither Less r h w e = cc
neither Equal r h w e = refl
neither Greater Less h w e = cc
neither Greater Equal h w e = cc
neither Greater Greater h w e = cc

pub ids_of_ties : (wide : Bool) (p q : Pin) → is_before wide p q ≡ false → is_before wide q p ≡ false → p.id ≡ q.id
ids_of_ties wide p q h w = same_id wide p q (neither _ _ h w ((pins_total wide).antisymm p q))
