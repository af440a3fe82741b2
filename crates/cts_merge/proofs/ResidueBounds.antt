-- The bounds on the difference of the two delays, with the steps of wires.
use Rattle.std.proofs.Common.{◌≡◌, ℕ, ◌+◌, ◌*◌, ◌<◌, ◌≤◌, max, inl, inr, ap, arith}
use Rattle.std.proofs.lemmas.Bool.{cases_lt}
use Rattle.std.proofs.Math.Nat.{mul-le-mul}
use Rattle.cts_units.specs.declared.params.Wire.{Wire}
use Rattle.cts_units.specs.Limits.{IsWire}
use Rattle.cts_merge.specs.declared.side.Side.{Side}
use Rattle.cts_merge.specs.LeastPair.{Spans, Covers}
use Rattle.cts_merge.specs.Side.{delay_through}
use Rattle.cts_merge.specs.Laws.{residue_of, MergeResidueIsBounded, BalanceResidueIsBounded}
use Rattle.cts_merge.proofs.SideDelays.{step_of, delay_step}
use Rattle.cts_merge.proofs.Residue.{Climbs, spans_residue, covers_residue}

step_positive : (r c len load : ℕ) → 1 ≤ r → 1 ≤ c → 0 < r * (c * (2 * len + 1) + 2 * load)
step_positive r c len load hr hc =
    let odd : 1 ≤ 2 * len + 1 = omega arith in
    let own : 1 * 1 ≤ c * (2 * len + 1) = mul-le-mul hc odd in
    let some : 1 ≤ c * (2 * len + 1) + 2 * load = omega (arith, own) in
    let whole : 1 * 1 ≤ r * (c * (2 * len + 1) + 2 * load) = mul-le-mul hr some in
    omega (arith, whole)

delay_climbs : (wire : Wire) (side : Side) → IsWire wire → Climbs (delay_through wire side) (step_of wire side)
delay_climbs wire side w = record {
  climbs = λ x. delay_step wire side x;
  rising = λ x. step_positive wire.r wire.c x side.load w.r_low w.c_low;
}

merge_bound : (r c ca cb low y : ℕ)
    → r * (c * (2 * low + 1) + 2 * ca) + r * (c * (2 * y + 1) + 2 * cb)
    ≤ r * (c * (2 * (low + 1 + y) + 1) + 2 * ca + 2 * cb)
merge_bound r c ca cb low y = omega arith

step_bound : (r c ca cb x y : ℕ) → r * (c * (2 * y + 1) + 2 * cb) ≤ r * (c * (2 * (x + y) + 1) + 2 * ca + 2 * cb)
step_bound r c ca cb x y = omega arith

abbrev merge_bound_of : Wire → Side → Side → ℕ → ℕ → ℕ
merge_bound_of wire a b ea eb = wire.r * (wire.c * (2 * (ea + eb) + 1) + 2 * a.load + 2 * b.load)

merge_half : (wire : Wire) (a b : Side) → IsWire wire → (gap ea eb : ℕ) → Spans gap ea eb
    → ((u v : ℕ) → Spans gap u v → residue_of wire a b ea eb ≤ residue_of wire a b u v)
    → delay_through wire b eb < delay_through wire a ea
    → 2 * residue_of wire a b ea eb ≤ merge_bound_of wire a b ea eb
merge_half wire a b w gap ea eb ok least slow =
    elim (spans_residue (delay_through wire a) (delay_through wire b) (step_of wire a) (step_of wire b)
    (delay_climbs wire a w) (delay_climbs wire b w) gap ea eb ok least slow) [
      | inl one ↦ omega (arith, one.bound, step_bound wire.r wire.c a.load b.load ea eb)
      | inr both ↦
          let e : merge_bound_of wire a b ea eb ≡ merge_bound_of wire a b (both.low + 1) eb = ap (λ (x : ℕ). merge_bound_of wire a b x eb) both.next in
          omega (arith, both.bound, merge_bound wire.r wire.c a.load b.load both.low eb, e)
    ]

swap_spans : (gap x y : ℕ) → Spans gap x y → Spans gap y x
swap_spans gap x y ok = elim ok [
  | inl line ↦ inl (omega arith)
  | inr snakes ↦ elim snakes [ inl snake ↦ inr (inr snake) | inr snake ↦ inr (inl snake) ]
]

swap_bound : (r c ca cb x y : ℕ)
    → r * (c * (2 * (y + x) + 1) + 2 * cb + 2 * ca) ≤ r * (c * (2 * (x + y) + 1) + 2 * ca + 2 * cb)
swap_bound r c ca cb x y = omega arith

pub merge_residue : MergeResidueIsBounded
merge_residue wire a b ea eb p w =
    let f = delay_through wire a in
    let g = delay_through wire b in
    elim (cases_lt (g eb) (f ea)) [
      | inl slow ↦ merge_half wire a b w _ ea eb p.admissible (λ u v ok. (p.no_later u v ok).by_difference) slow
      | inr fast ↦ elim (cases_lt (f ea) (g eb)) [
        | inl slow ↦
            let half = merge_half wire b a w _ eb ea (swap_spans _ ea eb p.admissible)
            (λ v u ok. omega (arith, (p.no_later u v (swap_spans _ v u ok)).by_difference)) slow in
            omega (arith, half, swap_bound wire.r wire.c a.load b.load ea eb)
        | inr even ↦ omega arith
      ]
    ]

long_bound : (r c cap len load most : ℕ) → len ≤ most → cap ≤ load
    → r * (c * (2 * len + 1) + 2 * cap) ≤ r * (c * (2 * most + 1) + 2 * load)
long_bound r c cap len load most short small =
    let same_r : r ≤ r = omega arith in
    let same_c : c ≤ c = omega arith in
    let odd : 2 * len + 1 ≤ 2 * most + 1 = omega arith in
    let own : c * (2 * len + 1) ≤ c * (2 * most + 1) = mul-le-mul same_c odd in
    let all : c * (2 * len + 1) + 2 * cap ≤ c * (2 * most + 1) + 2 * load = omega (arith, own) in
    mul-le-mul same_r all

balance_half : (wire : Wire) (a b : Side) → IsWire wire → (la lb xa xb most load : ℕ) → Covers la lb xa xb
    → ((u v : ℕ) → Covers la lb u v → residue_of wire a b xa xb ≤ residue_of wire a b u v)
    → delay_through wire b xb < delay_through wire a xa → xa ≤ most → xb ≤ most → a.load ≤ load → b.load ≤ load
    → 2 * residue_of wire a b xa xb ≤ wire.r * (wire.c * (2 * most + 1) + 2 * load)
balance_half wire a b w la lb xa xb most load ok least slow xa_short xb_short a_small b_small =
    elim (covers_residue (delay_through wire a) (delay_through wire b) (step_of wire a) (step_of wire b)
    (delay_climbs wire a w) (delay_climbs wire b w) la lb xa xb ok least slow) [
      | inl one ↦ omega (arith, one.bound, long_bound wire.r wire.c b.load xb load most xb_short b_small)
      | inr more ↦
          let next : xa ≡ more.0 + 1 = more.1 in
          omega (arith, more.2, long_bound wire.r wire.c a.load more.0 load most (omega arith) a_small)
    ]

swap_covers : (la lb x y : ℕ) → Covers la lb x y → Covers lb la y x
swap_covers la lb x y ok = elim ok [ inl kept ↦ inr kept | inr kept ↦ inl kept ]

pub balance_residue : BalanceResidueIsBounded
balance_residue wire a b la lb xa xb p w =
    let f = delay_through wire a in
    let g = delay_through wire b in
    elim (cases_lt (g xb) (f xa)) [
      | inl slow ↦ balance_half wire a b w la lb xa xb (max xa xb) (max a.load b.load) p.admissible
          (λ u v ok. (p.no_later u v ok).by_difference) slow (omega arith) (omega arith) (omega arith) (omega arith)
      | inr fast ↦ elim (cases_lt (f xa) (g xb)) [
        | inl slow ↦
            let half = balance_half wire b a w lb la xb xa (max xa xb) (max a.load b.load) (swap_covers la lb xa xb p.admissible)
            (λ v u ok. omega (arith, (p.no_later u v (swap_covers lb la v u ok)).by_difference)) slow
            (omega arith) (omega arith) (omega arith) (omega arith) in
            omega (arith, half)
        | inr even ↦ omega arith
      ]
    ]
