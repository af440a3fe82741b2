-- The place on a distance at which the first side stops being the faster one, by a quotient.
use Rattle.std.proofs.Common.{◌≡◌, ℕ, ◌+◌, ◌-◌, ◌*◌, ◌/◌, ◌<◌, ◌≤◌, inl, inr, refl, ap, arith}
use Rattle.std.proofs.lemmas.Bool.{cases_lt}
use Rattle.std.proofs.lemmas.Nat.{le-div}
use Rattle.std.proofs.Math.Nat.{mul-le-mul, div-mul-le_self}
use Rattle.cts_units.specs.declared.params.Wire.{Wire}
use Rattle.cts_units.specs.Delay.{wire_delay_of}
use Rattle.cts_merge.specs.declared.side.Side.{Side}
use Rattle.cts_merge.specs.Lengths.{IsTap, IsNotSlower}
use Rattle.cts_merge.specs.Side.{delay_through}
use Rattle.cts_merge.proofs.MergePairs.{Taps, taps_at}

-- what one unit more on the first wire and one less on the second add to the difference of the two delays
abbrev pub unit_share : Wire → Side → Side → ℕ → ℕ
unit_share wire a b d = wire.r * (2 * (wire.c * d + (a.load + b.load)))

-- two wires along a distance: the first one's length counts as often as the unit's share says
shared : (r c ca cb x y : ℕ) → wire_delay_of r c x ca + wire_delay_of r c (x + y) cb
    ≡ wire_delay_of r c y cb + x * (r * (2 * (c * (x + y) + (ca + cb))))
unfolding wire_delay_of
shared r c ca cb x y = omega arith

along : (wire : Wire) (a b : Side) (d x : ℕ) → x ≤ d
    → delay_through wire a x + delay_through wire b d
    ≡ delay_through wire b (d - x) + (a.greatest + x * unit_share wire a b d)
along wire a b d x inside =
    let whole : x + (d - x) ≡ d = omega arith in
    let both = shared wire.r wire.c a.load b.load x (d - x) in
    omega (arith, both, ap (λ (n : ℕ). wire_delay_of wire.r wire.c n b.load) whole, ap (λ (n : ℕ). x * unit_share wire a b n) whole)

-- so it is not slower where its own delay and its share are within the second side's delay through all of the distance
not_slower : (wire : Wire) (a b : Side) (d x : ℕ) → x ≤ d
    → a.greatest + x * unit_share wire a b d ≤ delay_through wire b d → IsNotSlower wire a b d x
not_slower wire a b d x inside low = omega (arith, along wire a b d x inside, low)

within_share : (wire : Wire) (a b : Side) (d x : ℕ) → x ≤ d → IsNotSlower wire a b d x
    → a.greatest + x * unit_share wire a b d ≤ delay_through wire b d
within_share wire a b d x inside low = omega (arith, along wire a b d x inside, low)

-- no distance
pub tap_nowhere : (wire : Wire) (a b : Side) (d : ℕ) → d ≡ 0 → IsTap wire a b d 0
tap_nowhere wire a b d none = record {
  inside = omega arith;
  fits = elim (cases_lt (delay_through wire b (d - 0)) (delay_through wire a 0)) [
    | inr low ↦ inl low
    | inl over ↦
        inr (
          refl,
          λ x inside low.
              let x_none : x ≡ 0 = omega arith in
              omega (arith, over, low, ap (delay_through wire a) x_none, ap (λ (n : ℕ). delay_through wire b (d - n)) x_none),
        )
  ];
  greatest = λ x inside low. omega arith;
}

-- the first side's own delay is above the second one's through all of the distance
pub tap_slow : (wire : Wire) (a b : Side) (d : ℕ) → delay_through wire b d < a.greatest → IsTap wire a b d 0
tap_slow wire a b d slow = record {
  inside = omega arith;
  fits = inr (refl, λ x inside low. omega (arith, slow, within_share wire a b d x inside low));
  greatest = λ x inside low. absurd (omega (arith, slow, within_share wire a b d x inside low));
}

module _ (wire : Wire) (a b : Side) (d unit : ℕ) (fast : a.greatest ≤ delay_through wire b d)
    (is : unit ≡ unit_share wire a b d) (some : 0 < unit) where
  fits_to : (x : ℕ) → x ≤ d → x ≤ (delay_through wire b d - a.greatest) / unit → IsNotSlower wire a b d x
  fits_to x inside low =
      let part : (delay_through wire b d - a.greatest) / unit * unit ≤ delay_through wire b d - a.greatest =
      div-mul-le_self (delay_through wire b d - a.greatest) unit in
      let own : x * unit ≤ (delay_through wire b d - a.greatest) / unit * unit = mul-le-mul low (omega arith) in
      not_slower wire a b d x inside (omega (arith, part, own, fast, ap (λ (n : ℕ). x * n) is))

  up_to : (x : ℕ) → x ≤ d → IsNotSlower wire a b d x → x ≤ (delay_through wire b d - a.greatest) / unit
  up_to x inside low =
      let share : a.greatest + x * unit_share wire a b d ≤ delay_through wire b d = within_share wire a b d x inside low in
      le-div x (delay_through wire b d - a.greatest) unit some (omega (arith, share, ap (λ (n : ℕ). x * n) is))

-- the quotient, within the distance
pub tap_inside : (wire : Wire) (a b : Side) (d whole unit : ℕ) → whole ≡ delay_through wire b d → a.greatest ≤ whole
    → unit ≡ unit_share wire a b d → 0 < unit → (whole - a.greatest) / unit < d
    → IsTap wire a b d ((whole - a.greatest) / unit)
tap_inside wire a b d whole unit e fast is some short =
    let same : (whole - a.greatest) / unit ≡ (delay_through wire b d - a.greatest) / unit =
    ap (λ (n : ℕ). (n - a.greatest) / unit) e in
    record {
      inside = omega arith;
      fits = inl (fits_to wire a b d unit (omega arith) is some _ (omega arith) (omega arith));
      greatest = λ x inside low. omega (arith, same, up_to wire a b d unit (omega arith) is some x inside low);
    }

-- or all of it
pub tap_whole : (wire : Wire) (a b : Side) (d whole unit : ℕ) → whole ≡ delay_through wire b d → a.greatest ≤ whole
    → unit ≡ unit_share wire a b d → 0 < unit → d ≤ (whole - a.greatest) / unit → IsTap wire a b d d
tap_whole wire a b d whole unit e fast is some long =
    let same : (whole - a.greatest) / unit ≡ (delay_through wire b d - a.greatest) / unit =
    ap (λ (n : ℕ). (n - a.greatest) / unit) e in
    record {
      inside = omega arith;
      fits = inl (fits_to wire a b d unit (omega arith) is some d (omega arith) (omega (arith, same, long)));
      greatest = λ x inside low. inside;
    }

-- a tap of a distance on which each side is the faster one without a wire, and the next unit
pub taps_of : (wire : Wire) (a b : Side) (gap len : ℕ) → delay_through wire a 0 < delay_through wire b gap
    → delay_through wire b 0 < delay_through wire a gap → IsTap wire a b gap len
    → Taps (delay_through wire a) (delay_through wire b) gap len (gap - (len + 1))
taps_of wire a b gap len fast_a fast_b t =
    let f = delay_through wire a in
    let g = delay_through wire b in
    let start : gap - 0 ≡ gap = omega arith in
    let stop : gap - gap ≡ 0 = omega arith in
    let first : IsNotSlower wire a b gap 0 = omega (arith, fast_a, ap g start) in
    let low : IsNotSlower wire a b gap len = elim t.fits [ inl here ↦ here | inr none ↦ absurd (none.1 0 (omega arith) first) ] in
    let inside : len < gap =
    elim (cases_lt len gap) [
      | inl short ↦ short
      | inr far ↦
          let all : len ≡ gap = omega (arith, far, t.inside) in
          absurd (omega (arith, fast_b, low, ap f all, ap (λ (n : ℕ). g (gap - n)) all, ap g stop))
    ] in
    let next : g (gap - (len + 1)) < f (len + 1) =
    elim (cases_lt (g (gap - (len + 1))) (f (len + 1))) [
      | inl over ↦ over
      | inr not ↦ absurd (omega (arith, t.greatest (len + 1) (omega arith) not))
    ] in
    taps_at f g gap len inside low next
