-- The least pair over two routes: the slower side keeps its route, and the other one is stretched.
use Rattle.std.proofs.Common.{◌≡◌, ℕ, ◌≤◌, inl, inr, refl, ap, arith}
use Rattle.std.proofs.lemmas.Bool.{cases_lt}
use Rattle.std.specs.Int.{abs_diff}
use Rattle.cts_merge.specs.LeastPair.{IsLeastPair, HasLeastPair, Covers}
use Rattle.cts_merge.specs.Stretch.{IsStretch}
use Rattle.cts_merge.proofs.Rising.{Rises, order}
use Rattle.cts_merge.proofs.Stretches.{stretch_exists}

-- the first side is no faster at its route
pub covers_first : (f g : ℕ → ℕ) → Rises f → Rises g → (la lb xb : ℕ) → g lb ≤ f la
    → IsStretch g lb (f la) xb → IsLeastPair f g (Covers la lb) la xb
covers_first f g up_f up_g la lb xb slow s = record {
  admissible = inl (refl, s.reaches);
  no_later = λ u v ok. elim ok [
    | inl kept ↦
        let e : f u ≡ f la = ap f kept.0 in
        record {
          by_difference = omega (arith, s.nearest v kept.1);
          by_total = λ same. omega (arith, s.shortest v kept.1 (omega arith));
          by_length = λ same total. omega arith;
        }
    | inr kept ↦
        let e : g v ≡ g lb = ap g kept.0 in
        let near : abs_diff (g xb) (f la) ≤ abs_diff (g lb) (f la) = s.nearest lb (omega arith) in
        record {
          by_difference = omega (arith, order f up_f u la);
          by_total = λ same. omega (arith, order f up_f u la, s.shortest lb (omega arith) (omega (arith, order f up_f u la)));
          by_length = λ same total. omega arith;
        }
  ];
}

-- the second side is no faster at its route
pub covers_second : (f g : ℕ → ℕ) → Rises f → Rises g → (la lb xa : ℕ) → f la ≤ g lb
    → IsStretch f la (g lb) xa → IsLeastPair f g (Covers la lb) xa lb
covers_second f g up_f up_g la lb xa slow s = record {
  admissible = inr (refl, s.reaches);
  no_later = λ u v ok. elim ok [
    | inr kept ↦
        let e : g v ≡ g lb = ap g kept.0 in
        record {
          by_difference = omega (arith, s.nearest u kept.1);
          by_total = λ same. omega (arith, s.shortest u kept.1 (omega arith));
          by_length = λ same total. omega arith;
        }
    | inl kept ↦
        let e : f u ≡ f la = ap f kept.0 in
        let near : abs_diff (f xa) (g lb) ≤ abs_diff (f la) (g lb) = s.nearest la (omega arith) in
        record {
          by_difference = omega (arith, order g up_g v lb);
          by_total = λ same. omega (arith, order g up_g v lb, s.shortest la (omega arith) (omega (arith, order g up_g v lb)));
          by_length = λ same total. omega (arith, order g up_g v lb, s.shortest la (omega arith) (omega (arith, order g up_g v lb)));
        }
  ];
}

pub covers_exists : (f g : ℕ → ℕ) → Rises f → Rises g → (la lb : ℕ) → HasLeastPair f g (Covers la lb)
covers_exists f g up_f up_g la lb =
    elim (cases_lt (f la) (g lb)) [
      | inr slow ↦
          let s = stretch_exists g up_g lb (f la) slow in
          record { ea = la; eb = s.len; least = covers_first f g up_f up_g la lb s.len slow s.stretch }
      | inl slow ↦
          let low : f la ≤ g lb = omega arith in
          let s = stretch_exists f up_f la (g lb) low in
          record { ea = s.len; eb = lb; least = covers_second f g up_f up_g la lb s.len low s.stretch }
    ]
