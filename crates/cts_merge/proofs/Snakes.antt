-- Snakes and stretches as the code meets them: the target is a number that is equal to the other side's delay.
use Rattle.std.proofs.Common.{◌≡◌, ℕ, ◌+◌, ◌*◌, ◌<◌, ◌≤◌, ◌⊎◌, Result, IfErr, Ok, Err, inl, inr, subst, arith}
use Rattle.std.proofs.lemmas.Bool.{cases_lt}
use Rattle.cts_units.specs.Limits.{max_length}
use Rattle.cts_merge.specs.LeastPair.{IsLeastPair, IsTooLong, Spans, Covers}
use Rattle.cts_merge.specs.Stretch.{IsStretch, IsLongStretch}
use Rattle.cts_merge.proofs.Rising.{Rises}
use Rattle.cts_merge.proofs.MergePairs.{spans_first, spans_second, spans_exists}
use Rattle.cts_merge.proofs.BalancePairs.{covers_first, covers_second, covers_exists}

-- what holds whatever the error is holds for a result's error
pub for_error : {T E : Type 0} (r : Result T E) (X : Type 0) → X → IfErr r (λ _. X)
for_error (Ok value) X x = tt
for_error (Err error) X x = x

pub snake_first : (f g : ℕ → ℕ) → Rises f → Rises g → (gap start eb : ℕ) → start ≡ f 0 → g gap ≤ start
    → IsStretch g gap start eb → IsLeastPair f g (Spans gap) 0 eb
snake_first f g up_f up_g gap start eb e slow s =
    spans_first f g up_f up_g gap eb (omega arith) (subst (λ (t : ℕ). IsStretch g gap t eb) e s)

pub snake_second : (f g : ℕ → ℕ) → Rises f → Rises g → (gap start ea : ℕ) → start ≡ g 0 → f gap ≤ start
    → IsStretch f gap start ea → IsLeastPair f g (Spans gap) ea 0
snake_second f g up_f up_g gap start ea e slow s =
    spans_second f g up_f up_g gap ea (omega arith) (subst (λ (t : ℕ). IsStretch f gap t ea) e s)

pub long_snake_first : (f g : ℕ → ℕ) → Rises f → Rises g → (gap start : ℕ) → start ≡ f 0 → g gap ≤ start
    → IsLongStretch g gap start → IsTooLong f g (Spans gap)
long_snake_first f g up_f up_g gap start e slow s =
    record { ea = 0; eb = s.len; least = snake_first f g up_f up_g gap start s.len e slow s.stretch; long = inr s.long }

pub long_snake_second : (f g : ℕ → ℕ) → Rises f → Rises g → (gap start : ℕ) → start ≡ g 0 → f gap ≤ start
    → IsLongStretch f gap start → IsTooLong f g (Spans gap)
long_snake_second f g up_f up_g gap start e slow s =
    record { ea = s.len; eb = 0; least = snake_second f g up_f up_g gap start s.len e slow s.stretch; long = inl s.long }

-- a gap of more than two wires
pub long_gap : (f g : ℕ → ℕ) → Rises f → Rises g → (gap : ℕ) → 2 * max_length < gap → IsTooLong f g (Spans gap)
long_gap f g up_f up_g gap wide =
    let p = spans_exists f g up_f up_g gap in
    let whole : gap ≤ p.ea + p.eb = omega (arith, p.least.admissible) in
    record {
      ea = p.ea;
      eb = p.eb;
      least = p.least;
      long = elim (cases_lt max_length p.ea) [ inl long ↦ inl long | inr short ↦ inr (omega arith) ];
    }

pub stretch_first : (f g : ℕ → ℕ) → Rises f → Rises g → (la lb slow xb : ℕ) → slow ≡ f la → g lb ≤ slow
    → IsStretch g lb slow xb → IsLeastPair f g (Covers la lb) la xb
stretch_first f g up_f up_g la lb slow xb e fast s =
    covers_first f g up_f up_g la lb xb (omega arith) (subst (λ (t : ℕ). IsStretch g lb t xb) e s)

pub stretch_second : (f g : ℕ → ℕ) → Rises f → Rises g → (la lb slow xa : ℕ) → slow ≡ g lb → f la ≤ slow
    → IsStretch f la slow xa → IsLeastPair f g (Covers la lb) xa lb
stretch_second f g up_f up_g la lb slow xa e fast s =
    covers_second f g up_f up_g la lb xa (omega arith) (subst (λ (t : ℕ). IsStretch f la t xa) e s)

pub long_stretch_first : (f g : ℕ → ℕ) → Rises f → Rises g → (la lb slow : ℕ) → slow ≡ f la → g lb ≤ slow
    → IsLongStretch g lb slow → IsTooLong f g (Covers la lb)
long_stretch_first f g up_f up_g la lb slow e fast s =
    record { ea = la; eb = s.len; least = stretch_first f g up_f up_g la lb slow s.len e fast s.stretch; long = inr s.long }

pub long_stretch_second : (f g : ℕ → ℕ) → Rises f → Rises g → (la lb slow : ℕ) → slow ≡ g lb → f la ≤ slow
    → IsLongStretch f la slow → IsTooLong f g (Covers la lb)
long_stretch_second f g up_f up_g la lb slow e fast s =
    record { ea = s.len; eb = lb; least = stretch_second f g up_f up_g la lb slow s.len e fast s.stretch; long = inl s.long }

-- a route of more than one wire
pub long_route : (f g : ℕ → ℕ) → Rises f → Rises g → (la lb : ℕ) → (max_length < la) ⊎ (max_length < lb)
    → IsTooLong f g (Covers la lb)
long_route f g up_f up_g la lb long =
    let p = covers_exists f g up_f up_g la lb in
    let first : la ≤ p.ea = omega (arith, p.least.admissible) in
    let second : lb ≤ p.eb = omega (arith, p.least.admissible) in
    record {
      ea = p.ea;
      eb = p.eb;
      least = p.least;
      long = elim long [ inl a ↦ inl (omega arith) | inr b ↦ inr (omega arith) ];
    }
