-- How large the difference of a least pair can be, by comparing the pair with a neighbour of it: one unit more on
-- the faster side, or one unit moved to it, or one unit less on the slower side.
use Rattle.std.proofs.Common.{◌≡◌, ℕ, ◌+◌, ◌-◌, ◌*◌, ◌<◌, ◌≤◌, ◌⊎◌, inl, inr, refl, ap, arith}
use Rattle.std.proofs.lemmas.Bool.{cases_lt}
use Rattle.std.specs.Int.{abs_diff}
use Rattle.cts_merge.specs.LeastPair.{Spans, Covers}

-- what one more unit of length adds to a delay, always something
pub record Climbs (f step : ℕ → ℕ) : Type 0 where
  pub climbs : (x : ℕ) → f (x + 1) ≡ f x + step x
  pub rising : (x : ℕ) → 0 < step x

-- Twice the difference D of a pair, whose first side is the slower one, is at most the step of the other side ..
pub record IsFasterStep (step_g : ℕ → ℕ) (D y : ℕ) : Type 0 where
  pub bound : 2 * D ≤ step_g y

-- .. or the steps that the first side, of a length above 0, was raised by, and of the other side.
pub record IsBothSteps (step_f step_g : ℕ → ℕ) (D x y : ℕ) : Type 0 where
  pub low : ℕ
  pub next : x ≡ low + 1
  pub bound : 2 * D ≤ step_f low + step_g y

-- the slower side has a length of 0: one unit more on the other side
from_zero : (f g step_g : ℕ → ℕ) → Climbs g step_g → (gap x y : ℕ) → Spans gap x y
    → ((u v : ℕ) → Spans gap u v → abs_diff (f x) (g y) ≤ abs_diff (f u) (g v)) → g y < f x → x ≡ 0
    → 2 * abs_diff (f x) (g y) ≤ step_g y
from_zero f g step_g climb gap x y ok least slow none =
    let e : f x ≡ f 0 = ap f none in
    let reaches : gap ≤ y = omega (arith, ok) in
    let longer : abs_diff (f x) (g y) ≤ abs_diff (f 0) (g (y + 1)) = least 0 (y + 1) (inr (inl (refl, omega arith))) in
    omega (arith, longer, climb.climbs y, climb.rising y)

-- one unit moved from the slower side to the other one, or taken from its snake
from_next : (f g step_f step_g : ℕ → ℕ) → Climbs f step_f → Climbs g step_g → (gap x y low : ℕ) → Spans gap x y
    → ((u v : ℕ) → Spans gap u v → abs_diff (f x) (g y) ≤ abs_diff (f u) (g v)) → g y < f x → x ≡ low + 1
    → 2 * abs_diff (f x) (g y) ≤ step_f low + step_g y
from_next f g step_f step_g climb_f climb_g gap x y low ok least slow next =
    let e : f x ≡ f (low + 1) = ap f next in
    elim (cases_lt (low + y) gap) [
      | inl tight ↦
          let line : x + y ≡ gap = omega (arith, ok) in
          let moved : abs_diff (f x) (g y) ≤ abs_diff (f low) (g (y + 1)) = least low (y + 1) (inl (omega arith)) in
          omega (arith, moved, climb_f.climbs low, climb_f.rising low, climb_g.climbs y, climb_g.rising y)
      | inr loose ↦
          let alone : y ≡ 0 = omega (arith, ok) in
          let shorter : abs_diff (f x) (g y) ≤ abs_diff (f low) (g y) = least low y (inr (inr (alone, omega arith))) in
          omega (arith, shorter, climb_f.climbs low, climb_f.rising low)
    ]

pub spans_residue : (f g step_f step_g : ℕ → ℕ) → Climbs f step_f → Climbs g step_g → (gap x y : ℕ) → Spans gap x y
    → ((u v : ℕ) → Spans gap u v → abs_diff (f x) (g y) ≤ abs_diff (f u) (g v)) → g y < f x
    → IsFasterStep step_g (abs_diff (f x) (g y)) y ⊎ IsBothSteps step_f step_g (abs_diff (f x) (g y)) x y
spans_residue f g step_f step_g climb_f climb_g gap x y ok least slow =
    elim (cases_lt 0 x) [
      | inl some ↦
          let next : x ≡ x - 1 + 1 = omega arith in
          inr (record { low = x - 1; next = next; bound = from_next f g step_f step_g climb_f climb_g gap x y (x - 1) ok least slow next })
      | inr none ↦ inl (record { bound = from_zero f g step_g climb_g gap x y ok least slow (omega arith) })
    ]

-- one unit more on the faster side, whose route or more is laid
longer_second : (f g step_g : ℕ → ℕ) → Climbs g step_g → (la lb x y : ℕ) → x ≡ la → lb ≤ y
    → ((u v : ℕ) → Covers la lb u v → abs_diff (f x) (g y) ≤ abs_diff (f u) (g v)) → g y < f x
    → 2 * abs_diff (f x) (g y) ≤ step_g y
longer_second f g step_g climb la lb x y route reaches least slow =
    let e : f x ≡ f la = ap f route in
    let longer : abs_diff (f x) (g y) ≤ abs_diff (f la) (g (y + 1)) = least la (y + 1) (inl (refl, omega arith)) in
    omega (arith, longer, climb.climbs y, climb.rising y)

-- one unit less on the slower side, which has more than its route
shorter_first : (f g step_f : ℕ → ℕ) → Climbs f step_f → (la lb x y low : ℕ) → y ≡ lb → la ≤ low → x ≡ low + 1
    → ((u v : ℕ) → Covers la lb u v → abs_diff (f x) (g y) ≤ abs_diff (f u) (g v)) → g y < f x
    → 2 * abs_diff (f x) (g y) ≤ step_f low
shorter_first f g step_f climb la lb x y low route reaches next least slow =
    let e : f x ≡ f (low + 1) = ap f next in
    let e' : g y ≡ g lb = ap g route in
    let shorter : abs_diff (f x) (g y) ≤ abs_diff (f low) (g lb) = least low lb (inr (refl, reaches)) in
    omega (arith, shorter, climb.climbs low, climb.rising low)

pub covers_residue : (f g step_f step_g : ℕ → ℕ) → Climbs f step_f → Climbs g step_g → (la lb x y : ℕ) → Covers la lb x y
    → ((u v : ℕ) → Covers la lb u v → abs_diff (f x) (g y) ≤ abs_diff (f u) (g v)) → g y < f x
    → IsFasterStep step_g (abs_diff (f x) (g y)) y ⊎ ((low : ℕ) × (x ≡ low + 1) × (2 * abs_diff (f x) (g y) ≤ step_f low))
covers_residue f g step_f step_g climb_f climb_g la lb x y ok least slow =
    elim (cases_lt la x) [
      | inl more ↦
          let next : x ≡ x - 1 + 1 = omega arith in
          let route : y ≡ lb = omega (arith, ok) in
          inr (x - 1, next, shorter_first f g step_f climb_f la lb x y (x - 1) route (omega arith) next least slow)
      | inr least_x ↦
          let route : x ≡ la = omega (arith, ok) in
          let reaches : lb ≤ y = omega (arith, ok) in
          inl (record { bound = longer_second f g step_g climb_g la lb x y route reaches least slow })
    ]
