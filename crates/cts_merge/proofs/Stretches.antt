-- The length at which a rising delay comes nearest to a target.
use Rattle.std.proofs.Common.{ℕ, zero, suc, ◌+◌, ◌-◌, ◌<◌, ◌≤◌, inl, inr, arith}
use Rattle.std.proofs.lemmas.Bool.{cases_lt}
use Rattle.std.specs.Int.{abs_diff}
use Rattle.cts_merge.specs.Stretch.{IsStretch}
use Rattle.cts_merge.proofs.Rising.{Rises, order, crossing}

-- the longest length at which the delay is at most the target, where it is no farther from it than the next one
pub stretch_below : (f : ℕ → ℕ) → Rises f → (base target len : ℕ) → base ≤ len
    → f len ≤ target → target < f (len + 1) → target - f len ≤ f (len + 1) - target
    → IsStretch f base target len
stretch_below f up base target len from here next closer = record {
  reaches = from;
  nearest = λ x low. omega (arith, order f up x len, order f up x (len + 1));
  shortest = λ x low same. omega (arith, order f up x len, order f up x (len + 1));
}

-- the next one, where it is nearer
pub stretch_above : (f : ℕ → ℕ) → Rises f → (base target len : ℕ) → base ≤ len
    → f len ≤ target → target < f (len + 1) → f (len + 1) - target < target - f len
    → IsStretch f base target (len + 1)
stretch_above f up base target len from here next closer = record {
  reaches = omega arith;
  nearest = λ x low. omega (arith, order f up x len, order f up x (len + 1));
  shortest = λ x low same. omega (arith, order f up x len, order f up x (len + 1));
}

-- a delay that rises is at least its length
above_length : (f : ℕ → ℕ) → Rises f → (n base : ℕ) → n ≤ f (base + n)
above_length f up zero base = omega arith
above_length f up (suc n) base =
    omega (arith, above_length f up n base, up.rises (base + n) (base + suc n) (omega arith))

pub record HasStretch (f : ℕ → ℕ) (base target : ℕ) : Type 0 where
  pub len : ℕ
  pub stretch : IsStretch f base target len

pub stretch_exists : (f : ℕ → ℕ) → Rises f → (base target : ℕ) → f base ≤ target → HasStretch f base target
stretch_exists f up base target low =
    let r = crossing f (λ _. target) (target + 1) base low (omega (arith, above_length f up (target + 1) base)) in
    let here : f r.at ≤ target = r.here in
    let next : target < f (r.at + 1) = r.next in
    elim (cases_lt (f (r.at + 1) - target) (target - f r.at)) [
      | inl closer ↦ record { len = r.at + 1; stretch = stretch_above f up base target r.at r.from here next closer }
      | inr closer ↦ record { len = r.at; stretch = stretch_below f up base target r.at r.from here next closer }
    ]

-- where the delay at a length is still at most the target, the nearest length is no shorter
pub stretch_past : (f : ℕ → ℕ) → Rises f → (base target len far : ℕ) → IsStretch f base target len
    → f far ≤ target → far ≤ len
stretch_past f up base target len far s low =
    elim (cases_lt len far) [
      | inr there ↦ there
      | inl short ↦
          let rose : f len < f far = up.rises len far short in
          let near : abs_diff (f len) target ≤ abs_diff (f far) target = s.nearest far (omega (arith, s.reaches)) in
          absurd (omega arith)
    ]

-- a base at which the delay is at most the target is no longer than the longest such length
pub base_below : (f : ℕ → ℕ) → Rises f → (base target len : ℕ) → f base ≤ target → target < f (len + 1) → base ≤ len
base_below f up base target len low next = omega (arith, order f up base (len + 1))
