-- One length at a time: the length at which a delay that rises with it comes nearest to a target.
use Rattle.std.specs.Prelude.{◌≡◌, ℕ, ◌+◌, ◌<◌, ◌≤◌}
use Rattle.std.specs.Int.{abs_diff}
use Rattle.cts_units.specs.Limits.{max_length}
use Rattle.cts_merge.specs.declared.lengths.Bracket.{Bracket}

-- of all lengths from a base on, the delay at this one is nearest to the target, and no shorter one is as near
pub record IsStretch (delay : ℕ → ℕ) (base target len : ℕ) : Type 0 where
  pub reaches : base ≤ len
  pub nearest : (x : ℕ) → base ≤ x → abs_diff (delay len) target ≤ abs_diff (delay x) target
  pub shortest : (x : ℕ) → base ≤ x → abs_diff (delay x) target ≡ abs_diff (delay len) target → len ≤ x

-- that length is over the limit of one wire
pub record IsLongStretch (delay : ℕ → ℕ) (base target : ℕ) : Type 0 where
  pub len : ℕ
  pub stretch : IsStretch delay base target len
  pub long : max_length < len

-- the last length at which the delay is at most the target, within the limit of one wire
pub record IsLastBelow (delay : ℕ → ℕ) (target len : ℕ) : Type 0 where
  pub within : len ≤ max_length
  pub here : delay len ≤ target
  pub next : target < delay (len + 1)

-- a bracket has this length, what the delay there lacks of the target, and what the delay one unit further is over it
pub record IsBracket (delay : ℕ → ℕ) (target : ℕ) (b : Bracket) : Type 0 where
  pub last : IsLastBelow delay target b.length
  pub short_by : delay b.length + b.short_by ≡ target
  pub long_by : delay (b.length + 1) ≡ target + b.long_by
