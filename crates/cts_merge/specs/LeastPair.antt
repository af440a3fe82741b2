-- The order of pairs of wire lengths, the pairs that are admissible, and the least of them. The delay of each
-- of the two sides is a function of the length of its wire, and lengths have no upper bound here.
-- After the exact zero-skew merge of Tsay; the choice in whole units is this project's.
use Rattle.std.specs.Prelude.{◌≡◌, ℕ, ◌+◌, ◌<◌, ◌≤◌, ◌⊎◌}
use Rattle.std.specs.Int.{abs_diff}
use Rattle.cts_units.specs.Limits.{max_length}

-- (difference, total, length) comes before another such triple, or is equal to it
pub record IsNoLater (difference total length difference' total' length' : ℕ) : Type 0 where
  pub by_difference : difference ≤ difference'
  pub by_total : difference' ≡ difference → total ≤ total'
  pub by_length : difference' ≡ difference → total' ≡ total → length ≤ length'

-- The least admissible pair: by the difference of the two delays, then by the total length, then by the
-- length on the first side.
pub record IsLeastPair (first second : ℕ → ℕ) (Admissible : ℕ → ℕ → Type 0) (ea eb : ℕ) : Type 0 where
  pub admissible : Admissible ea eb
  pub no_later : (xa xb : ℕ) → Admissible xa xb
      → IsNoLater (abs_diff (first ea) (second eb)) (ea + eb) ea (abs_diff (first xa) (second xb)) (xa + xb) xa

-- At a merge: the two wires span the gap, or one has no length and the other one, which may snake, at least the gap.
abbrev pub Spans : ℕ → ℕ → ℕ → Type 0
Spans gap ea eb = (ea + eb ≡ gap) ⊎ (((ea ≡ 0) × (gap ≤ eb)) ⊎ ((eb ≡ 0) × (gap ≤ ea)))

-- In balance: one wire has the length of its route, and the other one at least that of its own.
abbrev pub Covers : ℕ → ℕ → ℕ → ℕ → Type 0
Covers la lb xa xb = ((xa ≡ la) × (lb ≤ xb)) ⊎ ((xb ≡ lb) × (la ≤ xa))

-- there is a least pair
pub record HasLeastPair (first second : ℕ → ℕ) (Admissible : ℕ → ℕ → Type 0) : Type 0 where
  pub ea : ℕ
  pub eb : ℕ
  pub least : IsLeastPair first second Admissible ea eb

-- the least pair has a wire that is longer than the limit
pub record IsTooLong (first second : ℕ → ℕ) (Admissible : ℕ → ℕ → Type 0) : Type 0 where
  pub ea : ℕ
  pub eb : ℕ
  pub least : IsLeastPair first second Admissible ea eb
  pub long : (max_length < ea) ⊎ (max_length < eb)
