-- The lengths of a pair's wires over the routes to its two children, in the balance of a placed tree.
use Rattle.std.specs.Prelude.{ℕ, ◌≤◌}
use Rattle.cts_units.specs.declared.params.Wire.{Wire}
use Rattle.cts_units.specs.Limits.{max_length}
use Rattle.cts_merge.specs.declared.side.Side.{Side}
use Rattle.cts_merge.specs.LeastPair.{IsLeastPair, IsTooLong, Covers}
use Rattle.cts_merge.specs.Side.{delay_through}

-- the least pair of lengths of two sides, over routes of these lengths
abbrev pub IsBalancePair : Wire → Side → ℕ → Side → ℕ → ℕ → ℕ → Type 0
IsBalancePair wire a la b lb xa xb = IsLeastPair (delay_through wire a) (delay_through wire b) (Covers la lb) xa xb

-- that pair, with both lengths within the limit of one wire
pub record IsBalanced (wire : Wire) (a : Side) (la : ℕ) (b : Side) (lb xa xb : ℕ) : Type 0 where
  pub least : IsBalancePair wire a la b lb xa xb
  pub xa_within : xa ≤ max_length
  pub xb_within : xb ≤ max_length

-- that pair has a length over the limit of one wire
abbrev pub IsBeyondBalance : Wire → Side → ℕ → Side → ℕ → Type 0
IsBeyondBalance wire a la b lb = IsTooLong (delay_through wire a) (delay_through wire b) (Covers la lb)
