-- How a list of ids is kept.
use Rattle.std.specs.Prelude.{◌≡◌, ℕ, ◌≤◌, ◌^◌, false, nat_eq, List, length, take}
use Rattle.std.specs.List.{list_any}
use Rattle.std.specs.Ordering.{nat_cmp}
use Rattle.std.specs.BTreeSet.{BTreeSet, contains}

-- the set has exactly the first ids, so many of them
unfoldable pub HasFirst : List ℕ → ℕ → BTreeSet ℕ → Type 0
HasFirst ids count known = (id : ℕ) → contains nat_cmp known id ≡ list_any (nat_eq id) (take count ids)

-- all ids come before an end
unfoldable pub EndsBefore : List ℕ → ℕ → Type 0
EndsBefore ids end = (id : ℕ) → end ≤ id → list_any (nat_eq id) ids ≡ false

pub record IsOrderedInPart (ids : List ℕ) (known : BTreeSet ℕ) (ordered : ℕ) (end : ℕ) : Type 0 where
  pub within : ordered ≤ length ids
  pub first : HasFirst ids ordered known
  pub ends : EndsBefore ids end
  pub end_fits : end ≤ 2 ^ 32
