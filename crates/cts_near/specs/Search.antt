-- How the closest two subtrees are found: they stand by rising names, so that ties by name are ties by place, and each has
-- a bound that is at most its gap to every later one.
use Rattle.std.specs.Prelude.{◌≡◌, ◌≢◌, ℕ, ◌<◌, ◌≤◌, List, length, slice_index, slice_index_or}
use Rattle.cts_geom.specs.Regions.{gap_of}
use Rattle.cts_near.specs.declared.subtree.Subtree.{Subtree}
use Rattle.cts_near.specs.Closest.{IsNoLater}

-- how far apart two subtrees are, in nm
abbrev pub gap_from : Subtree → Subtree → ℕ
gap_from s t = gap_of s.side.region t.side.region

-- each bound is at most the gap of its subtree to every later one
pub record AreBounds (subtrees : List Subtree) (bounds : List ℕ) : Type 0 where
  pub count : length bounds ≡ length subtrees
  pub below : (i j : ℕ) (d e : Subtree) → i < j → j < length subtrees
      → slice_index bounds i ≤ gap_from (slice_index_or subtrees i d) (slice_index_or subtrees j e)

-- the same but for the subtree at `place`, which is new
pub record AreOtherBounds (place : ℕ) (subtrees : List Subtree) (bounds : List ℕ) : Type 0 where
  pub count : length bounds ≡ length subtrees
  pub below : (i j : ℕ) (d e : Subtree) → i < j → j < length subtrees → i ≢ place → j ≢ place
      → slice_index bounds i ≤ gap_from (slice_index_or subtrees i d) (slice_index_or subtrees j e)

-- the first of the later subtrees that are nearest to the one at `place`, and how far it is
pub record IsNearestLater (subtrees : List Subtree) (place later gap : ℕ) : Type 0 where
  pub after : place < later
  pub within : later < length subtrees
  pub is : (d e : Subtree) → gap ≡ gap_from (slice_index_or subtrees place d) (slice_index_or subtrees later e)
  pub least : (k : ℕ) (d e : Subtree) → place < k → k < length subtrees
      → gap ≤ gap_from (slice_index_or subtrees place d) (slice_index_or subtrees k e)
  pub first : (k : ℕ) (d e : Subtree) → place < k → k < later
      → gap < gap_from (slice_index_or subtrees place d) (slice_index_or subtrees k e)

-- of all pairs of subtrees, these two are least by gap, then by the place of the first, then by that of the second
pub record AreClosestPlaces (subtrees : List Subtree) (first second : ℕ) : Type 0 where
  pub in_order : first < second
  pub within : second < length subtrees
  pub no_later : (i j : ℕ) (c d e f : Subtree) → i < j → j < length subtrees
      → IsNoLater (gap_from (slice_index_or subtrees first c) (slice_index_or subtrees second d)) first second
      (gap_from (slice_index_or subtrees i e) (slice_index_or subtrees j f)) i j
