-- A search over numbered cells. The steps between neighbours have lengths, and each cell has a label: the length of a
-- path from it to the goal, or 2^64 - 1 where none was found.
use Rattle.std.specs.Prelude.{◌≡◌, ℕ, ◌+◌, ◌-◌, ◌*◌, ◌^◌, ◌<◌, ◌≤◌, ◌⊎◌, List, length, slice_index, nat_lt, if◌then◌else◌}
use Rattle.std.specs.List.{sum_by}
use Rattle.cts_route.specs.declared.direction.Direction.{Direction}
use Rattle.cts_route.specs.declared.direction.Direction.TheVariants.{East, West, North, South}
use Rattle.cts_route.specs.declared.graph.Graph.{Graph}
use Rattle.cts_route.specs.Grid.{rank}

-- ---- the cells
-- n is the cell next to c in a direction, where cells next to each other along x are a column apart
abbrev pub IsNextCell : ℕ → Direction → ℕ → ℕ → Type 0
IsNextCell height East c n = n ≡ c + height
IsNextCell height West c n = c ≡ n + height
IsNextCell height North c n = n ≡ c + 1
IsNextCell height South c n = c ≡ n + 1

-- the length of the step between two cells next to each other, and 0 where there is no step
abbrev pub step_length : Graph → Direction → ℕ → ℕ → ℕ
step_length graph East c n = slice_index graph.east.items c
step_length graph West c n = slice_index graph.east.items n
step_length graph North c n = slice_index graph.north.items c
step_length graph South c n = slice_index graph.north.items n

-- a step of some length leads from c to n
pub record IsStep (graph : Graph) (direction : Direction) (c n len : ℕ) : Type 0 where
  pub next : IsNextCell graph.height direction c n
  pub length : len ≡ step_length graph direction c n
  pub positive : 0 < len

-- no step leads from c in the direction
pub record HasNoStep (graph : Graph) (direction : Direction) (c : ℕ) : Type 0 where
  pub none : (n len : ℕ) → IsStep graph direction c n len → ⊥

-- all steps stay inside and are short
pub record IsGraph (graph : Graph) : Type 0 where
  pub cells : length graph.north.items ≡ length graph.east.items
  pub size : length graph.east.items ≤ 2 ^ 18
  pub height : graph.height ≤ 2 ^ 18
  pub east_inside : (c : ℕ) → 0 < slice_index graph.east.items c → c + graph.height < length graph.east.items
  pub north_inside : (c : ℕ) → 0 < slice_index graph.north.items c → c + 1 < length graph.east.items
  pub east_short : (c : ℕ) → slice_index graph.east.items c ≤ 2 ^ 43
  pub north_short : (c : ℕ) → slice_index graph.north.items c ≤ 2 ^ 43

-- ---- the labels
-- how many labels tell no path
abbrev pub no_path : ℕ → ℕ
no_path label = if nat_lt label (2 ^ 64 - 1) then 0 else 1

abbrev pub unreached : List ℕ → ℕ
unreached labels = sum_by no_path labels

-- the sum of the labels
abbrev pub total : List ℕ → ℕ
total labels = sum_by (λ label. label) labels

-- a step leads on from c to a cell whose label is less by the length of the step, or by more
pub record IsSupported (graph : Graph) (labels : List ℕ) (c : ℕ) : Type 0 where
  pub direction : Direction
  pub next : ℕ
  pub len : ℕ
  pub step : IsStep graph direction c next len
  pub less : slice_index labels next + len ≤ slice_index labels c

-- The labels are those of paths to the goal. The more cells have none, the shorter are the others.
pub record AreLabels (graph : Graph) (goal : ℕ) (labels : List ℕ) : Type 0 where
  pub size : length labels ≡ length graph.east.items
  pub goal_inside : goal < length labels
  pub at_goal : slice_index labels goal ≡ 0
  pub supported : (c : ℕ) → c < length labels → slice_index labels c < 2 ^ 64 - 1 → (c ≡ goal) ⊎ IsSupported graph labels c
  pub short : (c : ℕ) → c < length labels → slice_index labels c < 2 ^ 64 - 1
      → slice_index labels c + 2 ^ 43 * unreached labels ≤ 2 ^ 43 * length labels

-- the step from c in a direction brings the next cell no shorter path
pub record IsSettledAt (graph : Graph) (labels : List ℕ) (direction : Direction) (c : ℕ) : Type 0 where
  pub no_shorter : (n len : ℕ) → IsStep graph direction c n len → slice_index labels c < 2 ^ 64 - 1
      → slice_index labels n ≤ slice_index labels c + len

-- no step from c does
pub record IsSettledFrom (graph : Graph) (labels : List ℕ) (c : ℕ) : Type 0 where
  pub at : (direction : Direction) → IsSettledAt graph labels direction c

-- nor does it where the label of c is at most that of the start
pub record IsSettledBelow (graph : Graph) (labels : List ℕ) (start c : ℕ) : Type 0 where
  pub at : slice_index labels c ≤ slice_index labels start → IsSettledFrom graph labels c

-- no step does from a cell whose label is at most that of the start
pub record IsSettled (graph : Graph) (labels : List ℕ) (start : ℕ) : Type 0 where
  pub from : (c : ℕ) → c < length labels → IsSettledBelow graph labels start c

-- the label falls by the whole of the step from c to n
pub record IsFall (graph : Graph) (labels : List ℕ) (direction : Direction) (c n len : ℕ) : Type 0 where
  pub step : IsStep graph direction c n len
  pub whole : slice_index labels c ≡ slice_index labels n + len

-- the label falls by less than the step from c in a direction
pub record HasNoFall (graph : Graph) (labels : List ℕ) (direction : Direction) (c : ℕ) : Type 0 where
  pub less : (n len : ℕ) → IsStep graph direction c n len → slice_index labels n < 2 ^ 64 - 1
      → slice_index labels c < slice_index labels n + len

-- the label falls by the whole of the step, and by less in each earlier direction
pub record IsFirstFall (graph : Graph) (labels : List ℕ) (direction : Direction) (c n len : ℕ) : Type 0 where
  pub fall : IsFall graph labels direction c n len
  pub first : (other : Direction) → rank other < rank direction → HasNoFall graph labels other c
