-- What a report prints. Each number is that of its digits, without the point: the text of a report is a function of these
-- numbers alone, whoever wrote it.
use Rattle.std.specs.Prelude.{ℕ, Bool, List, Option}

-- a point, by its x and y in 10^-4 µm
pub record PrintedPoint : Type 0 where
  pub x : ℕ
  pub y : ℕ

-- a leaf, by the id of its sink; or a pair, by the numbers of its left and right child, the index of its buffer, if it has
-- one, and its residue in 10^-16 ps
pub data PrintedKind : Type 0 where
  sink_leaf : ℕ → PrintedKind
  pair_node : ℕ → ℕ → Option ℕ → ℕ → PrintedKind

-- a node, with its load in 10^-6 fF, its delay, its arrival, where it is printed, and its slew in 10^-16 ps, and its wire in
-- 10^-3 µm
pub record PrintedNode : Type 0 where
  pub kind : PrintedKind
  pub place : PrintedPoint
  pub load : ℕ
  pub delay : ℕ
  pub arrival : Option ℕ
  pub slew : ℕ
  pub wire : ℕ
  pub corners : List PrintedPoint

-- the greatest and the least arrival of a leaf, in the same units
pub record PrintedArrivals : Type 0 where
  pub greatest : ℕ
  pub least : ℕ

-- the figures of the whole tree, in the same units
pub record PrintedTotals : Type 0 where
  pub source_load : ℕ
  pub wire_total : ℕ
  pub greatest : ℕ
  pub least : ℕ
  pub arrivals : Option PrintedArrivals
  pub skew : ℕ
  pub bound : ℕ
  pub load_met : Bool
  pub slew_met : Bool

-- a report: its nodes by rising number, and the figures of the whole tree
pub record Printed : Type 0 where
  pub nodes : List PrintedNode
  pub totals : PrintedTotals
