-- Steps of the search for the nearest free point.
use Rattle.std.proofs.Common.{◌≡◌, ◌<◌, ℤ, ◌-ℤ◌, ◌≤ℤ◌, sym, ap, ◌∙◌, arith}
use Rattle.std.specs.Prelude.{unsigned_abs}
use Rattle.std.proofs.lemmas.Int.{ints, by_lt_z}
use Rattle.cts_geom.specs.declared.points.Half.{Half}
use Rattle.cts_geom.specs.declared.bounds.Die.{Die}
use Rattle.cts_block.specs.declared.blocks.Block.{Block}
use Rattle.cts_block.specs.declared.whole.Whole.{Whole}
use Rattle.cts_block.specs.declared.whole.Range.{Range}
use Rattle.cts_block.specs.declared.whole.Segment.{Segment}
use Rattle.cts_block.specs.FreePoints.{IsPointInRange, IsHalfInDie, IsHalfInside}
use Rattle.cts_block.specs.NearestFree.{IsDieInRange, LiesIn}
use Rattle.cts_block.specs.Search.{IsWholeInRange, IsFreeAmong, IsAhead, IsClosest, IsOn, IsSegmentIn, rows_of, half_of}
use Rattle.cts_block.proofs.OrderLemmas.{ahead_trans, upper_is_later, lower_is_later}

pub range_in_die : (die : Die) → IsDieInRange die → (p : Whole) → IsHalfInDie die (half_of p) → IsWholeInRange p
range_in_die die range p in_die = record {
  x = record { low = omega (arith, ints, in_die.x.at_least, range.x1.low); high = omega (arith, ints, in_die.x.at_most, range.x2.high) };
  y = record { low = omega (arith, ints, in_die.y.at_least, range.y1.low); high = omega (arith, ints, in_die.y.at_most, range.y2.high) };
}

pub point_in_range : (die : Die) → IsDieInRange die → (point : Half) → IsHalfInDie die point → IsPointInRange point
point_in_range die range point in_die = record { x = omega (arith, ints, in_die.x.at_most, range.x2.high); y = omega (arith, ints, in_die.y.at_most, range.y2.high) }

pub point_in_die : (die : Die) (x y : ℤ) → die.x1 ≤ℤ x → x ≤ℤ die.x2 → die.y1 ≤ℤ y → y ≤ℤ die.y2 → IsHalfInDie die (half_of (record { x = x; y = y }))
point_in_die die x y left right low high = record {
  x = record { at_least = omega (arith, ints, left); at_most = omega (arith, ints, right) };
  y = record { at_least = omega (arith, ints, low); at_most = omega (arith, ints, high) };
}

pub left_edge_in_die : (die : Die) (block : Block) (edge : Segment) → LiesIn die block
    → edge.bottom ≡ record { x = block.x1; y = block.y1 } → edge.top ≡ record { x = block.x1; y = block.y2 } → IsSegmentIn die edge
left_edge_in_die die block edge lies bottom top = record {
  bottom = rw bottom (point_in_die die block.x1 block.y1 lies.from.west lies.from.east lies.from.south lies.from.north);
  top = rw top (point_in_die die block.x1 block.y2 lies.from.west lies.from.east lies.to.south lies.to.north);
}

pub right_edge_in_die : (die : Die) (block : Block) (edge : Segment) → LiesIn die block
    → edge.bottom ≡ record { x = block.x2; y = block.y1 } → edge.top ≡ record { x = block.x2; y = block.y2 } → IsSegmentIn die edge
right_edge_in_die die block edge lies bottom top = record {
  bottom = rw bottom (point_in_die die block.x2 block.y1 lies.to.west lies.to.east lies.from.south lies.from.north);
  top = rw top (point_in_die die block.x2 block.y2 lies.to.west lies.to.east lies.to.south lies.to.north);
}

-- a point at the x of an edge and within its y lies on it
pub on_edge : (edge : Segment) (x low high : ℤ) (q : Whole) → edge.bottom ≡ record { x = x; y = low } → edge.top ≡ record { x = x; y = high }
    → q.x ≡ x → low ≤ℤ q.y → q.y ≤ℤ high → IsOn edge q
on_edge edge x low high q bottom top column above below =
    let bottom_x : edge.bottom.x ≡ x = ap (λ (p : Whole). p.x) bottom in
    let bottom_y : edge.bottom.y ≡ low = ap (λ (p : Whole). p.y) bottom in
    let top_y : edge.top.y ≡ high = ap (λ (p : Whole). p.y) top in
    record { column = column ∙ sym bottom_x; low = omega (arith, ints); high = omega (arith, ints) }

-- from a point inside a block up to its upper edge
module _ (Counts : Block → Type 0) (die : Die) (block : Block) (counts : Counts block) (lies : LiesIn die block) (p : Whole) (inside : IsHalfInside block (half_of p)) where
  pub over_is_nearer : unsigned_abs (die.y2 -ℤ block.y2) < unsigned_abs (die.y2 -ℤ p.y)
  over_is_nearer = omega (arith, ints, inside.y.below, lies.to.north)

  pub over_in_die : IsHalfInDie die (half_of p) → IsHalfInDie die (half_of (record { x = p.x; y = block.y2 }))
  over_in_die in_die = record {
    x = in_die.x;
    y = record { at_least = omega (arith, ints, inside.y.below, in_die.y.at_least); at_most = omega (arith, ints, lies.to.north) };
  }

  pub over_above : (low : ℤ) → low ≤ℤ p.y → low ≤ℤ block.y2
  over_above low above = omega (arith, ints, inside.y.below, above)

  pub none_below_over : (q : Whole) → IsFreeAmong Counts die q → q.x ≡ p.x → p.y ≤ℤ q.y → block.y2 ≤ℤ q.y
  none_below_over q free column above =
      by_lt_z q.y block.y2
      (λ below. absurd (free.clear block counts (record {
        x = record { above = omega (arith, ints, inside.x.above, column); below = omega (arith, ints, inside.x.below, column) };
        y = record { above = omega (arith, ints, inside.y.above, above); below = omega (arith, ints, below) };
      })))
      (λ over. over)

  pub under_is_nearer : unsigned_abs (block.y1 -ℤ die.y1) < unsigned_abs (p.y -ℤ die.y1)
  under_is_nearer = omega (arith, ints, inside.y.above, lies.from.south)

  pub under_in_die : IsHalfInDie die (half_of p) → IsHalfInDie die (half_of (record { x = p.x; y = block.y1 }))
  under_in_die in_die = record {
    x = in_die.x;
    y = record { at_least = omega (arith, ints, lies.from.south); at_most = omega (arith, ints, inside.y.above, in_die.y.at_most) };
  }

  pub under_below : (high : ℤ) → p.y ≤ℤ high → block.y1 ≤ℤ high
  under_below high below = omega (arith, ints, inside.y.above, below)

  pub none_above_under : (q : Whole) → IsFreeAmong Counts die q → q.x ≡ p.x → q.y ≤ℤ p.y → q.y ≤ℤ block.y1
  none_above_under q free column below =
      by_lt_z block.y1 q.y
      (λ above. absurd (free.clear block counts (record {
        x = record { above = omega (arith, ints, inside.x.above, column); below = omega (arith, ints, inside.x.below, column) };
        y = record { above = omega (arith, ints, above); below = omega (arith, ints, inside.y.below, below) };
      })))
      (λ under. under)

-- Of the first free points of a column from a row on downward and from the next one on upward, one is the first of all
-- by the distance from a place. The rows are given by other terms of the same numbers.
pub first_of_column : (Counts : Block → Type 0) (die : Die) (from : Half) (column : Whole) (start : Range) (closest : IsClosest (rows_of die) from.y start)
    → (lower upper best : Whole) (low high : ℤ) → low ≡ start.low → high ≡ start.high
    → lower.x ≡ column.x → lower.y ≤ℤ low → ((q : Whole) → IsFreeAmong Counts die q → q.x ≡ column.x → q.y ≤ℤ low → q.y ≤ℤ lower.y)
    → upper.x ≡ column.x → high ≤ℤ upper.y → ((q : Whole) → IsFreeAmong Counts die q → q.x ≡ column.x → high ≤ℤ q.y → upper.y ≤ℤ q.y)
    → IsAhead from best lower → IsAhead from best upper
    → (q : Whole) → IsFreeAmong Counts die q → q.x ≡ column.x → IsAhead from best q
first_of_column Counts die from column start closest lower upper best low high same_low same_high lower_x below lower_first upper_x above upper_first before_lower before_upper q free q_x =
    by_lt_z low q.y
    (λ over.
    let order : upper.y ≤ℤ q.y = upper_first q free q_x (omega (arith, ints, closest.adjacent)) in
    ahead_trans from best upper q before_upper
    (upper_is_later (rows_of die) from start closest upper q (q_x ∙ sym upper_x) (omega (arith, ints)) order (omega (arith, ints, free.in_die.y.at_most))))
    (λ under.
    let order : q.y ≤ℤ lower.y = lower_first q free q_x under in
    ahead_trans from best lower q before_lower
    (lower_is_later (rows_of die) from start closest lower q (q_x ∙ sym lower_x) (omega (arith, ints)) order (omega (arith, ints, free.in_die.y.at_least))))
