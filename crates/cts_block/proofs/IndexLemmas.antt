-- The edges of an index beyond the columns that are nearest to a place.
use Rattle.std.proofs.Common.{◌≡◌, ℕ, ◌+◌, ◌*◌, ◌-◌, ◌<◌, ◌≤◌, ◌⊎◌, inl, inr, true, false, ℤ, pos, ◌+ℤ◌, ◌*ℤ◌, ◌≤ℤ◌, List, length, drop, slice_index_or, ap, arith}
use Rattle.std.specs.Prelude.{All, Contains}
use Rattle.std.specs.List.Sorted.{IsPartitionPoint}
use Rattle.std.proofs.Math.Dec.{leb}
use Rattle.std.proofs.lemmas.Bool.{cases_lt, leb-true, leb-false}
use Rattle.std.proofs.lemmas.Int.{ints}
use Rattle.std.proofs.lemmas.List.{get_or-drop, length-drop}
use Rattle.std.proofs.lemmas.List.Elements.{All-contains, All-contains_itself}
use Rattle.cts_geom.specs.declared.points.Half.{Half}
use Rattle.cts_geom.specs.declared.bounds.Die.{Die}
use Rattle.cts_geom.specs.Points.{manhattan_of}
use Rattle.cts_block.specs.declared.blocks.Block.{Block}
use Rattle.cts_block.specs.declared.edge.Edge.{Edge}
use Rattle.cts_block.specs.declared.index.Index.{Index}
use Rattle.cts_block.specs.declared.whole.Range.{Range}
use Rattle.cts_block.specs.declared.whole.Side.{Side}
use Rattle.cts_block.specs.declared.whole.Side.TheVariants.{Left, Right}
use Rattle.cts_block.specs.declared.whole.Whole.{Whole}
use Rattle.cts_block.specs.Search.{IsClosest, IsBeyond, IsOn, IsOffset, columns_of, last_of, half_of}
use Rattle.cts_block.specs.Index.{IsEdge, HoldsSide, IsIndex, edges_of}
use Rattle.cts_block.proofs.ColumnLemmas.{IsClear, IsCovered}
use Rattle.cts_block.proofs.ObstacleLemmas.{clear_or_covered}

-- the edges from a point on at which their offsets pass a limit
module _ (edges : List Edge) (start skipped : ℕ) (point : IsPartitionPoint (λ edge. leb edge.offset start ≡ true) (λ edge. leb edge.offset start ≡ false) edges skipped) where
  pub beyond_point : All (λ edge. start < edge.offset) (drop skipped edges)
  beyond_point k d below =
      let within : skipped + k < length edges = omega (arith, simp length-drop at below) in
      rw get_or-drop (leb-false _ start (point.1 (skipped + k) d (omega arith) within))

  pub kept_beyond : (edge : Edge) → Contains edges edge → start < edge.offset → Contains (drop skipped edges) edge
  kept_beyond edge (k, below, is) beyond =
      elim (cases_lt k skipped) [
        | inl before ↦
            let offset : (slice_index_or edges k edge).offset ≤ start = leb-true _ start (point.0 k edge (omega arith) before) in
            let same : (slice_index_or edges k edge).offset ≡ edge.offset = ap (λ (e : Edge). e.offset) is in
            absurd (omega (arith, offset, same, beyond))
        | inr after ↦
            let at : skipped + (k - skipped) ≡ k = omega (arith, after) in
            let within : k - skipped < length (drop skipped edges) = rw length-drop (omega (arith, after, below)) in
            (k - skipped, within, rw get_or-drop (rw at is))
      ]

-- what all of a list have, all of a part of it have
pub all_of_part : {X : Type 0} (P : X → Type 0) (part xs : List X) → ((x : X) → Contains part x → Contains xs x) → All P xs → All P part
all_of_part P part xs sound all k d below = All-contains P xs (slice_index_or part k d) all (sound (slice_index_or part k d) (All-contains_itself part k d below))

pub side_of_index : (die : Die) (index : Index) (side : Side) → IsIndex die index → HoldsSide index.raster side die (edges_of index side)
side_of_index die index Left is = is.lefts
side_of_index die index Right is = is.rights

-- an edge whose offset is greater than that of a column of the die is at least twice as far from the place, in half nm
pub edge_is_far : (side : Side) (die : Die) (from : Half) (columns : Range) → IsClosest (columns_of die) from.x columns
    → (last : ℤ) → last ≡ last_of side columns → (start : ℕ) → IsOffset side die last start
    → (edge : Edge) → IsEdge side die edge → start < edge.offset → (q : Whole) → IsOn edge.segment q
    → 2 * edge.offset ≤ manhattan_of from (half_of q) + 2 * start
edge_is_far Left die from columns closest last is_last start offset edge is beyond q on =
    let apart : die.x2 ≡ edge.segment.bottom.x +ℤ pos edge.offset = is.offset in
    let from_last : die.x2 ≡ last +ℤ pos start = offset in
    let inside : (pos 2 *ℤ die.x1) ≤ℤ (pos 2 *ℤ edge.segment.bottom.x) = is.in_die.bottom.x.at_least in
    elim closest.below [
      | inl down ↦ omega (arith, ints, apart, from_last, is_last, beyond, on.column, down)
      | inr end ↦ absurd (omega (arith, ints, apart, from_last, is_last, beyond, inside, end))
    ]
edge_is_far Right die from columns closest last is_last start offset edge is beyond q on =
    let apart : edge.segment.bottom.x ≡ die.x1 +ℤ pos edge.offset = is.offset in
    let from_last : last ≡ die.x1 +ℤ pos start = offset in
    let inside : (pos 2 *ℤ edge.segment.bottom.x) ≤ℤ (pos 2 *ℤ die.x2) = is.in_die.bottom.x.at_most in
    elim closest.above [
      | inl up ↦ omega (arith, ints, apart, from_last, is_last, beyond, on.column, up)
      | inr end ↦ absurd (omega (arith, ints, apart, from_last, is_last, beyond, inside, end))
    ]

-- an edge with a point beyond the last column has a greater offset
pub edge_is_beyond : (side : Side) (die : Die) (columns : Range) (last : ℤ) → last ≡ last_of side columns → (start : ℕ) → IsOffset side die last start
    → (edge : Edge) → IsEdge side die edge → (q : Whole) → IsOn edge.segment q → IsBeyond side columns q → start < edge.offset
edge_is_beyond Left die columns last is_last start offset edge is q on beyond =
    let apart : die.x2 ≡ edge.segment.bottom.x +ℤ pos edge.offset = is.offset in
    let from_last : die.x2 ≡ last +ℤ pos start = offset in
    omega (arith, ints, apart, from_last, is_last, on.column, beyond)
edge_is_beyond Right die columns last is_last start offset edge is q on beyond =
    let apart : edge.segment.bottom.x ≡ die.x1 +ℤ pos edge.offset = is.offset in
    let from_last : last ≡ die.x1 +ℤ pos start = offset in
    omega (arith, ints, apart, from_last, is_last, on.column, beyond)

pub by_side : (P : Side → Type 0) → P Left → P Right → (side : Side) → P side
by_side P left right Left = left
by_side P left right Right = right

-- of all blocks of a list, one covers a point, or none does
pub clear_or_covered_all : (blocks : List Block) (at : Half) → IsClear (Contains blocks) at ⊎ IsCovered (Contains blocks) at
clear_or_covered_all blocks at = elim (clear_or_covered blocks true at) [
  | inl clear ↦ inl (λ block listed. clear block (record { listed = listed; stops = tt }))
  | inr covered ↦ inr (record { block = covered.block; counts = covered.counts.listed; inside = covered.inside })
]
