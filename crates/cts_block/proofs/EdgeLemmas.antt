-- A walk along edges in the order of their distance.
use Rattle.std.proofs.Common.{◌≡◌, ℕ, ◌+◌, ◌*◌, ◌-◌, ◌<◌, ◌≤◌, inl, inr, ◌≤ℤ◌, List, [], ◌∷◌, ◌++◌, refl, length, slice_index_or, sym, ◌∙◌, below_more, arith}
use Rattle.std.specs.Prelude.{All, Contains}
use Rattle.std.specs.List.Sorted.{IsNonDecreasingBy}
use Rattle.std.proofs.lemmas.Bool.{cases_lt}
use Rattle.std.proofs.lemmas.Int.{ints}
use Rattle.std.proofs.lemmas.List.{get_or_default}
use Rattle.std.proofs.lemmas.List.Elements.{Contains-append_right}
use Rattle.cts_geom.specs.declared.points.Half.{Half}
use Rattle.cts_geom.specs.declared.bounds.Die.{Die}
use Rattle.cts_geom.specs.Points.{manhattan_of}
use Rattle.cts_block.specs.declared.blocks.Block.{Block}
use Rattle.cts_block.specs.declared.edge.Edge.{Edge}
use Rattle.cts_block.specs.declared.whole.Whole.{Whole}
use Rattle.cts_block.specs.declared.whole.Segment.{Segment}
use Rattle.cts_block.specs.declared.whole.Side.{Side}
use Rattle.cts_block.specs.declared.whole.Side.TheVariants.{Left, Right}
use Rattle.cts_block.specs.NearestFree.{LiesIn}
use Rattle.cts_block.specs.Search.{IsFreeAmong, IsAhead, IsOn, IsOnSide, IsSegmentIn, edge_of, half_of}
use Rattle.cts_block.specs.Index.{HasEdge}
use Rattle.cts_block.proofs.SearchLemmas.{left_edge_in_die, right_edge_in_die}
use Rattle.cts_block.proofs.OrderLemmas.{ahead_trans}

pub ahead_if_nearer : (from : Half) (p q : Whole) → manhattan_of from (half_of p) < manhattan_of from (half_of q) → IsAhead from p q
ahead_if_nearer from p q nearer = record {
  by_distance = omega (arith, nearer);
  by_x = λ same. absurd (omega (arith, nearer, same));
  by_y = λ same _. absurd (omega (arith, nearer, same));
}

module _ (Counts : Block → Type 0) (die : Die) (from : Half) (edges : List Edge) (i : ℕ) (within : i < length edges) (e : Edge) (is : e ≡ slice_index_or edges i e) where
  -- one more edge that is seen
  pub edge_more : (old new : Whole) → IsAhead from new old
      → ((q : Whole) → IsFreeAmong Counts die q → IsOn e.segment q → IsAhead from new q)
      → ((k : ℕ) (d : Edge) → k < i → (q : Whole) → IsFreeAmong Counts die q → IsOn (slice_index_or edges k d).segment q → IsAhead from old q)
      → (k : ℕ) (d : Edge) → k < i + 1 → (q : Whole) → IsFreeAmong Counts die q → IsOn (slice_index_or edges k d).segment q → IsAhead from new q
  edge_more old new ahead here seen k d below =
      let P : ℕ → Type 0 = λ n. (q : Whole) → IsFreeAmong Counts die q → IsOn (slice_index_or edges n d).segment q → IsAhead from new q in
      let last : P i = rw (get_or_default edges i d e within ∙ sym is) here in
      below_more P i (λ n h q free on. ahead_trans from new old q ahead (seen n d h q free on)) last k below

  -- the edges from one on that is further away than the best point are further away, too
  pub stopped : (start : ℕ) (best : Whole)
      → IsNonDecreasingBy (λ edge. edge.offset) edges
      → All (λ edge. (q : Whole) → IsOn edge.segment q → 2 * edge.offset ≤ manhattan_of from (half_of q) + 2 * start) edges
      → manhattan_of from (half_of best) < 2 * (e.offset - start)
      → ((k : ℕ) (d : Edge) → k < i → (q : Whole) → IsFreeAmong Counts die q → IsOn (slice_index_or edges k d).segment q → IsAhead from best q)
      → All (λ edge. (q : Whole) → IsFreeAmong Counts die q → IsOn edge.segment q → IsAhead from best q) edges
  stopped start best ordered far near seen k d below q free on =
      elim (cases_lt k i) [
        | inl before ↦ seen k d before q free on
        | inr after ↦
            let reached : 2 * (slice_index_or edges k d).offset ≤ manhattan_of from (half_of q) + 2 * start = far k d below q on in
            let later : (slice_index_or edges i d).offset ≤ (slice_index_or edges k d).offset = ordered i k d after below in
            let this : manhattan_of from (half_of best) < 2 * ((slice_index_or edges i d).offset - start) = rw (get_or_default edges i d e within ∙ sym is) near in
            ahead_if_nearer from best q (nearer (manhattan_of from (half_of best)) (manhattan_of from (half_of q)) (slice_index_or edges i d).offset (slice_index_or edges k d).offset start this later reached)
      ]
    where
      nearer : (b m x y s : ℕ) → b < 2 * (x - s) → x ≤ y → 2 * y ≤ m + 2 * s → b < m
      nearer b m x y s first order far' = omega (arith, first, order, far')

pub grown_edge : (old new : List Edge) → ((edge : Edge) → Contains old edge → Contains new edge) → (q : Whole) → HasEdge old q → HasEdge new q
grown_edge old new grown q has = record { edge = has.edge; listed = grown has.edge has.listed; on = has.on }

pub last_edge : (edges : List Edge) (edge : Edge) → Contains (edges ++ edge ∷ []) edge
last_edge edges edge = Contains-append_right edges (edge ∷ []) edge (0, omega arith, refl)

-- a step over the blocks whose edges are gathered
module _ (Counts : Block → Type 0) (die : Die) (side : Side) (blocks : List Block) where
  pub side_more : (i : ℕ) → i < length blocks → (e : Block) (old new : List Edge) → ((edge : Edge) → Contains old edge → Contains new edge)
      → ((q : Whole) → IsFreeAmong Counts die q → q.x ≡ edge_of side (slice_index_or blocks i e) → (slice_index_or blocks i e).y1 ≤ℤ q.y → q.y ≤ℤ (slice_index_or blocks i e).y2 → HasEdge new q)
      → ((k : ℕ) (d : Block) → k < i → (q : Whole) → IsFreeAmong Counts die q → q.x ≡ edge_of side (slice_index_or blocks k d) → (slice_index_or blocks k d).y1 ≤ℤ q.y → q.y ≤ℤ (slice_index_or blocks k d).y2 → HasEdge old q)
      → (k : ℕ) (d : Block) → k < i + 1 → (q : Whole) → IsFreeAmong Counts die q → q.x ≡ edge_of side (slice_index_or blocks k d) → (slice_index_or blocks k d).y1 ≤ℤ q.y → q.y ≤ℤ (slice_index_or blocks k d).y2 → HasEdge new q
  side_more i within e old new grown here seen k d below =
      let P : ℕ → Type 0 = λ n. (q : Whole) → IsFreeAmong Counts die q → q.x ≡ edge_of side (slice_index_or blocks n d) → (slice_index_or blocks n d).y1 ≤ℤ q.y → q.y ≤ℤ (slice_index_or blocks n d).y2 → HasEdge new q in
      let last : P i = rw (get_or_default blocks i d e within) here in
      below_more P i (λ n h q free column low high. grown_edge old new grown q (seen n d h q free column low high)) last k below

  -- all blocks of the list
  pub side_all : (edges : List Edge)
      → ((k : ℕ) (d : Block) → k < length blocks → (q : Whole) → IsFreeAmong Counts die q → q.x ≡ edge_of side (slice_index_or blocks k d) → (slice_index_or blocks k d).y1 ≤ℤ q.y → q.y ≤ℤ (slice_index_or blocks k d).y2 → HasEdge edges q)
      → (q : Whole) → IsFreeAmong Counts die q → IsOnSide (Contains blocks) side q → HasEdge edges q
  side_all edges each q free on =
      let k = on.counts.0 in
      let is : slice_index_or blocks k on.block ≡ on.block = on.counts.2 in
      let low : on.block.y1 ≤ℤ q.y = omega (arith, ints, on.low) in
      let high : q.y ≤ℤ on.block.y2 = omega (arith, ints, on.high) in
      each k on.block on.counts.1 q free (rw is on.column) (rw is low) (rw is high)

-- the edge of a block lies in the die
pub side_edge_in_die : (die : Die) (side : Side) (block : Block) (edge : Segment) → LiesIn die block
    → edge.bottom ≡ record { x = edge_of side block; y = block.y1 } → edge.top ≡ record { x = edge_of side block; y = block.y2 } → IsSegmentIn die edge
side_edge_in_die die Left block edge lies bottom top = left_edge_in_die die block edge lies bottom top
side_edge_in_die die Right block edge lies bottom top = right_edge_in_die die block edge lies bottom top
