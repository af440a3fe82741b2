-- Blocks with their exposed edges, from which the search for a free point starts.
use Rattle.std.specs.Prelude.{◌≡◌, ◌^◌, ◌≤◌, ◌≤ℤ◌, Bool, true, false, List, All, Contains}
use Rattle.std.specs.List.Sorted.{IsNonDecreasingBy}
use Rattle.cts_geom.specs.declared.bounds.Die.{Die}
use Rattle.cts_block.specs.declared.blocks.Block.{Block}
use Rattle.cts_block.specs.declared.edge.Edge.{Edge}
use Rattle.cts_block.specs.declared.index.Index.{Index}
use Rattle.cts_block.specs.declared.whole.Side.{Side}
use Rattle.cts_block.specs.declared.whole.Side.TheVariants.{Left, Right}
use Rattle.cts_block.specs.declared.whole.Whole.{Whole}
use Rattle.cts_block.specs.Search.{IsFreeAmong, IsOn, IsOnSide, IsOffset, IsSegmentIn, edge_of}

-- some edge has the point
pub record HasEdge (edges : List Edge) (p : Whole) : Type 0 where
  pub edge : Edge
  pub listed : Contains edges edge
  pub on : IsOn edge.segment p

-- an edge lies in the die, and its offset counts from the other side of the die
pub record IsEdge (side : Side) (die : Die) (edge : Edge) : Type 0 where
  pub in_die : IsSegmentIn die edge.segment
  pub offset : IsOffset side die edge.segment.bottom.x edge.offset
  pub bound : edge.offset ≤ 2 ^ 41

-- the edge is the part of that side of a block from its first to its last free point
pub record IsExposed (Counts : Block → Type 0) (side : Side) (die : Die) (block : Block) (edge : Edge) : Type 0 where
  pub bottom : IsFreeAmong Counts die edge.segment.bottom
  pub top : IsFreeAmong Counts die edge.segment.top
  pub column : edge.segment.bottom.x ≡ edge_of side block
  pub low : block.y1 ≤ℤ edge.segment.bottom.y
  pub high : edge.segment.top.y ≤ℤ block.y2
  pub whole : (q : Whole) → IsFreeAmong Counts die q → q.x ≡ edge_of side block → block.y1 ≤ℤ q.y → q.y ≤ℤ block.y2 → IsOn edge.segment q

-- the edge is the exposed part of that side of one of the blocks
pub record IsExposedIn (Counts : Block → Type 0) (side : Side) (die : Die) (blocks : List Block) (edge : Edge) : Type 0 where
  pub block : Block
  pub listed : Contains blocks block
  pub exposed : IsExposed Counts side die block edge

-- edges in the order of their offsets that have each free point on that side of a block
pub record HoldsSide (blocks : List Block) (side : Side) (die : Die) (edges : List Edge) : Type 0 where
  pub ordered : IsNonDecreasingBy (λ edge. edge.offset) edges
  pub edges_are : All (IsEdge side die) edges
  pub complete : (q : Whole) → IsFreeAmong (Contains blocks) die q → IsOnSide (Contains blocks) side q → HasEdge edges q

pub record IsIndex (die : Die) (index : Index) : Type 0 where
  pub lefts : HoldsSide index.raster Left die index.lefts
  pub rights : HoldsSide index.raster Right die index.rights

-- the edges of an index on one side
abbrev pub edges_of : Index → Side → List Edge
edges_of index Left = index.lefts
edges_of index Right = index.rights

-- the index of the blocks that count where a buffer, or else wires alone, is to stand
abbrev pub index_for : Index → Index → Bool → Index
index_for for_wires for_buffers true = for_buffers
index_for for_wires for_buffers false = for_wires
