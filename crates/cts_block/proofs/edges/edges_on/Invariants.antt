use Rattle.std.proofs.Common.{◌≡◌, ◌≤ℤ◌, ℕ, ◌<◌, slice_index_or}
use Rattle.std.specs.Prelude.{All}
use Rattle.cts_block.specs.declared.blocks.Block.{Block}
use Rattle.cts_block.specs.declared.whole.Whole.{Whole}
use Rattle.cts_block.specs.Search.{IsFreeAmong, edge_of}
use Rattle.cts_block.specs.Index.{IsEdge, IsExposedIn, HasEdge}
use Rattle.cts_block.proofs.edges.edges_on.Given as goal

abbrev pub invariant-loop-block : goal.invariant-loop-block
invariant-loop-block g l = record {
  edges_are : All (IsEdge l.side l.die) l.edges.items;
  exposed : All (IsExposedIn (g.O.Obstacles.counts l.obstacles) l.side l.die l.blocks) l.edges.items;
  complete : (k : ℕ) (d : Block) → k < l.block-index → (q : Whole) → IsFreeAmong (g.O.Obstacles.counts l.obstacles) l.die q
      → q.x ≡ edge_of l.side (slice_index_or l.blocks k d) → (slice_index_or l.blocks k d).y1 ≤ℤ q.y → q.y ≤ℤ (slice_index_or l.blocks k d).y2 → HasEdge l.edges.items q;
}
