use Rattle.std.proofs.Common.{ℕ, ◌<◌, false, slice_index_or}
use Rattle.std.specs.Prelude.{Contains}
use Rattle.cts_block.specs.declared.blocks.Block.{Block}
use Rattle.cts_block.specs.Search.{IsObstacle, Stops}
use Rattle.cts_block.proofs.free_map.stopping_wires.Given as goal

abbrev pub invariant-loop-block : goal.invariant-loop-block
invariant-loop-block l = record {
  sound : (block : Block) → Contains l.list.items block → IsObstacle l.blocks false block;
  complete : (k : ℕ) (d : Block) → k < l.block-index → Stops false (slice_index_or l.blocks k d).kind → Contains l.list.items (slice_index_or l.blocks k d);
}
