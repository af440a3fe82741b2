use Rattle.std.proofs.Common.{◌≡◌, [], ◌+◌, take, drop}
use Rattle.cts_instance.specs.FirstFault.{first_of, block_line, counts_of}
use Rattle.cts_instance.proofs.check.faulty_block.Given as goal

abbrev pub invariant-loop-block : goal.invariant-loop-block
invariant-loop-block l = record {
  lines_left : first_of (block_line l.die l.x l.y l.sinks) [] l.blocks
      ≡ first_of (block_line l.die l.x l.y l.sinks) (take l.block-index l.blocks) (drop l.block-index l.blocks);
  counted : l.counts ≡ counts_of (take l.block-index l.blocks);
  counts_add_up : l.counts.buffer + l.counts.all ≡ l.block-index;
}
