use Rattle.std.proofs.Common.{◌≡◌, ◌+◌, ◌-◌, [], None, length}
use Rattle.cts_instance.specs.FirstFault.{counts_of}
use Rattle.cts_instance.specs.FirstFault.{first_of, block_line}
use Rattle.cts_read.specs.Grammar.{left_of}
use Rattle.cts_read.specs.Items.{block_of, list_at}
use Rattle.cts_read.proofs.lists.read_blocks.Given as goal

-- the blocks so far, and those that are left, are what all lines give; they are counted by kind
abbrev pub invariant-loop : goal.invariant-loop
invariant-loop l = record {
  so_far : list_at (block_of l.die l.source.x l.source.y l.sinks) (l.count - l.counter) l.blocks.items (left_of l.lines)
      ≡ list_at (block_of l.die l.source.x l.source.y l.sinks) l.count [] (left_of l.fn.lines);
  counts : l.counts ≡ counts_of l.blocks.items;
  many : length l.blocks.items ≡ l.counter;
  total : l.counts.buffer + l.counts.all ≡ l.counter;
  sound : first_of (block_line l.die l.source.x l.source.y l.sinks) [] l.blocks.items ≡ None;
  text : l.lines.text ≡ l.fn.lines.text;
}
