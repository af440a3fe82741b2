use Rattle.std.proofs.Common.{◌≡◌, ◌-◌, [], None, length}
use Rattle.cts_instance.specs.FirstFault.{first_of, buffer_line}
use Rattle.cts_read.specs.Grammar.{left_of}
use Rattle.cts_read.specs.Items.{buffer_of, list_at}
use Rattle.cts_read.proofs.lists.read_buffers.Given as goal

-- the buffers so far, and those that are left, are what all lines give
abbrev pub invariant-loop : goal.invariant-loop
invariant-loop l = record {
  so_far : list_at buffer_of (l.count - l.counter) l.buffers.items (left_of l.lines) ≡ list_at buffer_of l.count [] (left_of l.fn.lines);
  many : length l.buffers.items ≡ l.counter;
  sound : first_of buffer_line [] l.buffers.items ≡ None;
  text : l.lines.text ≡ l.fn.lines.text;
}
