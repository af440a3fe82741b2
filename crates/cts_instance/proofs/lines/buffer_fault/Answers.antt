use Rattle.std.proofs.Common.{refl, sym, ◌∙◌}
use Rattle.cts_instance.specs.FirstFault.{buffer_fault}
use Rattle.cts_instance.proofs.lines.buffer_fault.Goals as goal

pub returns-then-is_buffer : goal.returns-then-is_buffer
unfolding buffer_fault
returns-then-is_buffer c = rw (sym c.is_buffer.ensures ∙ c.if-is_buffer.true) refl

pub returns-else-is_buffer : goal.returns-else-is_buffer
unfolding buffer_fault
returns-else-is_buffer c = rw (sym c.is_buffer.ensures ∙ c.if-is_buffer.false) refl
