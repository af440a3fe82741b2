use Rattle.std.proofs.Common.{◌≡◌, [], take, drop}
use Rattle.cts_instance.specs.FirstFault.{first_of, buffer_line}
use Rattle.cts_instance.proofs.check.faulty_buffer.Given as goal

abbrev pub invariant-loop-number : goal.invariant-loop-number
invariant-loop-number l =
    first_of buffer_line [] l.buffers ≡ first_of buffer_line (take l.number l.buffers) (drop l.number l.buffers)
