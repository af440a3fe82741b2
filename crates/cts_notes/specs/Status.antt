-- Statuses.
use Rattle.std.specs.Prelude.{ℕ}
use Rattle.cts_notes.specs.declared.status.Status.{Status}
use Rattle.cts_notes.specs.declared.status.Status.TheVariants as status

-- the program's exit status
abbrev pub code_of : Status → ℕ
code_of status.Done = 0
code_of status.No = 1
code_of status.Words = 2
code_of status.Refused = 3
code_of status.NoTree = 4
code_of status.ReadFault = 5
code_of status.WriteFault = 6
code_of status.NoMemory = 7
code_of status.NoTrunk = 8
