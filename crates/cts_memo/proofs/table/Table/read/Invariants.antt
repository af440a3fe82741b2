use Rattle.std.proofs.Common.{◌≡◌, drop, take}
use Rattle.cts_memo.specs.Tables.{told_by}
use Rattle.cts_memo.proofs.table.Table.read.Given as goal

-- the list has the entries from the first number to before the current one
abbrev pub invariant-loop-number : goal.invariant-loop-number
invariant-loop-number l = l.list.items ≡ drop l.first (take l.number (told_by l.self))
