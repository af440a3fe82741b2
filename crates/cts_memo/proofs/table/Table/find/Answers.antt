use Rattle.std.proofs.Common.{sym}
use Rattle.cts_memo.proofs.Maps.{looked_none, found_entry}
use Rattle.cts_memo.proofs.table.Table.find.Goals as goal

pub returns-in-Some : goal.returns-in-Some
returns-in-Some c =
    found_entry c.args.key c.args.self.now.map.entries c.in-Some.field-0-1.now c.in-Some.finished.now c.in-Some.number
    c.in-Some.ensures.entry (sym c.in-Some.ensures.key)

pub returns-in-None : goal.returns-in-None
returns-in-None c = looked_none c.args.key c.args.self.now.map.entries (sym c.in-None.ensures.value)
