-- What contracts see of a table.
use Rattle.std.specs.Prelude.{List}
use Rattle.cts_units.specs.declared.params.Params.{Params}
use Rattle.cts_memo.specs.declared.entry.MemoEntry.{MemoEntry}
use Rattle.cts_memo.specs.declared.table.Table.{Table}
use Rattle.cts_memo.specs.Keys.{entries_of}

-- its entries, each at its number
abbrev pub told_by : Table → List MemoEntry
told_by table = entries_of table.map.entries

-- the parameters that its entries were made with
abbrev pub base_of : Table → Params
base_of table = table.params.value
