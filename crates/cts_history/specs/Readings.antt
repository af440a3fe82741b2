-- What a reading of bytes says.
use Rattle.std.specs.Prelude.{ℕ, List}
use Rattle.cts_history.specs.declared.read.Reading.{Reading}
use Rattle.cts_history.specs.declared.read.Reading.TheVariants.{History, NotHistory}
use Rattle.cts_history.specs.Opening.{Opens, OpensNone}

-- the history with which the bytes begin; or that they begin with none, and the first line with which none begins
abbrev pub IsReading : List ℕ → Reading → Type 0
IsReading bytes (History entries) = Opens bytes entries.items
IsReading bytes (NotHistory line) = OpensNone bytes line
