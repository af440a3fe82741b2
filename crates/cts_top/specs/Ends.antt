-- How the program ends, by what it did to its input, its output and its notes.
use Rattle.std.specs.Prelude.{◌≡◌, ℕ, List, Option, IfSome, String, codes}
use Rattle.std.specs.Global.{Global}
use Rattle.cts_notes.specs.Status.{code_of}
use Rattle.cts_notes.specs.Words.{AreWords}
use Rattle.cts_notes.specs.declared.status.Status.{Status}
use Rattle.cts_notes.specs.declared.status.Status.TheVariants.{NoMemory}
use Rattle.cts_top.specs.Log.{Log}
use Rattle.cts_top.specs.Memos.{HasLog}
use Rattle.cts_top.specs.Runs.{Runs}
use Rattle.cts_top.specs.Streams.{Failed, Grew, GrewBy, IsUntouched, KeepsCount, Stream}
use Rattle.cts_top.specs.Words.{IsForm}

-- Some words were run, and the exit status is the number of the run's status. They are the words among the arguments that the
-- program was called with, where these are told. The log is that of the callers that the words ask for.
pub record EndsAsRun {S K N : Type 0} (told : Option (List (List ℕ))) (source : Stream S) (sink : Stream K) (notes : Stream N) (code : ℕ) : Type 0 where
  pub words : List (String Global)
  pub known : IfSome told (AreWords words)
  pub log : Log
  pub status : Status
  pub runs : Runs (IsForm words) log source sink notes status
  pub has_log : HasLog (IsForm words) status log
  pub code_is : code ≡ code_of status

-- No memory was found for the words: nothing was read or written, and the notes say so, in part where they fail.
pub record EndsWithoutWords {S K N : Type 0} (source : Stream S) (sink : Stream K) (notes : Stream N) (code : ℕ) : Type 0 where
  pub untouched : IsUntouched source
  pub kept : IsUntouched sink
  pub counted : KeepsCount notes
  pub note : (¬ Failed notes → Grew notes (codes "no memory\n")) × GrewBy notes (codes "no memory\n")
  pub code_is : code ≡ code_of NoMemory
