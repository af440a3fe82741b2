-- What a run of callers tells of itself beside its text.
use Rattle.std.specs.Prelude.{List, [], Vec}
use Rattle.std.specs.Global.{Global}
use Rattle.cts_edit.specs.declared.edit.Entry.{Entry}
use Rattle.cts_history.specs.declared.reply.Reply.{Reply}
use Rattle.cts_history.specs.Legal.{lists_of}

-- the history of all accepted edits, and the replies to each caller
pub record Log : Type 0 where
  pub history : List Entry
  pub replies : List (List Reply)

-- that of a run without callers, or of one that has told nothing
abbrev pub no_log : Log
no_log = record { history = []; replies = [] }

abbrev pub log_of : Vec Entry Global → Vec (Vec Reply Global) Global → Log
log_of history replies = record { history = history.items; replies = lists_of replies.items }
