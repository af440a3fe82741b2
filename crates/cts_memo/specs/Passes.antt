-- What contracts say of a memo and its passes.
use Rattle.std.specs.Prelude.{◌≡◌, ℕ, ◌+◌, List, length}
use mathlib.Core.List.{IsPrefix}
use Rattle.cts_units.specs.declared.params.Params.{Params}
use Rattle.cts_merge.specs.declared.side.Finished.{Finished}
use Rattle.cts_turn.specs.declared.turn.Pass.{Pass}
use Rattle.cts_turn.specs.Passes as turns
use Rattle.cts_memo.specs.declared.key.Key.{Key}
use Rattle.cts_memo.specs.declared.entry.MemoEntry.{MemoEntry}
use Rattle.cts_memo.specs.declared.entry.MemoCall.{MemoCall}
use Rattle.cts_memo.specs.declared.entry.MemoReply.{MemoReply}
use Rattle.cts_memo.specs.declared.entry.PutEnd.{PutEnd}
use Rattle.cts_memo.specs.declared.table.Table.{Table}
use Rattle.cts_memo.specs.declared.memo.Memo.{Memo}
use Rattle.cts_memo.specs.contracts.table.TableObject.TheImpl.{ghosts}
use Rattle.cts_memo.specs.Sound.{IsSound}
use Rattle.cts_memo.specs.Replies.{IsPut, after_put}

-- the parameters that all entries are made with
abbrev pub params_of : Memo → Params
params_of memo = memo.params

-- The pass came from this memo. What it has seen is sound, and has at most 2^21 entries.
abbrev pub IsPassOf : Memo → Pass Table MemoEntry MemoCall MemoReply → Type 0
IsPassOf memo pass = turns.IsPassOf ghosts memo.turn pass

-- A publication met a list that begins with what the pass had seen. The list after it is that list, or that list and one
-- entry, and then the pass made one entry more.
pub record IsPublication (params : Params) (seen : List MemoEntry) (made : ℕ) (key : Key) (f : Finished) (end : PutEnd)
    (seen' : List MemoEntry) (made' : ℕ) : Type 0 where
  pub met : List MemoEntry
  pub goes_on : IsPrefix seen met
  pub sound : IsSound params met
  pub ends : IsPut met key end
  pub after : seen' ≡ after_put met key f end
  pub count : made' + length met ≡ made + length seen'
