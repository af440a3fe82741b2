-- Which replies a list of entries allows to a call, and the list after each of them.
use Rattle.std.specs.Prelude.{◌≡◌, List, drop, take, IfOk}
use Rattle.cts_units.specs.declared.params.Params.{Params}
use Rattle.cts_memo.specs.declared.entry.MemoEntry.{MemoEntry}
use Rattle.cts_memo.specs.declared.entry.MemoCall.{MemoCall}
use Rattle.cts_memo.specs.declared.entry.MemoCall.TheVariants.{Ask, Put, Read}
use Rattle.cts_memo.specs.declared.entry.MemoReply.{MemoReply}
use Rattle.cts_memo.specs.declared.entry.MemoReply.TheVariants.{Asked, Published, Listed}
use Rattle.cts_memo.specs.Sound.{IsMadeOf}
use Rattle.cts_memo.specs.Replies.{IsFound, IsPut, after_put}

-- Look-ups and readings may always be made, a publication of what is made of its key.
abbrev pub Fits : Params → List MemoEntry → MemoCall → Type 0
Fits params seen (Ask key) = Unit {0}
Fits params seen (Put key f) = IsMadeOf params seen key f
Fits params seen (Read first most room) = Unit {0}

-- the reply is of the call's kind, and allowed
abbrev pub Allows : List MemoEntry → MemoCall → MemoReply → Type 0
Allows seen (Ask key) (Asked answer) = IsFound seen key answer
Allows seen (Ask key) (Published end) = ⊥
Allows seen (Ask key) (Listed reading) = ⊥
Allows seen (Put key f) (Asked answer) = ⊥
Allows seen (Put key f) (Published end) = IsPut seen key end
Allows seen (Put key f) (Listed reading) = ⊥
Allows seen (Read first most room) (Asked answer) = ⊥
Allows seen (Read first most room) (Published end) = ⊥
Allows seen (Read first most room) (Listed reading) = IfOk reading (λ entries. entries.items ≡ take most (drop first seen))

-- look-ups and readings leave the list as it is
abbrev pub list_after : List MemoEntry → MemoCall → MemoReply → List MemoEntry
list_after seen (Ask key) reply = seen
list_after seen (Put key f) (Asked answer) = seen
list_after seen (Put key f) (Published end) = after_put seen key f end
list_after seen (Put key f) (Listed reading) = seen
list_after seen (Read first most room) reply = seen
