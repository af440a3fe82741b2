-- What answers a look-up in a list of entries, how a publication may end, and the list after it.
use Rattle.std.specs.Prelude.{◌≡◌, ◌≢◌, ℕ, ◌<◌, ◌⊎◌, nat_lt, cond, List, [], ◌∷◌, ◌++◌, length, slice_get, Some, All}
use Rattle.cts_merge.specs.declared.side.Finished.{Finished}
use Rattle.cts_memo.specs.declared.key.Key.{Key}
use Rattle.cts_memo.specs.declared.entry.MemoEntry.{MemoEntry}
use Rattle.cts_memo.specs.declared.entry.Answer.{Answer}
use Rattle.cts_memo.specs.declared.entry.Answer.TheVariants.{Have, Absent}
use Rattle.cts_memo.specs.declared.entry.PutEnd.{PutEnd}
use Rattle.cts_memo.specs.declared.entry.PutEnd.TheVariants.{At, Full, NoMemory}
use Rattle.cts_memo.specs.Keys.{entry}
use Rattle.cts_memo.specs.Sound.{max_entries}

-- the entry of this number has the key
abbrev pub StandsAt : List MemoEntry → Key → ℕ → Type 0
StandsAt seen key n = (f : Finished) × (slice_get seen n ≡ Some (entry key f))

-- no entry has the key
abbrev pub IsAbsent : List MemoEntry → Key → Type 0
IsAbsent seen key = All (λ e. e.key ≢ key) seen

-- the answer to a look-up: the entry of the key with its number, or absent
abbrev pub IsFound : List MemoEntry → Key → Answer → Type 0
IsFound seen key (Have n f) = slice_get seen n ≡ Some (entry key f)
IsFound seen key Absent = IsAbsent seen key

-- How a publication may end: at the entry of the key that is there, or at a new one. Where the key isn't there it may
-- also end for want of memory, and it ends in full where there are as many entries as there can be.
abbrev pub IsPut : List MemoEntry → Key → PutEnd → Type 0
IsPut seen key (At n) = StandsAt seen key n ⊎ (IsAbsent seen key × (length seen < max_entries) × (n ≡ length seen))
IsPut seen key Full = IsAbsent seen key × (length seen ≡ max_entries)
IsPut seen key NoMemory = IsAbsent seen key × (length seen < max_entries)

-- the list after a publication: one entry more where it ended at the list's length
abbrev pub after_put : List MemoEntry → Key → Finished → PutEnd → List MemoEntry
after_put seen key f (At n) = cond (nat_lt n (length seen)) seen (seen ++ entry key f ∷ [])
after_put seen key f Full = seen
after_put seen key f NoMemory = seen

-- what a publication tells of the list after it: the entry of its number is the key with what was made of it
abbrev pub IsPublished : List MemoEntry → Key → Finished → PutEnd → Type 0
IsPublished seen key f (At n) = slice_get seen n ≡ Some (entry key f)
IsPublished seen key f Full = IsAbsent seen key × (length seen ≡ max_entries)
IsPublished seen key f NoMemory = IsAbsent seen key
