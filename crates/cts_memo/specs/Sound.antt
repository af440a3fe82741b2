-- Lists of entries that a table may tell: each entry's number is its position, and each is what the upward pass makes of
-- its key.
use Rattle.std.specs.Prelude.{◌≡◌, ◌≢◌, ℕ, ℤ, ◌^◌, ◌<◌, List, take, length, slice_get, Some, MatchOption, AllPairs}
use Rattle.cts_units.specs.declared.params.Sink.{Sink}
use Rattle.cts_units.specs.declared.params.Params.{Params}
use Rattle.cts_merge.specs.declared.side.Finished.{Finished}
use Rattle.cts_merge.specs.Merge.{IsLeaf, IsMerged}
use Rattle.cts_memo.specs.declared.key.Key.{Key}
use Rattle.cts_memo.specs.declared.key.Key.TheVariants.{Leaf, Pair}
use Rattle.cts_memo.specs.declared.entry.MemoEntry.{MemoEntry}

-- the most entries of a table
abbrev pub max_entries : ℕ
max_entries = 2 ^ 21

-- a sink at this place with this capacitance in zF and this offset in 10^-27 s, not doubled
abbrev pub sink_at : ℤ → ℤ → ℕ → ℕ → Sink
sink_at x y cap offset = record { id = 0; x = x; y = y; cap = cap; offset = offset }

-- there is an entry of this number, and P holds of it
abbrev pub EntryAt : List MemoEntry → ℕ → (MemoEntry → Type 0) → Type 0
EntryAt seen n P = MatchOption (slice_get seen n) ⊥ P

-- What is made of a key: at a leaf what its sink gives, whatever the sink's id, and at a pair what the sides of the two
-- entries give that the key names, the left one first.
abbrev pub IsMadeOf : Params → List MemoEntry → Key → Finished → Type 0
IsMadeOf params seen (Leaf x y cap offset) f = IsLeaf (sink_at x y cap offset) f
IsMadeOf params seen (Pair left right) f =
    EntryAt seen left (λ a. EntryAt seen right (λ b. IsMerged params a.finished.side b.finished.side f))

-- No two entries have one key. Each is what is made of its key, and a pair names two entries before its own.
pub record IsSound (params : Params) (seen : List MemoEntry) : Type 0 where
  pub distinct : AllPairs (λ a b. a.key ≢ b.key) seen
  pub made : (n : ℕ) (e : MemoEntry) → slice_get seen n ≡ Some e → IsMadeOf params (take n seen) e.key e.finished

-- a pair's numbers are those of entries
abbrev pub NamesEntries : List MemoEntry → Key → Type 0
NamesEntries seen (Leaf x y cap offset) = Unit {0}
NamesEntries seen (Pair left right) = (left < length seen) × (right < length seen)
