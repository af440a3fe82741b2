-- The numbers that subtrees have in a list of entries, and what the entries of these numbers are.
use Rattle.std.proofs.Common.{◌≡◌, ℕ, ◌⊎◌, List, slice_get, Option, Some, None, refl, sym, ◌∙◌, subst, inl, inr}
use Rattle.std.specs.Option.{MatchOption, option_and_then}
use mathlib.Core.List.{IsPrefix}
use Rattle.cts_units.specs.declared.params.Sink.{Sink}
use Rattle.cts_units.specs.declared.params.Params.{Params}
use Rattle.cts_postorder.specs.BinaryTree.{tip, fork}
use Rattle.cts_merge.specs.declared.side.Finished.{Finished}
use Rattle.cts_merge.specs.Merge.{IsLeaf, IsMerged}
use Rattle.cts_up.specs.Plan.{IsFinished, sink_of}
use Rattle.cts_memo.specs.declared.key.Key.{Key}
use Rattle.cts_memo.specs.declared.key.Key.TheVariants.{Pair}
use Rattle.cts_memo.specs.declared.entry.MemoEntry.{MemoEntry}
use Rattle.cts_memo.specs.Keys.{leaf_key, pair_key, same_key}
use Rattle.cts_memo.specs.Sound.{EntryAt, IsMadeOf, IsSound, sink_at}
use Rattle.cts_memo.specs.Numbers.{number_of, pair_number, position_of}
use Rattle.cts_memo.specs.Laws.{NumbersStay, NumberedIsFinished}
use Rattle.cts_memo.proofs.Positions.{position_stays, position_stands}
use Rattle.cts_memo.proofs.Publications.{made_of_all}

-- the entry of a number, and the other way round
pub entry_is : (seen : List MemoEntry) (n : ℕ) (P : MemoEntry → Type 0) (e : MemoEntry) → slice_get seen n ≡ Some e → EntryAt seen n P → P e
entry_is seen n P e at p = subst (λ o. MatchOption o ⊥ P) at p

pub is_entry : (seen : List MemoEntry) (n : ℕ) (P : MemoEntry → Type 0) (e : MemoEntry) → slice_get seen n ≡ Some e → P e → EntryAt seen n P
is_entry seen n P e at p = subst (λ o. MatchOption o ⊥ P) (sym at) p

pub some_entry : (seen : List MemoEntry) (n : ℕ) (P : MemoEntry → Type 0) → EntryAt seen n P → (e : MemoEntry) × (slice_get seen n ≡ Some e) × P e
some_entry seen n P p = by (slice_get seen n) refl p
  where
    by : (o : Option MemoEntry) → slice_get seen n ≡ o → MatchOption (slice_get seen n) ⊥ P → (e : MemoEntry) × (slice_get seen n ≡ Some e) × P e
    by None is p = absurd (subst (λ o. MatchOption o ⊥ P) is p)
    by (Some e) is p = (e, is, subst (λ o. MatchOption o ⊥ P) is p)

-- where a pair has a key both its parts have a number, and else one of them has none
pub key_parts : (a b : Option ℕ) (key : Key) → pair_key a b ≡ Some key → (i : ℕ) × (j : ℕ) × (a ≡ Some i) × (b ≡ Some j) × (key ≡ Pair i j)
key_parts None b key is = absurd (cc is)
key_parts (Some i) None key is = absurd (cc is)
key_parts (Some i) (Some j) key is = (i, j, refl, refl, cc is)

pub part_missing : (a b : Option ℕ) → pair_key a b ≡ None → (a ≡ None) ⊎ (b ≡ None)
part_missing None b none = inl refl
part_missing (Some i) None none = inr refl
part_missing (Some i) (Some j) none = absurd (cc none)

-- where a pair has a number both its parts have one
pub pair_parts : (seen : List MemoEntry) (a b : Option ℕ) (n : ℕ) → pair_number seen a b ≡ Some n
    → (i : ℕ) × (j : ℕ) × (a ≡ Some i) × (b ≡ Some j) × (position_of seen (Pair i j) ≡ Some n)
pair_parts seen None b n at = cc
pair_parts seen (Some i) None n at = cc
pair_parts seen (Some i) (Some j) n at = (i, j, refl, refl, at)

pub pair_is : (seen : List MemoEntry) (a b : Option ℕ) (i j : ℕ) → a ≡ Some i → b ≡ Some j → pair_number seen a b ≡ position_of seen (Pair i j)
pair_is seen a b i j is js = λ k. pair_number seen (is k) (js k)

leaf_stays : (seen longer : List MemoEntry) (sink : Option Sink) (n : ℕ) → IsPrefix seen longer
    → option_and_then (λ s. position_of seen (leaf_key s)) sink ≡ Some n → option_and_then (λ s. position_of longer (leaf_key s)) sink ≡ Some n
leaf_stays seen longer None n more at = cc
leaf_stays seen longer (Some s) n more at = position_stays (λ e. same_key e.key (leaf_key s)) seen longer n more at

pub number_stays : NumbersStay
unfolding number_of
number_stays seen longer sinks (tip k) n more at = leaf_stays seen longer (sink_of sinks k) n more at
number_stays seen longer sinks (fork l r k) n more at =
    let parts = pair_parts seen (number_of seen sinks l) (number_of seen sinks r) n at in
    let left = number_stays seen longer sinks l (parts.0) more (parts.2) in
    let right = number_stays seen longer sinks r (parts.1) more (parts.3) in
    pair_is longer (number_of longer sinks l) (number_of longer sinks r) (parts.0) (parts.1) left right
    ∙ position_stays (λ e. same_key e.key (Pair (parts.0) (parts.1))) seen longer n more (parts.4)

-- a sink's leaf, whatever its id
pub leaf_of : (s : Sink) (f : Finished) → IsLeaf (sink_at s.x s.y s.cap s.offset) f → IsLeaf s f
leaf_of s f is = record {
  greatest = is.greatest;
  load = is.load;
  region = is.region;
  ea = is.ea;
  eb = is.eb;
  buffer = is.buffer;
}

leaf_finished : (params : Params) (seen : List MemoEntry) (sink : Option Sink) (n : ℕ) → IsSound params seen
    → option_and_then (λ s. position_of seen (leaf_key s)) sink ≡ Some n
    → EntryAt seen n (λ e. MatchOption sink ⊥ (λ s. IsLeaf s e.finished))
leaf_finished params seen None n sound at = cc
leaf_finished params seen (Some s) n sound at =
    let stands = position_stands seen (leaf_key s) n at in
    let made = made_of_all params seen n (stands.0) sound (stands.1) in
    is_entry seen n (λ e. IsLeaf s e.finished) (stands.0) (stands.1)
    (leaf_of s (stands.0.finished) (subst (λ key. IsMadeOf params seen key (stands.0.finished)) (stands.2) made))

pub numbered_finished : NumberedIsFinished
unfolding number_of IsFinished
numbered_finished params seen sinks (tip k) n sound at = leaf_finished params seen (sink_of sinks k) n sound at
numbered_finished params seen sinks (fork l r k) n sound at =
    let parts = pair_parts seen (number_of seen sinks l) (number_of seen sinks r) n at in
    let stands = position_stands seen (Pair (parts.0) (parts.1)) n (parts.4) in
    let made = made_of_all params seen n (stands.0) sound (stands.1) in
    let a = some_entry seen (parts.0) (λ e. IsFinished params sinks l e.finished) (numbered_finished params seen sinks l (parts.0) sound (parts.2)) in
    let b = some_entry seen (parts.1) (λ e. IsFinished params sinks r e.finished) (numbered_finished params seen sinks r (parts.1) sound (parts.3)) in
    let f : Finished = stands.0.finished in
    let pair = subst (λ key. IsMadeOf params seen key f) (stands.2) made in
    let left = entry_is seen (parts.0) (λ x. EntryAt seen (parts.1) (λ y. IsMerged params x.finished.side y.finished.side f)) (a.0) (a.1) pair in
    let merged = entry_is seen (parts.1) (λ y. IsMerged params a.0.finished.side y.finished.side f) (b.0) (b.1) left in
    is_entry seen n (λ e. IsFinished params sinks (fork l r k) e.finished) (stands.0) (stands.1)
    (a.0.finished, b.0.finished, a.2, b.2, merged)
