-- What the rules of a table are proved from.
use Rattle.std.specs.Prelude.{◌≡◌, ◌≢◌, ℕ, ◌<◌, ◌⊎◌, Bool, true, false, nat_lt, cond, List, [], ◌∷◌, ◌++◌, length, take, slice_get, Option, Some, None, MatchOption, AllPairs}
use Rattle.std.proofs.Common.{refl, sym, ap, ◌∙◌, subst, inl, inr, arith, get_or, length-append}
use Rattle.std.proofs.Math.ListN.{get_or-append}
use Rattle.std.proofs.Props.{props}
use Rattle.std.proofs.lemmas.Option.{slice_get_within, get_or_from_slice_get, slice_get-get_or}
use Rattle.std.proofs.Math.Logic.{∥∥₁_elim, ∥∥₁_prop}
use mathlib.Core.List.{IsPrefix}
use Rattle.cts_units.specs.declared.params.Sink.{Sink}
use Rattle.cts_units.specs.declared.params.Params.{Params}
use Rattle.cts_units.specs.Limits.{IsParams}
use Rattle.cts_merge.specs.declared.side.Finished.{Finished}
use Rattle.cts_merge.specs.declared.side.Side.{Side}
use Rattle.cts_merge.specs.Merge.{IsLeaf, IsMerged}
use Rattle.cts_merge.proofs.Exists.{leaf_there, merged_or_beyond}
use Rattle.cts_merge.proofs.Merges.{leaf_one, merged_one, merged_not_beyond}
use Rattle.cts_memo.specs.declared.key.Key.{Key}
use Rattle.cts_memo.specs.declared.key.Key.TheVariants.{Leaf, Pair}
use Rattle.cts_memo.specs.declared.entry.MemoEntry.{MemoEntry}
use Rattle.cts_memo.specs.declared.entry.MemoCall.{MemoCall}
use Rattle.cts_memo.specs.declared.entry.MemoCall.TheVariants.{Ask, Put, Read}
use Rattle.cts_memo.specs.declared.entry.MemoReply.{MemoReply}
use Rattle.cts_memo.specs.declared.entry.MemoReply.TheVariants.{Asked, Published, Listed}
use Rattle.cts_memo.specs.declared.entry.PutEnd.{PutEnd}
use Rattle.cts_memo.specs.declared.entry.PutEnd.TheVariants.{At, Full, NoMemory}
use Rattle.cts_memo.specs.Keys.{entry}
use Rattle.cts_memo.specs.Sound.{IsMadeOf, IsSound, EntryAt, sink_at}
use Rattle.cts_memo.specs.Replies.{after_put}
use Rattle.cts_memo.specs.Calls.{Allows, Fits, list_after}

-- the list stays, or has one entry more
abbrev Appends : List MemoEntry → List MemoEntry → Type 0
Appends seen after = (after ≡ seen) ⊎ ((e : MemoEntry) × (after ≡ seen ++ e ∷ []))

appends_if : (b : Bool) (seen : List MemoEntry) (e : MemoEntry) → Appends seen (cond b seen (seen ++ e ∷ []))
appends_if true seen e = inl refl
appends_if false seen e = inr (e, refl)

appends_put : (seen : List MemoEntry) (key : Key) (f : Finished) (end : PutEnd) → Appends seen (after_put seen key f end)
appends_put seen key f (At n) = appends_if (nat_lt n (length seen)) seen (entry key f)
appends_put seen key f Full = inl refl
appends_put seen key f NoMemory = inl refl

pub appends : (seen : List MemoEntry) (call : MemoCall) (reply : MemoReply) → Allows seen call reply → Appends seen (list_after seen call reply)
appends seen (Ask key) reply allowed = inl refl
appends seen (Put key f) (Asked answer) allowed = inl refl
appends seen (Put key f) (Published end) allowed = appends_put seen key f end
appends seen (Put key f) (Listed reading) allowed = inl refl
appends seen (Read first most room) reply allowed = inl refl

-- an entry keeps its number in a longer list
pub entry_stays : {A : Type 0} (seen longer : List A) (n : ℕ) (e : A) → IsPrefix seen longer → slice_get seen n ≡ Some e → slice_get longer n ≡ Some e
entry_stays seen longer n e more at =
    let within : n < length seen = slice_get_within seen n e at in
    let here = get_or_from_slice_get seen n e e at in
    let same : get_or longer n e ≡ get_or seen n e = ap (λ l. get_or l n e) (sym (more.1)) ∙ get_or-append seen (more.0) e n within in
    let long : n < length longer = omega (arith, length-append seen (more.0), ap length (more.1)) in
    slice_get-get_or longer n e long ∙ ap Some (same ∙ here)

entry_at : (seen : List MemoEntry) (n : ℕ) (P : MemoEntry → Type 0) (r : Option MemoEntry) → slice_get seen n ≡ r → MatchOption r ⊥ P
    → (e : MemoEntry) × (slice_get seen n ≡ Some e) × P e
entry_at seen n P None is p = absurd p
entry_at seen n P (Some e) is p = (e, is, p)

-- so what is made of a key is the same in longer lists
pub made_stays : (params : Params) (seen longer : List MemoEntry) (key : Key) (f : Finished) → IsPrefix seen longer
    → IsMadeOf params seen key f → IsMadeOf params longer key f
made_stays params seen longer (Leaf x y cap offset) f more made = made
made_stays params seen longer (Pair left right) f more made =
    let a = entry_at seen left (λ a. EntryAt seen right (λ b. IsMerged params a.finished.side b.finished.side f)) (slice_get seen left) refl made in
    let b = entry_at seen right (λ b. IsMerged params a.0.finished.side b.finished.side f) (slice_get seen right) refl (a.2) in
    rw (entry_stays seen longer left (a.0) more (a.1), entry_stays seen longer right (b.0) more (b.1)) (b.2)

pub fits_stays : (params : Params) (seen longer : List MemoEntry) (call : MemoCall) → IsPrefix seen longer → Fits params seen call → Fits params longer call
fits_stays params seen longer (Ask key) more fits = tt
fits_stays params seen longer (Put key f) more fits = made_stays params seen longer key f more fits
fits_stays params seen longer (Read first most room) more fits = tt

-- Of what is made of a key there is one at most, so it can be told from the mere knowledge that there is one.
finished_set : (f g : Finished) → IsProp (f ≡ g)
finished_set f g = hlevel props

untold_leaf : (sink : Sink) (f : Finished) → ∥ IsLeaf sink f ∥₁ → IsLeaf sink f
untold_leaf sink f made =
    let there = leaf_there sink in
    let same : there.0 ≡ f = ∥∥₁_elim made (finished_set _ _) (λ is. leaf_one sink _ _ (there.1) is) in
    subst (IsLeaf sink) same (there.1)

untold_merged : (params : Params) (a b : Side) (f : Finished) → IsParams params → ∥ IsMerged params a b f ∥₁ → IsMerged params a b f
untold_merged params a b f within made =
    elim (merged_or_beyond params a b (within.wire)) [
      | inl pair ↦
          subst (IsMerged params a b)
          (∥∥₁_elim made (finished_set (pair.0) f) (λ is. merged_one params a b (pair.0) f (pair.1) is)) (pair.1)
      | inr beyond ↦ absurd (∥∥₁_elim made (λ x y. absurd x) (λ is. merged_not_beyond params a b f is beyond))
    ]

untold_pair : (params : Params) (f : Finished) (r s : Option MemoEntry) → IsParams params
    → ∥ MatchOption r ⊥ (λ a. MatchOption s ⊥ (λ b. IsMerged params a.finished.side b.finished.side f)) ∥₁
    → MatchOption r ⊥ (λ a. MatchOption s ⊥ (λ b. IsMerged params a.finished.side b.finished.side f))
untold_pair params f None s within made = ∥∥₁_elim made (λ x y. absurd x) (λ x. x)
untold_pair params f (Some a) None within made = ∥∥₁_elim made (λ x y. absurd x) (λ x. x)
untold_pair params f (Some a) (Some b) within made = untold_merged params (a.finished.side) (b.finished.side) f within made

untold_key : (params : Params) (seen : List MemoEntry) (key : Key) (f : Finished) → IsParams params
    → ∥ IsMadeOf params seen key f ∥₁ → IsMadeOf params seen key f
untold_key params seen (Leaf x y cap offset) f within made = untold_leaf (sink_at x y cap offset) f made
untold_key params seen (Pair left right) f within made =
    untold_pair params f (slice_get seen left) (slice_get seen right) within made

distinct_prop : (seen : List MemoEntry) → IsProp (AllPairs (λ a b. a.key ≢ b.key) seen)
distinct_prop seen = hlevel props

pub untold : (params : Params) (seen : List MemoEntry) → IsParams params → ∥ IsSound params seen ∥₁ → IsSound params seen
untold params seen within sound = record {
  distinct = ∥∥₁_elim sound (distinct_prop seen) (λ s. s.distinct);
  made = λ n e at. untold_key params (take n seen) e.key e.finished within (∥∥₁_elim sound ∥∥₁_prop (λ s. ∣ s.made n e at ∣₁));
}
