-- How a publication or a look-up ends, as a fact on the list after it.
use Rattle.std.proofs.Common.{◌≡◌, ◌↔◌, ℕ, ◌<◌, inl, inr, cond, List, [], ◌∷◌, ◌++◌, length, get_or, slice_get, Some, refl, ap, ◌∙◌, subst, arith, length-append, lt-ltb, le-ltb}
use Rattle.std.proofs.Math.Seq.{get_or-append_seam}
use Rattle.std.proofs.lemmas.Option.{slice_get_within, get_or_from_slice_get, slice_get-get_or}
use Rattle.cts_merge.specs.declared.side.Finished.{Finished}
use Rattle.cts_memo.specs.declared.key.Key.{Key}
use Rattle.cts_memo.specs.declared.entry.MemoEntry.{MemoEntry}
use Rattle.cts_memo.specs.declared.entry.Answer.{Answer}
use Rattle.cts_memo.specs.declared.entry.Answer.TheVariants.{Have, Absent}
use Rattle.cts_memo.specs.declared.entry.PutEnd.{PutEnd}
use Rattle.cts_memo.specs.declared.entry.PutEnd.TheVariants.{At, Full, NoMemory}
use Rattle.cts_memo.specs.Keys.{entry}
use Rattle.cts_memo.specs.Sound.{IsMadeOf, IsSound, max_entries}
use Rattle.cts_units.specs.declared.params.Params.{Params}
use Rattle.cts_memo.proofs.Publications.{made_of_all, made_one}
use Rattle.cts_memo.specs.Replies.{IsAbsent, IsFound, IsPut, IsPublished, StandsAt, after_put}

-- the last of a list and one entry more
pub last_stands : (seen : List MemoEntry) (e : MemoEntry) → slice_get (seen ++ e ∷ []) (length seen) ≡ Some e
last_stands seen e =
    slice_get-get_or (seen ++ e ∷ []) (length seen) e (omega (arith, length-append seen (e ∷ [])))
    ∙ ap Some (get_or-append_seam seen e [] e)

-- a key that has an entry isn't absent
pub stands_absent : (seen : List MemoEntry) (key : Key) (n : ℕ) → StandsAt seen key n → IsAbsent seen key → ⊥
stands_absent seen key n stands absent =
    let e = entry key (stands.0) in
    let here : get_or seen n e ≡ e = get_or_from_slice_get seen n e e (stands.1) in
    absent n e (slice_get_within seen n e (stands.1)) (ap (λ x. x.key) here)

-- the answer to a look-up is absent where the key is
pub absent_answer : (seen : List MemoEntry) (key : Key) (answer : Answer) → IsFound seen key answer → (answer ≡ Absent) ↔ IsAbsent seen key
absent_answer seen key (Have n f) found = (λ is. absurd (cc is), λ absent. absurd (stands_absent seen key n (f, found) absent))
absent_answer seen key Absent found = (λ is. found, λ absent. refl)

module _ (params : Params) (met : List MemoEntry) (key : Key) (f : Finished) (sound : IsSound params met) (made : IsMadeOf params met key f) where
  -- the entry of a key that is there has what is made of the key
  ends_at : (n : ℕ) → IsPut met key (At n) → slice_get (after_put met key f (At n)) n ≡ Some (entry key f)
  ends_at n put = elim put [
    | inl found ↦
        let before : n < length met = slice_get_within met n (entry key (found.0)) (found.1) in
        let same : found.0 ≡ f =
        made_one params met key (found.0) f (made_of_all params met n (entry key (found.0)) sound (found.1)) made in
        ap (λ b. slice_get (cond b met (met ++ entry key f ∷ [])) n) (lt-ltb n (length met) before) ∙ found.1
        ∙ ap (λ g. Some (entry key g)) same
    | inr new ↦
        ap (λ b. slice_get (cond b met (met ++ entry key f ∷ [])) n) (le-ltb n (length met) (omega (arith, new.2)))
        ∙ ap (slice_get (met ++ entry key f ∷ [])) (new.2) ∙ last_stands met (entry key f)
  ]

  -- the list after a publication tells how it ended
  pub put_ends : (end : PutEnd) → IsPut met key end → IsPublished (after_put met key f end) key f end
  put_ends (At n) put = ends_at n put
  put_ends Full put = put
  put_ends NoMemory put = put.0

  -- and that it ended in full is told by that list alone
  pub put_full : (end : PutEnd) → IsPut met key end → IsAbsent (after_put met key f end) key
      → length (after_put met key f end) ≡ max_entries → end ≡ Full
  put_full (At n) put absent full = absurd (stands_absent (after_put met key f (At n)) key n (f, ends_at n put) absent)
  put_full Full put absent full = refl
  put_full NoMemory put absent full = absurd (omega (arith, put.1, full))

pub full_ends : (seen : List MemoEntry) (key : Key) (f : Finished) (end : PutEnd) → IsPublished seen key f end → end ≡ Full
    → IsAbsent seen key × (length seen ≡ max_entries)
full_ends seen key f end ends is = subst (IsPublished seen key f) is ends
