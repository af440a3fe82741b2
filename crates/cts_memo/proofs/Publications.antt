-- What it does to a table's entries to publish what was made of a key.
use Rattle.std.proofs.Common.{◌≡◌, ◌≢◌, ℕ, ◌+◌, ◌<◌, ◌≤◌, ◌⊎◌, inl, inr, cond, List, [], ◌∷◌, ◌++◌, suc, length, take, get_or, slice_get, Option, Some, None, MatchOption, Result, Ok, Err, OnOk, OnErr, refl, sym, ap, ◌∙◌, subst, arith, length-append, lt-ltb, le-ltb}
use Rattle.std.proofs.lemmas.List.{map-append}
use Rattle.std.specs.List.{position_or_len}
use Rattle.std.specs.Map.{keys_of, lookup}
use Rattle.std.proofs.lemmas.Bool.{cases_lt}
use Rattle.std.proofs.lemmas.Grind.{common_steps}
use Rattle.std.proofs.lemmas.List.Quantifiers.{all_pairs_push}
use Rattle.std.proofs.lemmas.Option.{slice_get_within, get_or_from_slice_get, slice_get-get_or}
use Rattle.indexmap.specs.IndexMap.{insert_entry}
use Rattle.cts_list.proofs.Prefixes.{front_of}
use Rattle.cts_units.specs.declared.params.Params.{Params}
use Rattle.cts_units.specs.Limits.{IsParams}
use Rattle.cts_merge.specs.declared.side.Finished.{Finished}
use Rattle.cts_merge.specs.Merge.{IsMerged}
use Rattle.cts_merge.proofs.Merges.{leaf_one, merged_one}
use Rattle.cts_memo.specs.declared.key.Key.{Key}
use Rattle.cts_memo.specs.declared.key.Key.TheVariants.{Leaf, Pair}
use Rattle.cts_memo.specs.declared.entry.MemoEntry.{MemoEntry}
use Rattle.cts_memo.specs.declared.entry.PutEnd.TheVariants.{At}
use Rattle.cts_memo.specs.contracts.key.KeyPartialEq.TheImpl.{ghosts}
use Rattle.cts_memo.specs.Keys.{entry, entries_of}
use Rattle.cts_memo.specs.Sound.{IsMadeOf, IsSound, sink_at, max_entries}
use Rattle.cts_memo.specs.Replies.{IsAbsent, IsPut, after_put}
use Rattle.cts_memo.specs.TableLaws.{made_stays, untold}
use Rattle.cts_memo.proofs.Maps.{looked_none, looked_some, put_back, put_new, new_place}

pub length-entries : (es : List (Key × Finished)) → length (entries_of es) ≡ length es
length-entries [] = refl
length-entries (p ∷ es) = ap suc (length-entries es)

merged_same : (params : Params) (f g : Finished) (r s : Option MemoEntry)
    → MatchOption r ⊥ (λ a. MatchOption s ⊥ (λ b. IsMerged params a.finished.side b.finished.side f))
    → MatchOption r ⊥ (λ a. MatchOption s ⊥ (λ b. IsMerged params a.finished.side b.finished.side g)) → f ≡ g
merged_same params f g None s p q = absurd p
merged_same params f g (Some a) None p q = absurd p
merged_same params f g (Some a) (Some b) p q = merged_one params a.finished.side b.finished.side f g p q

-- of a key one thing is made
pub made_one : (params : Params) (seen : List MemoEntry) (key : Key) (f g : Finished) → IsMadeOf params seen key f → IsMadeOf params seen key g → f ≡ g
made_one params seen (Leaf x y cap offset) f g p q = leaf_one (sink_at x y cap offset) f g p q
made_one params seen (Pair left right) f g p q = merged_same params f g (slice_get seen left) (slice_get seen right) p q

-- an entry is made of those before it, and so of all
pub made_of_all : (params : Params) (seen : List MemoEntry) (n : ℕ) (e : MemoEntry) → IsSound params seen → slice_get seen n ≡ Some e
    → IsMadeOf params seen e.key e.finished
made_of_all params seen n e sound at = made_stays params (take n seen) seen e.key e.finished (front_of n seen) (sound.made n e at)

-- one entry more: its key is new, and it is what is made of it
pub sound_push : (params : Params) (seen : List MemoEntry) (key : Key) (f : Finished) → IsSound params seen → IsAbsent seen key
    → IsMadeOf params seen key f → IsSound params (seen ++ entry key f ∷ [])
sound_push params seen key f sound absent made = record {
  distinct = all_pairs_push (λ a b. a.key ≢ b.key) seen (entry key f) sound.distinct (λ k d h. absent k d h);
  made = λ n e at. elim (cases_lt n (length seen)) [
    | inl before ↦
        let front : take n (seen ++ entry key f ∷ []) ≡ take n seen = grind (arith, common_steps) in
        let here : get_or (seen ++ entry key f ∷ []) n e ≡ e = get_or_from_slice_get (seen ++ entry key f ∷ []) n e e at in
        let there : get_or (seen ++ entry key f ∷ []) n e ≡ get_or seen n e = grind (arith, common_steps) in
        rw front (sound.made n e (slice_get-get_or seen n e before ∙ ap Some (sym there ∙ here)))
    | inr after ↦
        let within : n < length (seen ++ entry key f ∷ []) = slice_get_within (seen ++ entry key f ∷ []) n e at in
        let last : n ≡ length seen = omega (arith, length-append seen (entry key f ∷ [])) in
        let front : take n (seen ++ entry key f ∷ []) ≡ seen = grind (arith, common_steps) in
        let here : get_or (seen ++ entry key f ∷ []) n e ≡ e = get_or_from_slice_get (seen ++ entry key f ∷ []) n e e at in
        let there : get_or (seen ++ entry key f ∷ []) n e ≡ entry key f = grind (arith, common_steps) in
        let same : entry key f ≡ e = sym there ∙ here in
        rw front (subst (λ (x : MemoEntry). IsMadeOf params seen x.key x.finished) same made)
  ];
}

module _ (params : Params) (es : List (Key × Finished)) (key : Key) (f : Finished) (within : IsParams params)
    (told : ∥ IsSound params (entries_of es) ∥₁) (made : IsMadeOf params (entries_of es) key f) where
  -- the first place of the key, or the end
  abbrev place : ℕ
  place = position_or_len (ghosts.eq key) (keys_of es)

  abbrev inserted : List (Key × Finished)
  inserted = insert_entry ghosts.eq es key f

  -- an insertion finds the key's entry, which has the same, or appends one
  abbrev Inserts : Type 0
  Inserts = ((inserted ≡ es) × (slice_get (entries_of es) place ≡ Some (entry key f)))
      ⊎ ((inserted ≡ es ++ (key, f) ∷ []) × IsAbsent (entries_of es) key × (place ≡ length (entries_of es)))

  -- what a key has that is there is what is made of it
  there : (g : Finished) → lookup (ghosts.eq key) es ≡ Some g → (inserted ≡ es) × (slice_get (entries_of es) place ≡ Some (entry key f))
  there g e =
      let sound = untold params (entries_of es) within told in
      let at = looked_some key es g e in
      let same : g ≡ f =
      made_one params (entries_of es) key g f (made_of_all params (entries_of es) place (entry key g) sound at) made in
      (put_back key es f (e ∙ ap Some same), at ∙ ap (λ x. Some (entry key x)) same)

  inserts_by : (r : Option Finished) → lookup (ghosts.eq key) es ≡ r → Inserts
  inserts_by None e = inr (put_new key es f e, looked_none key es e, new_place key es e)
  inserts_by (Some g) e = inl (there g e)

  inserts : Inserts
  inserts = inserts_by (lookup (ghosts.eq key) es) refl

  pushed : entries_of (es ++ (key, f) ∷ []) ≡ entries_of es ++ entry key f ∷ []
  pushed = map-append (λ p. entry (p.0) (p.1)) es ((key, f) ∷ [])

  insert_sound : ∥ IsSound params (entries_of inserted) ∥₁
  insert_sound = elim inserts [
    | inl found ↦ subst (λ l. ∥ IsSound params (entries_of l) ∥₁) (sym (found.0)) told
    | inr new ↦
        subst (λ l. ∥ IsSound params l ∥₁) (sym (ap entries_of (new.0) ∙ pushed))
        ∣ sound_push params (entries_of es) key f (untold params (entries_of es) within told) (new.1) made ∣₁
  ]

  insert_length : length (entries_of inserted) ≤ length (entries_of es) + 1
  insert_length = elim inserts [
    | inl found ↦ omega (arith, ap (λ l. length (entries_of l)) (found.0))
    | inr new ↦ omega (arith, ap (λ l. length (entries_of l)) (new.0), ap length pushed, length-append (entries_of es) (entry key f ∷ []))
  ]

  -- so whether there was memory or not, a table's rules are kept
  pub insert_keeps : {T E : Type 0} (r : Result T E) (es' : List (Key × Finished)) → OnOk r (es' ≡ inserted) → OnErr r (es' ≡ es)
      → length (entries_of es) < max_entries → ∥ IsSound params (entries_of es') ∥₁ × (length (entries_of es') ≤ max_entries)
  insert_keeps (Ok t) es' ok err room = (
    subst (λ l. ∥ IsSound params (entries_of l) ∥₁) (sym ok) insert_sound,
    omega (arith, ap (λ l. length (entries_of l)) ok, insert_length),
  )
  insert_keeps (Err e) es' ok err room = (
    subst (λ l. ∥ IsSound params (entries_of l) ∥₁) (sym err) told,
    omega (arith, ap (λ l. length (entries_of l)) err),
  )

  pub insert_end : length (entries_of es) < max_entries → IsPut (entries_of es) key (At place)
  insert_end room = elim inserts [ inl found ↦ inl (f, found.1) | inr new ↦ inr (new.1, room, new.2) ]

  pub insert_told : (es' : List (Key × Finished)) → es' ≡ inserted → entries_of es' ≡ after_put (entries_of es) key f (At place)
  insert_told es' is = elim inserts [
    | inl found ↦
        let before : place < length (entries_of es) = slice_get_within (entries_of es) place (entry key f) (found.1) in
        ap entries_of (is ∙ found.0)
        ∙ sym (ap (λ b. cond b (entries_of es) (entries_of es ++ entry key f ∷ [])) (lt-ltb place (length (entries_of es)) before))
    | inr new ↦
        ap entries_of (is ∙ new.0) ∙ pushed
        ∙ sym (ap (λ b. cond b (entries_of es) (entries_of es ++ entry key f ∷ [])) (le-ltb place (length (entries_of es)) (omega (arith, new.2))))
  ]

-- a publication of a key that is there changes nothing
pub found_told : (seen : List MemoEntry) (key : Key) (f : Finished) (n : ℕ) (e : MemoEntry) → slice_get seen n ≡ Some e
    → seen ≡ after_put seen key f (At n)
found_told seen key f n e at =
    let before : n < length seen = slice_get_within seen n e at in
    sym (ap (λ b. cond b seen (seen ++ entry key f ∷ [])) (lt-ltb n (length seen) before))
