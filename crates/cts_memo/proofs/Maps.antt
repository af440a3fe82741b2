-- What the map of a table answers, as facts on the entries that it tells.
use Rattle.std.proofs.Common.{◌≡◌, ◌≢◌, ℕ, suc, ◌+◌, Bool, true, false, cond, not, List, [], ◌∷◌, ◌++◌, length, slice_get, Some, None, refl, sym, ap, ◌∙◌, arith, true≢false}
use Rattle.std.specs.List.{position_or_len}
use Rattle.std.specs.Map.{keys_of, lookup, lookup_key}
use Rattle.std.specs.Option.{option_map}
use Rattle.std.proofs.lemmas.List.Elements.{All-cons}
use Rattle.std.proofs.lemmas.Option.{slice_get-map}
use Rattle.indexmap.specs.IndexMap.{insert_entry}
use Rattle.cts_merge.specs.declared.side.Finished.{Finished}
use Rattle.cts_memo.specs.declared.key.Key.{Key}
use Rattle.cts_memo.specs.contracts.key.KeyPartialEq.TheImpl.{ghosts}
use Rattle.cts_memo.specs.Keys.{entry, entries_of}
use Rattle.cts_memo.specs.Replies.{IsAbsent}
use Rattle.cts_memo.proofs.SameKeys.{same_key-decides, map_test}

next : {X : Type 0} (x : X) (xs : List X) (n : ℕ) → slice_get (x ∷ xs) (1 + n) ≡ slice_get xs n
next x xs n = let e : 1 + n ≡ suc n = omega arith in ap (slice_get (x ∷ xs)) e

module _ (key : Key) where
  passes : (k : Key) → key ≡ k → ghosts.eq key k ≡ true
  passes k e = map_test key k ∙ (same_key-decides key k).1 e

  same : (k : Key) → ghosts.eq key k ≡ true → key ≡ k
  same k e = (same_key-decides key k).0 (sym (map_test key k) ∙ e)

  -- a key that isn't found has no entry
  pub looked_none : (es : List (Key × Finished)) → lookup (ghosts.eq key) es ≡ None → IsAbsent (entries_of es) key
  looked_none [] e = λ k d h. absurd (omega arith)
  looked_none (p ∷ es) e = by (ghosts.eq key (p.0)) refl e (looked_none es)
    where
      by : (b : Bool) → ghosts.eq key (p.0) ≡ b → cond (ghosts.eq key (p.0)) (Some (p.1)) (lookup (ghosts.eq key) es) ≡ None
          → (lookup (ghosts.eq key) es ≡ None → IsAbsent (entries_of es) key) → IsAbsent (entries_of (p ∷ es)) key
      by true is e rest = let found : Some (p.1) ≡ None = sym (ap (λ c. cond c (Some (p.1)) (lookup (ghosts.eq key) es)) is) ∙ e in cc
      by false is e rest =
          All-cons (λ x. x.key ≢ key) (entry (p.0) (p.1)) (entries_of es) (λ one. true≢false (sym (passes (p.0) (sym one)) ∙ is))
          (rest (sym (ap (λ c. cond c (Some (p.1)) (lookup (ghosts.eq key) es)) is) ∙ e))

  -- one that is found stands at its first place
  pub looked_some : (es : List (Key × Finished)) (g : Finished) → lookup (ghosts.eq key) es ≡ Some g
      → slice_get (entries_of es) (position_or_len (ghosts.eq key) (keys_of es)) ≡ Some (entry key g)
  looked_some [] g e = cc
  looked_some (p ∷ es) g e = by (ghosts.eq key (p.0)) refl e (looked_some es g)
    where
      by : (b : Bool) → ghosts.eq key (p.0) ≡ b → cond (ghosts.eq key (p.0)) (Some (p.1)) (lookup (ghosts.eq key) es) ≡ Some g
          → (lookup (ghosts.eq key) es ≡ Some g → slice_get (entries_of es) (position_or_len (ghosts.eq key) (keys_of es)) ≡ Some (entry key g))
          → slice_get (entries_of (p ∷ es)) (position_or_len (ghosts.eq key) (keys_of (p ∷ es))) ≡ Some (entry key g)
      by true is e rest =
          let found : Some (p.1) ≡ Some g = sym (ap (λ c. cond c (Some (p.1)) (lookup (ghosts.eq key) es)) is) ∙ e in
          let value : p.1 ≡ g = cc in
          ap (λ c. slice_get (entries_of (p ∷ es)) (cond (not c) (1 + position_or_len (ghosts.eq key) (keys_of es)) 0)) is
          ∙ ap Some (λ k. entry (sym (same (p.0) is) k) (value k))
      by false is e rest =
          ap (λ c. slice_get (entries_of (p ∷ es)) (cond (not c) (1 + position_or_len (ghosts.eq key) (keys_of es)) 0)) is
          ∙ next (entry (p.0) (p.1)) (entries_of es) (position_or_len (ghosts.eq key) (keys_of es))
          ∙ rest (sym (ap (λ c. cond c (Some (p.1)) (lookup (ghosts.eq key) es)) is) ∙ e)

  -- the key that is found is the one that was looked for
  pub looked_key : (es : List (Key × Finished)) (k : Key) → lookup_key (ghosts.eq key) es ≡ Some k → key ≡ k
  looked_key [] k e = cc
  looked_key (p ∷ es) k e = by (ghosts.eq key (p.0)) refl e (looked_key es k)
    where
      by : (b : Bool) → ghosts.eq key (p.0) ≡ b → cond (ghosts.eq key (p.0)) (Some (p.0)) (lookup_key (ghosts.eq key) es) ≡ Some k
          → (lookup_key (ghosts.eq key) es ≡ Some k → key ≡ k) → key ≡ k
      by true is e rest =
          let found : Some (p.0) ≡ Some k = sym (ap (λ c. cond c (Some (p.0)) (lookup_key (ghosts.eq key) es)) is) ∙ e in
          let one : p.0 ≡ k = cc in
          same (p.0) is ∙ one
      by false is e rest = rest (sym (ap (λ c. cond c (Some (p.0)) (lookup_key (ghosts.eq key) es)) is) ∙ e)

  -- so its entry, by the number that the map gives
  pub found_entry : (es : List (Key × Finished)) (k : Key) (f : Finished) (n : ℕ) → slice_get es n ≡ Some (k, f)
      → lookup_key (ghosts.eq key) es ≡ Some k → slice_get (entries_of es) n ≡ Some (entry key f)
  found_entry es k f n at found =
      slice_get-map (λ p. entry (p.0) (p.1)) es n ∙ ap (option_map (λ p. entry (p.0) (p.1))) at
      ∙ ap (λ x. Some (entry x f)) (sym (looked_key es k found))

  -- and to put what is there changes nothing
  pub put_back : (es : List (Key × Finished)) (f : Finished) → lookup (ghosts.eq key) es ≡ Some f → insert_entry ghosts.eq es key f ≡ es
  put_back [] f e = cc
  put_back (p ∷ es) f e = by (ghosts.eq key (p.0)) refl e (put_back es f)
    where
      by : (b : Bool) → ghosts.eq key (p.0) ≡ b → cond (ghosts.eq key (p.0)) (Some (p.1)) (lookup (ghosts.eq key) es) ≡ Some f
          → (lookup (ghosts.eq key) es ≡ Some f → insert_entry ghosts.eq es key f ≡ es) → insert_entry ghosts.eq (p ∷ es) key f ≡ p ∷ es
      by true is e rest =
          let found : Some (p.1) ≡ Some f = sym (ap (λ c. cond c (Some (p.1)) (lookup (ghosts.eq key) es)) is) ∙ e in
          let value : p.1 ≡ f = cc in
          ap (λ c. cond c ((p.0, f) ∷ es) (p ∷ insert_entry ghosts.eq es key f)) is ∙ ap (λ v. (p.0, v) ∷ es) (sym value)
      by false is e rest =
          ap (λ c. cond c ((p.0, f) ∷ es) (p ∷ insert_entry ghosts.eq es key f)) is
          ∙ ap (λ l. p ∷ l) (rest (sym (ap (λ c. cond c (Some (p.1)) (lookup (ghosts.eq key) es)) is) ∙ e))

  -- a new one goes last
  pub put_new : (es : List (Key × Finished)) (f : Finished) → lookup (ghosts.eq key) es ≡ None → insert_entry ghosts.eq es key f ≡ es ++ (key, f) ∷ []
  put_new [] f e = refl
  put_new (p ∷ es) f e = by (ghosts.eq key (p.0)) refl e (put_new es f)
    where
      by : (b : Bool) → ghosts.eq key (p.0) ≡ b → cond (ghosts.eq key (p.0)) (Some (p.1)) (lookup (ghosts.eq key) es) ≡ None
          → (lookup (ghosts.eq key) es ≡ None → insert_entry ghosts.eq es key f ≡ es ++ (key, f) ∷ [])
          → insert_entry ghosts.eq (p ∷ es) key f ≡ (p ∷ es) ++ (key, f) ∷ []
      by true is e rest = let found : Some (p.1) ≡ None = sym (ap (λ c. cond c (Some (p.1)) (lookup (ghosts.eq key) es)) is) ∙ e in cc
      by false is e rest =
          ap (λ c. cond c ((p.0, f) ∷ es) (p ∷ insert_entry ghosts.eq es key f)) is
          ∙ ap (λ l. p ∷ l) (rest (sym (ap (λ c. cond c (Some (p.1)) (lookup (ghosts.eq key) es)) is) ∙ e))

  pub new_place : (es : List (Key × Finished)) → lookup (ghosts.eq key) es ≡ None → position_or_len (ghosts.eq key) (keys_of es) ≡ length (entries_of es)
  new_place [] e = refl
  new_place (p ∷ es) e = by (ghosts.eq key (p.0)) refl e (new_place es)
    where
      by : (b : Bool) → ghosts.eq key (p.0) ≡ b → cond (ghosts.eq key (p.0)) (Some (p.1)) (lookup (ghosts.eq key) es) ≡ None
          → (lookup (ghosts.eq key) es ≡ None → position_or_len (ghosts.eq key) (keys_of es) ≡ length (entries_of es))
          → position_or_len (ghosts.eq key) (keys_of (p ∷ es)) ≡ length (entries_of (p ∷ es))
      by true is e rest = let found : Some (p.1) ≡ None = sym (ap (λ c. cond c (Some (p.1)) (lookup (ghosts.eq key) es)) is) ∙ e in cc
      by false is e rest =
          ap (λ c. cond (not c) (1 + position_or_len (ghosts.eq key) (keys_of es)) 0) is
          ∙ ap (λ n. 1 + n) (rest (sym (ap (λ c. cond c (Some (p.1)) (lookup (ghosts.eq key) es)) is) ∙ e)) ∙ omega arith
