-- Where the entry of a key stands in a list.
use Rattle.std.proofs.Common.{◌≡◌, ◌≢◌, ℕ, ◌<◌, ◌≤◌, Bool, true, false, cond, nat_lt, List, [], ◌∷◌, length, get_or, slice_get, position, Some, None, refl, sym, ap, ◌∙◌, arith, length-append, lt-ltb, le-ltb}
use Rattle.std.proofs.Math.ListN.{get_or-append}
use Rattle.std.specs.List.{position_or_len}
use Rattle.std.proofs.lemmas.List.Quantifiers.{position-Some}
use Rattle.std.proofs.lemmas.List.Sums.{position_or_len_is}
use Rattle.std.proofs.lemmas.Option.{slice_get_within, get_or_from_slice_get, slice_get-get_or}
use mathlib.Core.List.{IsPrefix}
use Rattle.cts_units.specs.declared.params.Params.{Params}
use Rattle.cts_memo.specs.declared.key.Key.{Key}
use Rattle.cts_memo.specs.declared.entry.MemoEntry.{MemoEntry}
use Rattle.cts_memo.specs.Keys.{entry, same_key}
use Rattle.cts_memo.specs.Sound.{IsSound}
use Rattle.cts_memo.specs.Replies.{IsAbsent, StandsAt}
use Rattle.cts_memo.specs.Numbers.{position_of}
use Rattle.cts_memo.proofs.SameKeys.{same_key-decides}

module _ {X : Type 0} (p : X → Bool) where
  -- the first place that passes
  pub position_is : (xs : List X) (n : ℕ) (d : X) → n < length xs → p (get_or xs n d) ≡ true
      → ((k : ℕ) → k < n → p (get_or xs k d) ≡ false) → position p xs ≡ Some n
  position_is xs n d within here before =
      let first : position_or_len p xs ≡ n = position_or_len_is p xs n d (omega arith) before (λ h. here) in
      ap (λ i. cond (nat_lt i (length xs)) (Some i) None) first ∙ ap (λ b. cond b (Some n) None) (lt-ltb n (length xs) within)

  -- none where no place does
  pub position_none : (xs : List X) → ((k : ℕ) (d : X) → k < length xs → p (get_or xs k d) ≡ false) → position p xs ≡ None
  position_none [] fails = refl
  position_none (x ∷ xs) fails =
      let end : position_or_len p (x ∷ xs) ≡ length (x ∷ xs) =
      position_or_len_is p (x ∷ xs) (length (x ∷ xs)) x (omega arith) (λ k h. fails k x h) (λ h. absurd (omega arith)) in
      ap (λ i. cond (nat_lt i (length (x ∷ xs))) (Some i) None) end
      ∙ ap (λ b. cond b (Some (length (x ∷ xs))) None) (le-ltb (length (x ∷ xs)) (length (x ∷ xs)) (omega arith))

  -- it stays in a longer list
  pub position_stays : (xs ys : List X) (n : ℕ) → IsPrefix xs ys → position p xs ≡ Some n → position p ys ≡ Some n
  position_stays [] ys n more at = cc
  position_stays (x ∷ xs) ys n more at =
      let first = position-Some p (x ∷ xs) n x at in
      let same : (k : ℕ) → k ≤ n → get_or ys k x ≡ get_or (x ∷ xs) k x =
      λ k h. ap (λ l. get_or l k x) (sym (more.1)) ∙ get_or-append (x ∷ xs) (more.0) x k (omega (arith, first.0)) in
      position_is ys n x (omega (arith, first.0, length-append (x ∷ xs) (more.0), ap length (more.1)))
      (ap p (same n (omega arith)) ∙ first.1) (λ k h. ap p (same k (omega arith)) ∙ first.2 k h)

-- the position of a key is that of an entry with the key
pub position_stands : (seen : List MemoEntry) (key : Key) (n : ℕ) → position_of seen key ≡ Some n
    → (e : MemoEntry) × (slice_get seen n ≡ Some e) × (e.key ≡ key)
position_stands [] key n at = cc
position_stands (x ∷ xs) key n at =
    let first = position-Some (λ e. same_key e.key key) (x ∷ xs) n x at in
    (get_or (x ∷ xs) n x, slice_get-get_or (x ∷ xs) n x (first.0), (same_key-decides _ key).0 (first.1))

-- a key that isn't another
other_key : (a b : Key) (t : Bool) → same_key a b ≡ t → a ≢ b → same_key a b ≡ false
other_key a b true is differ = absurd (differ ((same_key-decides a b).0 is))
other_key a b false is differ = is

-- a key that is absent has none
pub absent_position : (seen : List MemoEntry) (key : Key) → IsAbsent seen key → position_of seen key ≡ None
absent_position seen key absent =
    position_none (λ e. same_key e.key key) seen (λ k d h. other_key _ key (same_key (get_or seen k d).key key) refl (absent k d h))

-- and where the keys are distinct an entry's position is its key's
pub stands_position : (params : Params) (seen : List MemoEntry) (key : Key) (n : ℕ) → IsSound params seen → StandsAt seen key n
    → position_of seen key ≡ Some n
stands_position params seen key n sound stands =
    let e = entry key (stands.0) in
    let within : n < length seen = slice_get_within seen n e (stands.1) in
    let here : get_or seen n e ≡ e = get_or_from_slice_get seen n e e (stands.1) in
    let own : (get_or seen n e).key ≡ key = ap (λ x. x.key) here in
    position_is (λ x. same_key x.key key) seen n e within ((same_key-decides _ key).1 own)
    (λ k h. other_key _ key (same_key (get_or seen k e).key key) refl (λ is. sound.distinct k n e h within (is ∙ sym own)))
