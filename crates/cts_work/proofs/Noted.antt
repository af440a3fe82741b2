-- What is known of the nodes of a tree that was built before: it stays known, and answers for the memo.
use Rattle.std.proofs.Common.{◌≡◌, ℕ, ◌<◌, Bool, true, false, not, true≢false, List, [], ◌∷◌, ◌++◌, length, get_or, slice_get, take, drop, ◌+◌, Option, Some, None, IfSome, All, inl, inr, refl, sym, ap, ◌∙◌, subst, arith, length-append, length-take, length-drop}
use mathlib.Core.List.{IsPrefix}
use Rattle.std.specs.List.{cons_option}
use Rattle.std.proofs.lemmas.Bool.{cases_lt}
use Rattle.std.proofs.lemmas.List.{get_or_append_left, get_or_at, get_or-drop, get_or-take}
use Rattle.std.proofs.lemmas.List.Elements.{All-cons}
use Rattle.std.proofs.lemmas.Option.{slice_get-get_or, slice_get_read, slice_get_within, get_or_from_slice_get}
use Rattle.cts_merge.specs.declared.side.Finished.{Finished}
use Rattle.cts_memo.specs.declared.key.Key.{Key}
use Rattle.cts_memo.specs.declared.entry.MemoEntry.{MemoEntry}
use Rattle.cts_memo.specs.contracts.key.KeyPartialEq.TheImpl.{ghosts as keys}
use Rattle.cts_memo.specs.Keys.{entry}
use Rattle.cts_memo.proofs.SameKeys.{map_test, same_key-decides}
use Rattle.cts_work.specs.declared.node.Built.{Built}
use Rattle.cts_work.specs.declared.known.Known.{Known}
use Rattle.cts_work.specs.Built.{IsNoted}
use Rattle.cts_work.specs.Known.{IsKnown, StandFrom, picked}

-- keys that aren't told apart are one
pub one_key : (a b : Key) (differ : Bool) → differ ≡ not (keys.eq a b) → differ ≡ false → a ≡ b
one_key a b differ is same = (same_key-decides a b).0 (sym (map_test a b) ∙ equal (keys.eq a b) (sym is ∙ same))
  where
    equal : (b : Bool) → not b ≡ false → b ≡ true
    equal true e = refl
    equal false e = absurd (true≢false e)

module _ (seen longer : List MemoEntry) (more : IsPrefix seen longer) where
  -- an entry stays where it is
  pub get_longer : (n : ℕ) (e : MemoEntry) → slice_get seen n ≡ Some e → slice_get longer n ≡ Some e
  get_longer n e here =
      let h : n < length seen = slice_get_within seen n e here in
      let same : slice_get longer n ≡ slice_get (seen ++ more.0) n = ap (λ l. slice_get l n) (sym more.1) in
      same ∙ slice_get-get_or (seen ++ more.0) n e (omega (arith, length-append seen more.0, h))
      ∙ ap Some (get_or_append_left seen more.0 e n h ∙ get_or_from_slice_get seen n e e here)

  stays : (number : Option ℕ) (key : Option Key) (f : Finished) → IfSome number (λ n. IfSome key (λ k. slice_get seen n ≡ Some (entry k f)))
      → IfSome number (λ n. IfSome key (λ k. slice_get longer n ≡ Some (entry k f)))
  stays None key f noted = tt
  stays (Some n) None f noted = tt
  stays (Some n) (Some k) f noted = get_longer n (entry k f) noted

  -- so a node stays noted
  pub noted_stays : (b : Built) → IsNoted seen b → IsNoted longer b
  noted_stays b noted = stays b.number b.key b.finished noted

  -- and so does all that is known
  pub all_noted_stay : (nodes : List Built) → All (IsNoted seen) nodes → All (IsNoted longer) nodes
  all_noted_stay nodes noted = λ i d h. noted_stays (get_or nodes i d) (noted i d h)

  pub known_stays : (known : Known) → IsKnown seen known → IsKnown longer known
  known_stays known noted = all_noted_stay known.nodes.items noted

answer_of : (seen : List MemoEntry) (key : Key) (n : ℕ) (number : Option ℕ) (own : Option Key) (f : Finished) → number ≡ Some n → own ≡ Some key
    → IfSome number (λ n. IfSome own (λ k. slice_get seen n ≡ Some (entry k f))) → slice_get seen n ≡ Some (entry key f)
answer_of seen key n number own f is is_key noted =
    subst (λ (o : Option Key). IfSome o (λ k. slice_get seen n ≡ Some (entry k f))) is_key
    (subst (λ (o : Option ℕ). IfSome o (λ m. IfSome own (λ k. slice_get seen m ≡ Some (entry k f)))) is noted)

-- a noted node with a key and a number is the entry of its key
pub noted_entry : (seen : List MemoEntry) (key : Key) (b : Built) (n : ℕ) → IsNoted seen b → b.key ≡ Some key → b.number ≡ Some n
    → slice_get seen n ≡ Some (entry key b.finished)
noted_entry seen key b n noted is_key is = answer_of seen key n b.number b.key b.finished is is_key noted

-- all nodes of a list are noted, so one at a place is
pub noted_at : (seen : List MemoEntry) (nodes : List Built) (p : ℕ) (b : Built) → All (IsNoted seen) nodes → slice_get nodes p ≡ Some b → IsNoted seen b
noted_at seen nodes p b noted here =
    subst (IsNoted seen) (get_or_from_slice_get nodes p b b here) (noted p b (slice_get_within nodes p b here))

-- and those of a list with one more
pub noted_push : (seen : List MemoEntry) (nodes : List Built) (b : Built) → All (IsNoted seen) nodes → IsNoted seen b → All (IsNoted seen) (nodes ++ b ∷ [])
noted_push seen nodes b noted here = λ i d h. elim (cases_lt i (length nodes)) [
  | inl w ↦ subst (IsNoted seen) (sym (get_or_append_left nodes (b ∷ []) d i w)) (noted i d w)
  | inr w ↦
      let last : length nodes ≡ i = omega (arith, h, length-append nodes (b ∷ [])) in
      subst (IsNoted seen) (sym (get_or_at nodes b [] d i last)) here
]

-- and those of some of its places
pub noted_picked : (seen : List MemoEntry) (nodes : List Built) (ps : List ℕ) → All (IsNoted seen) nodes → All (IsNoted seen) (picked nodes ps)
noted_picked seen nodes [] noted = λ i d h. absurd (omega (arith, h))
noted_picked seen nodes (p ∷ ps) noted = by (slice_get nodes p) refl (noted_picked seen nodes ps noted)
  where
    by : (o : Option Built) → slice_get nodes p ≡ o → All (IsNoted seen) (picked nodes ps) → All (IsNoted seen) (picked nodes (p ∷ ps))
    by None e rest = subst (λ o. All (IsNoted seen) (cons_option o (picked nodes ps))) (sym e) rest
    by (Some b) e rest =
        subst (λ o. All (IsNoted seen) (cons_option o (picked nodes ps))) (sym e)
        (All-cons (IsNoted seen) b (picked nodes ps) (noted_at seen nodes p b noted e) rest)

-- the entry at an index of those that stand from a number on
pub entry_stands : (seen entries : List MemoEntry) (first next i : ℕ) (e : MemoEntry) → next ≡ first + i → i < length entries → e ≡ get_or entries i e
    → StandFrom seen first entries → slice_get seen next ≡ Some e
entry_stands seen entries first next i e is h here stand =
    ap (slice_get seen) is ∙ stand i e (slice_get_read entries (length entries) i e refl h here)

-- entries that were read stand in the list
pub read_stand : (seen entries : List MemoEntry) (first most : ℕ) → entries ≡ take most (drop first seen) → StandFrom seen first entries
read_stand seen entries first most is i e here =
    let short : i < length (take most (drop first seen)) = subst (λ l. i < length l) is (slice_get_within entries i e here) in
    let few : i < most = omega (arith, short, length-take most (drop first seen)) in
    let within : first + i < length seen = omega (arith, short, length-take most (drop first seen), length-drop first seen) in
    slice_get-get_or seen (first + i) e within
    ∙ ap Some
    (sym (get_or-drop first seen i e)
    ∙ sym (get_or-take most (drop first seen) i e few)
    ∙ ap (λ l. get_or l i e) (sym is)
    ∙ get_or_from_slice_get entries i e e here)
