-- Ids that are put in order one after another.
use Rattle.std.proofs.Common.{◌≡◌, ℕ, ◌+◌, ◌<◌, ◌≤◌, ◌^◌, Bool, true, false, cond, not, ◌||◌, nat_eq, nat_lt, max, List, [], ◌∷◌, ◌++◌, length, take, get_or, refl, sym, ap, ◌∙◌, arith, length-append}
use Rattle.std.specs.List.{list_any}
use Rattle.std.specs.Ordering.{nat_cmp}
use Rattle.std.specs.BTreeMap.{is_at}
use Rattle.std.specs.BTreeSet.{BTreeSet, contains, Updates}
use Rattle.std.proofs.lemmas.Bool.Decides.{nat_tests}
use Rattle.std.proofs.lemmas.List.{take-append-le, take_all}
use Rattle.std.proofs.lemmas.List.Folds.{list_any-append, list_any_more}
use Rattle.cts_instance.specs.Ids.{EndsBefore, HasFirst, IsOrderedInPart}

-- no ids at all
pub none_ordered : (ids : List ℕ) (known : BTreeSet ℕ) → ids ≡ [] → known.keys ≡ [] → IsOrderedInPart ids known 0 0
unfolding HasFirst EndsBefore
none_ordered ids known none empty = record {
  within = omega arith;
  first = λ id. rw empty refl;
  ends = λ id h. rw none refl;
  end_fits = omega arith;
}

or_false : (b : Bool) → b ≡ (b || false)
or_false true = refl
or_false false = refl

or_true : (b : Bool) → true ≡ (b || true)
or_true true = refl
or_true false = refl

-- what an ordered set finds after one more id
found_after : (added id : ℕ) (before : Bool) → cond (is_at (nat_cmp added) id) true before ≡ (before || nat_eq id added)
found_after added id before = by_order (nat_lt added id) refl (nat_eq added id) refl
  where
    by_order : (less : Bool) → nat_lt added id ≡ less → (same : Bool) → nat_eq added id ≡ same
        → cond (is_at (nat_cmp added) id) true before ≡ (before || nat_eq id added)
    by_order true l same s =
        let other : nat_eq id added ≡ false = grind (arith, nat_tests) in
        rw (l, other) (or_false before)
    by_order false l true s =
        let one : nat_eq id added ≡ true = grind (arith, nat_tests) in
        rw (l, s, one) (or_true before)
    by_order false l false s =
        let other : nat_eq id added ≡ false = grind (arith, nat_tests) in
        rw (l, s, other) (or_false before)

-- one more of the ids is in order
pub first_more : (ids : List ℕ) (count : ℕ) (known known' : BTreeSet ℕ) (d : ℕ) → HasFirst ids count known → count < length ids
    → Updates nat_cmp known known' (get_or ids count d) true → HasFirst ids (count + 1) known'
unfolding HasFirst
first_more ids count known known' d first h updates id =
    updates.0 id
    ∙ ap (λ before. cond (is_at (nat_cmp (get_or ids count d)) id) true before) (first id)
    ∙ found_after (get_or ids count d) id (list_any (nat_eq id) (take count ids))
    ∙ sym (list_any_more (nat_eq id) ids count d h)

-- all of the ids are in order
pub has_all : (ids : List ℕ) (count : ℕ) (known : BTreeSet ℕ) (id : ℕ) → HasFirst ids count known → count ≡ length ids
    → contains nat_cmp known id ≡ list_any (nat_eq id) ids
unfolding HasFirst
has_all ids count known id first all = first id ∙ ap (list_any (nat_eq id)) (take_all count ids (omega arith))

-- an id past the end is new
pub has_no_later : (ids : List ℕ) (end id : ℕ) → EndsBefore ids end → end ≤ id → list_any (nat_eq id) ids ≡ false
unfolding EndsBefore
has_no_later ids end id ends h = ends id h

-- one id more
pub push_ordered : (ids : List ℕ) (known : BTreeSet ℕ) (ordered end id end' : ℕ) → IsOrderedInPart ids known ordered end → id < 2 ^ 32
    → end' ≡ max end (id + 1) → IsOrderedInPart (ids ++ id ∷ []) known ordered end'
unfolding HasFirst EndsBefore
push_ordered ids known ordered end id end' p fits e = record {
  within = omega (arith, length-append ids (id ∷ []));
  first = λ x. let front : ordered ≤ length ids = p.within in p.first x ∙ sym (ap (list_any (nat_eq x)) (take-append-le ordered ids (id ∷ []) front));
  ends = λ x h.
      let before : list_any (nat_eq x) ids ≡ false = p.ends x (omega (arith, e)) in
      let here : nat_eq x id ≡ false = (let less : id < x = omega (arith, e) in grind (arith, nat_tests)) in
      rw (list_any-append, before, here) refl;
  end_fits = omega (arith, e, p.end_fits);
}

-- one id more, in order
pub added_first : (ids ids' : List ℕ) (count count' : ℕ) (known known' : BTreeSet ℕ) (id : ℕ) → HasFirst ids count known → count ≡ length ids
    → Updates nat_cmp known known' id true → ids' ≡ ids ++ id ∷ [] → count' ≡ length ids' → HasFirst ids' count' known'
unfolding HasFirst
added_first ids ids' count count' known known' id first all updates is all' x =
    updates.0 x
    ∙ ap (λ before. cond (is_at (nat_cmp id) x) true before) (has_all ids count known x first all)
    ∙ found_after id x (list_any (nat_eq x) ids)
    ∙ ap (λ last. list_any (nat_eq x) ids || last) (or_false (nat_eq x id))
    ∙ sym (list_any-append (nat_eq x) ids (id ∷ []))
    ∙ sym (ap (list_any (nat_eq x)) (take_all count' ids' (omega (arith, all')) ∙ is))

pub not_true : (found : Bool) → true ≡ not found → found ≡ false
not_true true e = cc
not_true false e = refl

pub not_false : (found : Bool) → false ≡ not found → found ≡ true
not_false true e = refl
not_false false e = cc

-- what is kept where an id is new, and where it isn't
pub kept_new : (ids pushed : List ℕ) (id : ℕ) → list_any (nat_eq id) ids ≡ false → pushed ≡ ids ++ id ∷ []
    → pushed ≡ cond (list_any (nat_eq id) ids) ids (ids ++ id ∷ [])
kept_new ids pushed id none is = rw none is

pub kept_old : (ids left : List ℕ) (id : ℕ) → list_any (nat_eq id) ids ≡ true → left ≡ ids
    → left ≡ cond (list_any (nat_eq id) ids) ids (ids ++ id ∷ [])
kept_old ids left id some is = rw some is

pub ends_added : (ids ids' : List ℕ) (end id : ℕ) → EndsBefore ids end → id < end → ids' ≡ cond (list_any (nat_eq id) ids) ids (ids ++ id ∷ [])
    → EndsBefore ids' end
unfolding EndsBefore
ends_added ids ids' end id ends early is x past = by_found (list_any (nat_eq id) ids) is
  where
    by_found : (found : Bool) → ids' ≡ cond found ids (ids ++ id ∷ []) → list_any (nat_eq x) ids' ≡ false
    by_found true e = rw e (ends x past)
    by_found false e =
        let before : list_any (nat_eq x) ids ≡ false = ends x past in
        let here : nat_eq x id ≡ false = (let less : id < x = omega (arith, past, early) in grind (arith, nat_tests)) in
        rw (e, list_any-append, before, here) refl
