-- What each step of a book does to its one list of entries, and to the two lists that a replay knows.
use Rattle.std.proofs.Common.{◌≡◌, ℕ, ◌+◌, ◌-◌, ◌<◌, ◌≤◌, ◌⊎◌, List, [], ◌∷◌, ◌++◌, zero, suc, length, take, drop, reverse, get_or, slice_get, Some, None, inl, inr, refl, sym, ap, ◌∙◌, subst, arith, length-append}
use Rattle.std.proofs.lemmas.List.{take-take, take_all, drop_all, take_more, drop_more, take-append-le, take_at, drop_at, length-take-le, reverse-append}
use Rattle.std.proofs.lemmas.Option.{slice_get_within, get_or_from_slice_get}
use Rattle.cts_units.specs.declared.params.Sink.{Sink}
use Rattle.cts_units.specs.Ids.{HasDistinctIds}
use Rattle.cts_block.specs.declared.blocks.Block.{Block}
use Rattle.cts_instance.specs.declared.parts.Parts.{Parts}
use Rattle.cts_instance.specs.Validity.{IsValid, with_sinks}
use Rattle.cts_edit.specs.declared.edit.Edit.{Edit}
use Rattle.cts_edit.specs.declared.edit.Entry.{Entry}
use Rattle.cts_edit.specs.Edits.{IsEdit, applied, after}
use Rattle.cts_edit.specs.Decide.{decide}
use Rattle.cts_edit.specs.Sound.{IsAccepted, IsSound}
use Rattle.cts_edit.proofs.Places.{get_push}
use Rattle.cts_edit.proofs.Histories.{accepted_passes, after_push, sound_push}
use Rattle.cts_edit.proofs.Validities.{sound_valid}
use Rattle.cts_undo.specs.declared.inverse.Inverse.{Inverse}
use Rattle.cts_undo.specs.Inverses.{Fits, Meets, taken_back}
use Rattle.cts_undo.specs.Replay.{State, after_change, after_undo, after_redo}
use Rattle.cts_undo.specs.Book.{TakesBack, IsBook, state_of}

-- an element of the first n
get_front : {A : Type 0} (n k : ℕ) (xs : List A) (x : A) → slice_get (take n xs) k ≡ Some x → (k < n) × (slice_get xs k ≡ Some x)
get_front zero k xs x at = absurd (cc)
get_front (suc n) k [] x at = absurd (cc)
get_front (suc n) zero (y ∷ xs) x at = (omega arith, at)
get_front (suc n) (suc k) (y ∷ xs) x at = let rest = get_front n k xs x at in (let h : k < n = rest.0 in omega arith, rest.1)

-- the element at a place within a list
item_at : {A : Type 0} (xs : List A) (n : ℕ) → n < length xs → (x : A) × (slice_get xs n ≡ Some x)
item_at [] n inside = absurd (omega arith)
item_at (x ∷ xs) zero inside = (x, refl)
item_at (x ∷ xs) (suc n) inside = item_at xs n (omega arith)

-- the first entries of a sound history are sound
pub front_sound : (base : Parts) (entries : List Entry) (n : ℕ) → IsSound base entries → IsSound base (take n entries)
front_sound base entries n sound = record {
  each = λ k entry at.
      let there = get_front n k entries entry at in
      subst (λ l. IsAccepted base l entry.edit) (sym (take-take k n entries (let h : k < n = there.0 in omega arith))) (sound.each k entry there.1);
}

-- an accepted edit meets the sinks after the entries before it
pub meets_from : (base : Parts) (history : List Entry) (edit : Edit) → decide base history edit ≡ None → Meets edit (after base.sinks history)
meets_from base history edit none = let passes = accepted_passes base history edit none in record { known = passes.known; unknown = passes.unknown }

-- two lists of a replay, after the last one of the first goes to the end of the other
state_is : (base : Parts) (a b c d : List Entry) → a ≡ b → c ≡ d
    → ◌≡◌ {A = State} (record { base = base; done = a; undone = c }) (record { base = base; done = b; undone = d })
state_is base a b c d same too = cc

last_off : {A : Type 0} (xs : List A) (x : A) → take (length (xs ++ x ∷ []) - 1) (xs ++ x ∷ []) ≡ xs
last_off xs x = take_at xs (x ∷ []) (length (xs ++ x ∷ []) - 1) (omega (arith, length-append xs (x ∷ [])))

last_one : {A : Type 0} (xs : List A) (x : A) → drop (length (xs ++ x ∷ []) - 1) (xs ++ x ∷ []) ≡ x ∷ []
last_one xs x = drop_at xs (x ∷ []) (length (xs ++ x ∷ []) - 1) (omega (arith, length-append xs (x ∷ [])))

-- an entry between those that are done and those that are undone goes from one side to the other
module _ (base : Parts) (entries : List Entry) (n : ℕ) (entry : Entry) (at : slice_get entries n ≡ Some entry) where
  within : n < length entries
  within = slice_get_within entries n entry at

  read : get_or entries n entry ≡ entry
  read = get_or_from_slice_get entries n entry entry at

  one_more : take (n + 1) entries ≡ take n entries ++ entry ∷ []
  one_more = take_more entries n entry within ∙ ap (λ e. take n entries ++ e ∷ []) read

  one_less : reverse (drop n entries) ≡ reverse (drop (n + 1) entries) ++ entry ∷ []
  one_less = ap reverse (drop_more entries n entry within ∙ ap (λ e. e ∷ drop (n + 1) entries) read) ∙ reverse-append (entry ∷ []) (drop (n + 1) entries)

  pub undo_view : state_of base entries n ≡ after_undo (state_of base entries (n + 1))
  undo_view =
      state_is base (take n entries) (take (length (take (n + 1) entries) - 1) (take (n + 1) entries))
      (reverse (drop n entries)) (reverse (drop (n + 1) entries) ++ drop (length (take (n + 1) entries) - 1) (take (n + 1) entries))
      (sym (ap (λ l. take (length l - 1) l) one_more ∙ last_off (take n entries) entry))
      (one_less ∙ ap (λ l. reverse (drop (n + 1) entries) ++ l) (sym (ap (λ l. drop (length l - 1) l) one_more ∙ last_one (take n entries) entry)))

  pub redo_view : state_of base entries (n + 1) ≡ after_redo (state_of base entries n)
  redo_view =
      state_is base (take (n + 1) entries) (take n entries ++ drop (length (reverse (drop n entries)) - 1) (reverse (drop n entries)))
      (reverse (drop (n + 1) entries)) (take (length (reverse (drop n entries)) - 1) (reverse (drop n entries)))
      (one_more ∙ ap (λ l. take n entries ++ l) (sym (ap (λ l. drop (length l - 1) l) one_less ∙ last_one (reverse (drop (n + 1) entries)) entry)))
      (sym (ap (λ l. take (length l - 1) l) one_less ∙ last_off (reverse (drop (n + 1) entries)) entry))

  -- the sinks after it
  pub after_next : after base.sinks (take (n + 1) entries) ≡ applied entry.edit (after base.sinks (take n entries))
  after_next = ap (after base.sinks) one_more ∙ after_push base.sinks (take n entries) entry

  pub some_undone : 0 < length (reverse (drop n entries))
  some_undone = omega (arith, ap length one_less, length-append (reverse (drop (n + 1) entries)) (entry ∷ []))

module _ (base : Parts) (walls : List Block) (sinks : List Sink) (entries : List Entry) (inverses : List Inverse) (number : ℕ)
    (book : IsBook base walls sinks entries inverses number) where
  pub done_length : length (take number entries) ≡ number
  done_length = length-take-le number entries book.within

  -- the sinks are valid
  pub sinks_valid : IsValid (with_sinks base sinks)
  sinks_valid =
      subst (λ l. IsValid (with_sinks base l)) (sym book.sinks_are) (sound_valid base (take number entries) book.valid (front_sound base entries number book.sound))

  pub sinks_distinct : HasDistinctIds (λ s. s.id) sinks
  sinks_distinct = sinks_valid.ids

  pub sinks_few : length sinks ≤ 65536
  sinks_few = sinks_valid.sink_count

  -- no entry is done, or none is undone
  pub empty_undone : number ≡ length entries → reverse (drop number entries) ≡ []
  empty_undone all = ap reverse (drop_all number entries (omega arith))

  pub full_within : number ≤ 65536
  full_within = let a = book.within in let b = book.short in omega arith

  -- an accepted change meets the sinks
  pub change_meets : (entry : Entry) → decide base (take number entries) entry.edit ≡ None → Meets entry.edit sinks
  change_meets entry none = subst (Meets entry.edit) (sym book.sinks_are) (meets_from base (take number entries) entry.edit none)

  -- the next entry is made again
  module _ (entry : Entry) (at : slice_get entries number ≡ Some entry) where
    accepted : IsAccepted base (take number entries) entry.edit
    accepted = book.sound.each number entry at

    pub redo_within : IsEdit entry.edit
    redo_within = accepted.within

    pub redo_meets : Meets entry.edit sinks
    redo_meets = subst (Meets entry.edit) (sym book.sinks_are) (meets_from base (take number entries) entry.edit accepted.accepted)

    pub redo_keeps : (sinks' : List Sink) → sinks' ≡ applied entry.edit sinks → IsBook base walls sinks' entries inverses (number + 1)
    redo_keeps sinks' made = record {
      valid = book.valid;
      walls_are = book.walls_are;
      sound = book.sound;
      short = book.short;
      within = (let h = slice_get_within entries number entry at in omega arith);
      sinks_are = made ∙ ap (applied entry.edit) book.sinks_are ∙ sym (after_next base entries number entry at);
      paired = book.paired;
      undoes = book.undoes;
    }

  -- the last entry that is done is taken back
  module _ (n : ℕ) (last : number ≡ n + 1) (inverse : Inverse) (at : slice_get inverses n ≡ Some inverse) where
    n_within : n < length entries
    n_within = let h = book.within in omega arith

    entry : Entry
    entry = (item_at entries n n_within).0

    there : slice_get entries n ≡ Some entry
    unfolding entry
    there = (item_at entries n n_within).1

    takes_back : TakesBack inverse entry.edit (after base.sinks (take n entries))
    takes_back = book.undoes n entry inverse there at

    sinks_now : sinks ≡ applied entry.edit (after base.sinks (take n entries))
    sinks_now = book.sinks_are ∙ ap (λ m. after base.sinks (take m entries)) last ∙ after_next base entries n entry there

    pub undo_fits : Fits inverse sinks
    undo_fits = subst (Fits inverse) (sym sinks_now) takes_back.fits

    pub undo_keeps : (sinks' : List Sink) → sinks' ≡ taken_back inverse sinks → IsBook base walls sinks' entries inverses n
    undo_keeps sinks' back = record {
      valid = book.valid;
      walls_are = book.walls_are;
      sound = book.sound;
      short = book.short;
      within = (let h = n_within in omega arith);
      sinks_are = back ∙ ap (taken_back inverse) sinks_now ∙ takes_back.back;
      paired = book.paired;
      undoes = book.undoes;
    }

    pub undo_state : state_of base entries n ≡ after_undo (state_of base entries number)
    undo_state = undo_view base entries n entry there ∙ ap (λ m. after_undo (state_of base entries m)) (sym last)

  -- a change is made after those that are done
  module _ (entry : Entry) (inverse : Inverse) (within : IsEdit entry.edit) (none : decide base (take number entries) entry.edit ≡ None)
      (entries' : List Entry) (more : entries' ≡ take number entries ++ entry ∷ []) where
    room : number < 65536
    room = (let passes = accepted_passes base (take number entries) entry.edit none in let long = passes.long in let n = done_length in omega arith)

    new_length : length entries' ≡ number + 1
    new_length = omega (arith, ap length more, length-append (take number entries) (entry ∷ []), done_length)

    -- the entries before the new one are as before
    before_new : (n : ℕ) → n ≤ number → take n entries' ≡ take n entries
    before_new n early =
        ap (take n) more ∙ take-append-le n (take number entries) (entry ∷ []) (let l = done_length in omega arith) ∙ take-take n number entries early

    new_undoes : TakesBack inverse entry.edit sinks → (inverses' : List Inverse) → inverses' ≡ take number inverses ++ inverse ∷ []
        → (n : ℕ) (e : Entry) (i : Inverse) → slice_get entries' n ≡ Some e → slice_get inverses' n ≡ Some i
        → TakesBack i e.edit (after base.sinks (take n entries'))
    new_undoes takes inverses' more' n e i at at' =
        let paired : length (take number inverses) ≡ number = length-take-le number inverses (let p = book.paired in let w = book.within in omega arith) in
        by_place paired (get_push (take number entries) entry n e (ap (λ l. slice_get l n) (sym more) ∙ at)) (get_push (take number inverses) inverse n i (ap (λ l. slice_get l n) (sym more') ∙ at'))
      where
        by_place : length (take number inverses) ≡ number
            → ((n < length (take number entries)) × (slice_get (take number entries) n ≡ Some e)) ⊎ ((n ≡ length (take number entries)) × (entry ≡ e))
            → ((n < length (take number inverses)) × (slice_get (take number inverses) n ≡ Some i)) ⊎ ((n ≡ length (take number inverses)) × (inverse ≡ i))
            → TakesBack i e.edit (after base.sinks (take n entries'))
        by_place paired (inl old) (inl old') =
            let here = get_front number n entries e old.1 in
            let here' = get_front number n inverses i old'.1 in
            subst (λ l. TakesBack i e.edit (after base.sinks l)) (sym (before_new n (let h : n < number = here.0 in omega arith)))
            (book.undoes n e i here.1 here'.1)
        by_place paired (inl old) (inr new') = absurd (let l = done_length in let a : n < length (take number entries) = old.0 in let b : n ≡ length (take number inverses) = new'.0 in omega arith)
        by_place paired (inr new) (inl old') = absurd (let l = done_length in let a : n ≡ length (take number entries) = new.0 in let b : n < length (take number inverses) = old'.0 in omega arith)
        by_place paired (inr new) (inr new') =
            let here : n ≡ number = (let l = done_length in let a : n ≡ length (take number entries) = new.0 in omega arith) in
            let same : sinks ≡ after base.sinks (take n entries') = book.sinks_are ∙ ap (after base.sinks) (sym (before_new number (omega arith)) ∙ ap (λ m. take m entries') (sym here)) in
            subst (λ f. TakesBack i f.edit (after base.sinks (take n entries'))) new.1
            (subst (λ j. TakesBack j entry.edit (after base.sinks (take n entries'))) new'.1
            (subst (TakesBack inverse entry.edit) same takes))

    pub change_keeps : TakesBack inverse entry.edit sinks → (sinks' : List Sink) (inverses' : List Inverse) → sinks' ≡ applied entry.edit sinks
        → inverses' ≡ take number inverses ++ inverse ∷ [] → IsBook base walls sinks' entries' inverses' (number + 1)
    change_keeps takes sinks' inverses' made more' = record {
      valid = book.valid;
      walls_are = book.walls_are;
      sound =
          subst (IsSound base) (sym more)
          (sound_push base (take number entries) entry (front_sound base entries number book.sound) (record { within = within; accepted = none }));
      short = (let l = new_length in let r = room in omega arith);
      within = (let l = new_length in omega arith);
      sinks_are =
          made ∙ ap (applied entry.edit) book.sinks_are ∙ sym (after_push base.sinks (take number entries) entry)
          ∙ ap (after base.sinks) (sym more ∙ sym (take_all (number + 1) entries' (let l = new_length in omega arith)));
      paired = (
          let paired : length (take number inverses) ≡ number = length-take-le number inverses (let p = book.paired in let w = book.within in omega arith) in
          omega (arith, new_length, ap length more', length-append (take number inverses) (inverse ∷ [])));
      undoes = new_undoes takes inverses' more';
    }

    pub change_state : state_of base entries' (number + 1) ≡ after_change (state_of base entries number) entry
    change_state =
        state_is base (take (number + 1) entries') (take number entries ++ entry ∷ []) (reverse (drop (number + 1) entries')) []
        (take_all (number + 1) entries' (let l = new_length in omega arith) ∙ more)
        (ap reverse (drop_all (number + 1) entries' (let l = new_length in omega arith)))
