-- The sinks after accepted edits are valid with the other parts of the instance.
use Rattle.std.proofs.Common.{◌≡◌, ◌≢◌, ℕ, ℤ, ◌+◌, ◌<◌, ◌≤◌, Bool, true, false, cond, not, nat_eq, nat_le, List, [], ◌∷◌, ◌++◌, zero, suc, length, take, get_or, All, refl, sym, ap, ◌∙◌, subst, arith, add-one, length-append}
use Rattle.std.specs.List.{filter, list_any}
use Rattle.std.proofs.lemmas.Bool.{leb-false, eqb-false, eqb-true, ne_eqb, eq-eqb, not-false, both_ways, cond_both, or_right, or_from, false_from_ne_true, false≢true}
use Rattle.std.proofs.lemmas.List.{length-map, get_or-map, take_more, take_all}
use Rattle.std.proofs.lemmas.List.Elements.{All-push, All-filter, All-map, All-tail}
use Rattle.std.proofs.lemmas.List.Filters.{length-filter_both}
use Rattle.std.proofs.lemmas.List.Folds.{list_any_at}
use Rattle.std.proofs.lemmas.List.Kept.{AllPairs-filter}
use Rattle.std.proofs.lemmas.List.Quantifiers.{all_pairs_push}
use Rattle.std.proofs.lemmas.Option.{slice_get-get_or}
use Rattle.cts_geom.specs.declared.bounds.Die.{Die}
use Rattle.cts_units.specs.declared.params.Sink.{Sink}
use Rattle.cts_units.specs.Ids.{HasDistinctIds}
use Rattle.cts_block.specs.declared.blocks.Block.{Block}
use Rattle.cts_block.specs.declared.blocks.Kind.{Kind}
use Rattle.cts_block.specs.declared.blocks.Kind.TheVariants.{Buffer as of_buffers, All as of_all}
use Rattle.cts_block.specs.FreePoints.{StopsWires, stops_wires}
use Rattle.cts_instance.specs.declared.parts.Parts.{Parts}
use Rattle.cts_block.specs.Places.{IsInDie, IsInside}
use Rattle.cts_instance.specs.Tests.{is_in_die, is_inside}
use Rattle.cts_instance.specs.Validity.{IsSink, IsValid, with_sinks}
use Rattle.cts_instance.proofs.TestLemmas.{Decides-is_in_die, Decides-is_inside}
use Rattle.cts_edit.specs.declared.edit.Edit.{Edit}
use Rattle.cts_edit.specs.declared.edit.Edit.TheVariants.{Add, Remove, Move, SetCap}
use Rattle.cts_edit.specs.declared.edit.Entry.{Entry}
use Rattle.cts_edit.specs.Edits.{IsEdit, has_id, without, changed, moved_to, with_cap, applied, after}
use Rattle.cts_edit.specs.Decide.{walls_of, is_walled}
use Rattle.cts_edit.specs.Sound.{IsSound}
use Rattle.cts_edit.proofs.Histories.{Passes, accepted_passes, after_push}

-- no block that stops wires has the place strictly inside
pub record IsOpen (blocks : List Block) (x y : ℤ) : Type 0 where
  pub open_at : (k : ℕ) (d : Block) → k < length blocks → StopsWires (get_or blocks k d).kind → ¬ IsInside (get_or blocks k d) x y

-- a sink is valid, and stands in no block that stops wires
record IsFit (base : Parts) (s : Sink) : Type 0 where
  sink : IsSink base.version base.die s
  clear : IsOpen base.blocks s.x s.y

-- the sinks are valid with the other parts
record AreFit (base : Parts) (sinks : List Sink) : Type 0 where
  some : 1 ≤ length sinks
  count : length sinks ≤ 65536
  each : All (IsFit base) sinks
  ids : HasDistinctIds (λ s. s.id) sinks

are_fit : (base : Parts) (sinks : List Sink) → IsValid (with_sinks base sinks) → AreFit base sinks
are_fit base sinks v = record {
  some = v.some_sink;
  count = v.sink_count;
  each = λ k d inside. record { sink = v.sinks k d inside; clear = record { open_at = λ j e within stops. (v.clear j e within).of_sinks stops k d inside } };
  ids = v.ids;
}

-- those of another list of sinks that is valid with the same parts
fit_valid : (base : Parts) (before sinks : List Sink) → IsValid (with_sinks base before) → AreFit base sinks → IsValid (with_sinks base sinks)
fit_valid base before sinks v fit = record {
  die = v.die;
  source_r = v.source_r;
  source = v.source;
  params = v.params;
  load_limit = v.load_limit;
  slew_limit = v.slew_limit;
  some_sink = fit.some;
  sink_count = fit.count;
  sinks = λ k d inside. (fit.each k d inside).sink;
  ids = fit.ids;
  blocks = v.blocks;
  block_count = v.block_count;
  buffer_blocks = v.buffer_blocks;
  all_blocks = v.all_blocks;
  clear = λ j e within. record { of_source = (v.clear j e within).of_source; of_sinks = λ stops k d inside. (fit.each k d inside).clear.open_at j e within stops };
}

-- what the tests of a place say
pub in_die : (die : Die) (x y : ℤ) → not (is_in_die die x y) ≡ false → IsInDie die x y
in_die die x y inside = (Decides-is_in_die die x y).0 (not-false (is_in_die die x y) inside)

stops_all : (kind : Kind) → StopsWires kind → stops_wires kind ≡ true
stops_all of_buffers stops = absurd stops
stops_all of_all stops = refl

-- a block of a list is among those that pass a test
filtered_any : (p q : Block → Bool) (blocks : List Block) (k : ℕ) (d : Block) → k < length blocks → p (get_or blocks k d) ≡ true → q (get_or blocks k d) ≡ true
    → list_any q (filter p blocks) ≡ true
filtered_any p q [] k d inside one two = absurd (omega arith)
filtered_any p q (b ∷ blocks) zero d inside one two = rw (one, two) refl
filtered_any p q (b ∷ blocks) (suc k) d inside one two = by_kept (p b) (filtered_any p q blocks k d (omega arith) one two)
  where
    by_kept : (kept : Bool) → list_any q (filter p blocks) ≡ true → list_any q (cond kept (b ∷ filter p blocks) (filter p blocks)) ≡ true
    by_kept true rest = or_right (q b) (list_any q (filter p blocks)) rest
    by_kept false rest = rest

pub open_place : (blocks : List Block) (x y : ℤ) → is_walled (walls_of blocks) x y ≡ false → IsOpen blocks x y
open_place blocks x y clear = record {
  open_at = λ k d inside stops within.
      both_ways _ clear
      (filtered_any (λ block. stops_wires block.kind) (λ block. is_inside block x y) blocks k d inside (stops_all _ stops)
      ((Decides-is_inside (get_or blocks k d) x y).1 within));
}

stops_from : (kind : Kind) → stops_wires kind ≡ true → StopsWires kind
stops_from of_buffers e = absurd (false≢true e)
stops_from of_all e = tt

-- where no block that stops wires has a place inside, the test finds none
pub walled_from : (blocks : List Block) (x y : ℤ) → All (λ block. StopsWires block.kind → ¬ IsInside block x y) blocks → is_walled (walls_of blocks) x y ≡ false
walled_from [] x y clear = refl
walled_from (b ∷ blocks) x y clear =
    by_kind (stops_wires b.kind) refl (walled_from blocks x y (All-tail (λ block. StopsWires block.kind → ¬ IsInside block x y) b blocks clear))
  where
    by_kind : (kept : Bool) → stops_wires b.kind ≡ kept → is_walled (walls_of blocks) x y ≡ false
        → list_any (λ block. is_inside block x y) (cond kept (b ∷ walls_of blocks) (walls_of blocks)) ≡ false
    by_kind true is rest =
        or_from (is_inside b x y) (is_walled (walls_of blocks) x y)
        (false_from_ne_true (is_inside b x y) (λ within. clear zero b (omega arith) (stops_from b.kind is) ((Decides-is_inside b x y).0 within))) rest
    by_kind false is rest = rest

-- no sink has the id
pub absent : (id : ℕ) (sinks : List Sink) → has_id id sinks ≡ false → (k : ℕ) (d : Sink) → k < length sinks → (get_or sinks k d).id ≢ id
absent id sinks none k d inside same =
    both_ways _ none (list_any_at (λ s. nat_eq s.id id) sinks k d inside (eq-eqb (get_or sinks k d).id id same))

-- a sink is added
added_fit : (base : Parts) (sinks : List Sink) (s : Sink) → AreFit base sinks → IsFit base s → has_id s.id sinks ≡ false
    → nat_le 65536 (length sinks) ≡ false → AreFit base (sinks ++ s ∷ [])
added_fit base sinks s fit new none room = record {
  some = omega (arith, length-append sinks (s ∷ []));
  count = (let less = leb-false 65536 (length sinks) room in omega (arith, length-append sinks (s ∷ [])));
  each = All-push (IsFit base) sinks s fit.each new;
  ids = all_pairs_push (λ a b. a.id ≢ b.id) sinks s fit.ids (λ k d inside. absent s.id sinks none k d inside);
}

-- a sink is removed, and others stay
two_leave_one : (id : ℕ) (sinks : List Sink) → HasDistinctIds (λ s. s.id) sinks → 1 ≤ length sinks → nat_eq (length sinks) 1 ≡ false
    → 1 ≤ length (without id sinks)
two_leave_one id [] distinct some others = absurd (omega arith)
two_leave_one id (a ∷ []) distinct some others = absurd (eqb-false 1 1 others refl)
two_leave_one id (a ∷ b ∷ rest) distinct some others = by_first (nat_eq a.id id) refl
  where
    by_first : (t : Bool) → nat_eq a.id id ≡ t → 1 ≤ length (cond (not t) (a ∷ without id (b ∷ rest)) (without id (b ∷ rest)))
    by_first false is = omega arith
    by_first true is =
        let apart : nat_eq b.id id ≡ false = ne_eqb b.id id (λ same. distinct 0 1 a (omega arith) (omega arith) (eqb-true a.id id is ∙ sym same)) in
        rw apart (omega arith)

removed_fit : (base : Parts) (sinks : List Sink) (id : ℕ) → AreFit base sinks → nat_eq (length sinks) 1 ≡ false → AreFit base (without id sinks)
removed_fit base sinks id fit others = record {
  some = two_leave_one id sinks fit.ids fit.some others;
  count = (
      let both = length-filter_both (λ s. not (nat_eq s.id id)) (λ s. not (not (nat_eq s.id id))) (λ s. refl) sinks in
      let most = fit.count in
      omega (arith, both));
  each = All-filter (λ s. not (nat_eq s.id id)) (IsFit base) sinks fit.each;
  ids = AllPairs-filter (λ a b. a.id ≢ b.id) (λ s. not (nat_eq s.id id)) sinks fit.ids;
}

-- a sink is changed, and keeps its id
module _ (id : ℕ) (f : Sink → Sink) (keeps : (s : Sink) → (f s).id ≡ s.id) where
  one_of : Sink → Sink
  one_of s = cond (nat_eq s.id id) (f s) s

  one_id : (s : Sink) → (cond (nat_eq s.id id) (f s) s).id ≡ s.id
  one_id s = cond_both (nat_eq s.id id) (f s) s (λ t. t.id ≡ s.id) (λ _. keeps s) (λ _. refl)

  changed_fit : (base : Parts) (sinks : List Sink) → AreFit base sinks → ((s : Sink) → IsFit base s → IsFit base (f s)) → AreFit base (changed id f sinks)
  changed_fit base sinks fit better = record {
    some = (let n = length-map {A = Sink} {B = Sink} sinks (λ s. cond (nat_eq s.id id) (f s) s) in let least = fit.some in omega (arith, n));
    count = (let n = length-map {A = Sink} {B = Sink} sinks (λ s. cond (nat_eq s.id id) (f s) s) in let most = fit.count in omega (arith, n));
    each = All-map (IsFit base) (λ s. cond (nat_eq s.id id) (f s) s) sinks (λ k d inside.
        let was = fit.each k d inside in
        cond_both (nat_eq (get_or sinks k d).id id) (f (get_or sinks k d)) (get_or sinks k d) (IsFit base) (λ _. better _ was) (λ _. was));
    ids = λ i j d before inside same.
        let n = length-map {A = Sink} {B = Sink} sinks (λ s. cond (nat_eq s.id id) (f s) s) in
        let last : j < length sinks = omega (arith, n) in
        fit.ids i j d before last
        (sym (one_id (get_or sinks i d)) ∙ sym (ap (λ s. s.id) (get_or-map {X = Sink} {Y = Sink} (λ s. cond (nat_eq s.id id) (f s) s) sinks i d d (omega arith)))
        ∙ same ∙ ap (λ s. s.id) (get_or-map {X = Sink} {Y = Sink} (λ s. cond (nat_eq s.id id) (f s) s) sinks j d d last) ∙ one_id (get_or sinks j d));
  }

-- each accepted edit keeps the sinks valid
edit_fit : (base : Parts) (sinks : List Sink) (edits : ℕ) (edit : Edit) → AreFit base sinks → IsEdit edit
    → Passes base.die (walls_of base.blocks) sinks edits edit → AreFit base (applied edit sinks)
edit_fit base sinks edits (Add id x y c) fit within p =
    added_fit base sinks (record { id = id; x = x; y = y; cap = c; offset = 0 }) fit
    (record { sink = record { id = within.0; cap = within.2; offset = omega arith; no_offset = λ _. refl; in_die = in_die base.die x y p.outside }; clear = open_place base.blocks x y p.in_block })
    p.known p.full
edit_fit base sinks edits (Remove id) fit within p = removed_fit base sinks id fit p.last
edit_fit base sinks edits (Move id x y) fit within p =
    changed_fit id (moved_to x y) (λ s. refl) base sinks fit (λ s was. record {
      sink = record { id = was.sink.id; cap = was.sink.cap; offset = was.sink.offset; no_offset = was.sink.no_offset; in_die = in_die base.die x y p.outside };
      clear = open_place base.blocks x y p.in_block;
    })
edit_fit base sinks edits (SetCap id c) fit within p =
    changed_fit id (with_cap c) (λ s. refl) base sinks fit (λ s was. record {
      sink = record { id = was.sink.id; cap = within.1; offset = was.sink.offset; no_offset = was.sink.no_offset; in_die = was.sink.in_die };
      clear = was.clear;
    })

pub edit_valid : (base : Parts) (history : List Entry) (edit : Edit) → IsValid (with_sinks base (after base.sinks history)) → IsEdit edit
    → Passes base.die (walls_of base.blocks) (after base.sinks history) (length history) edit
    → IsValid (with_sinks base (applied edit (after base.sinks history)))
edit_valid base history edit v within p =
    fit_valid base (after base.sinks history) (applied edit (after base.sinks history)) v
    (edit_fit base (after base.sinks history) (length history) edit (are_fit base (after base.sinks history) v) within p)

-- after the first n edits of a history
first_valid : (base : Parts) (history : List Entry) (n : ℕ) → IsValid base → IsSound base history → n ≤ length history
    → IsValid (with_sinks base (after base.sinks (take n history)))
first_valid base history zero v sound within = v
first_valid base history (suc n) v sound within = last history (first_valid base history n v sound (omega arith)) sound within
  where
    last : (h : List Entry) → IsValid (with_sinks base (after base.sinks (take n h))) → IsSound base h → suc n ≤ length h
        → IsValid (with_sinks base (after base.sinks (take (suc n) h)))
    last [] before sound' inside = absurd (omega arith)
    last (first ∷ rest) before sound' inside =
        let h = first ∷ rest in
        let entry = get_or h n first in
        let here : n < length h = omega arith in
        let accepted = sound'.each n entry (slice_get-get_or h n first here) in
        let more : take (n + 1) h ≡ take n h ++ entry ∷ [] = take_more h n first here in
        let sinks : after base.sinks (take (suc n) h) ≡ applied entry.edit (after base.sinks (take n h)) =
        ap (λ m. after base.sinks (take m h)) (sym (add-one n)) ∙ ap (after base.sinks) more ∙ after_push base.sinks (take n h) entry in
        subst (λ s. IsValid (with_sinks base s)) (sym sinks)
        (edit_valid base (take n h) entry.edit before accepted.within (accepted_passes base (take n h) entry.edit accepted.accepted))

-- the sinks after a sound history are valid with the other parts
pub sound_valid : (base : Parts) (history : List Entry) → IsValid base → IsSound base history → IsValid (with_sinks base (after base.sinks history))
sound_valid base history v sound =
    subst (λ h. IsValid (with_sinks base (after base.sinks h))) (take_all (length history) history (omega arith))
    (first_valid base history (length history) v sound (omega arith))
