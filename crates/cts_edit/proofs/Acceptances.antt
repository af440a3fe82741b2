-- An edit is accepted exactly where it may be made.
use Rattle.std.proofs.Common.{◌≡◌, ℕ, ℤ, ◌<◌, false, not, nat_eq, List, length, get_or, None, refl}
use Rattle.std.proofs.lemmas.Bool.{leb-false, lt-leb, eqb-true, ne_eqb, eq-eqb, not-false, not_from_true, both_ways}
use Rattle.std.proofs.lemmas.List.Folds.{Any-from_list_any, list_any-from_Any, list_any_none}
use Rattle.cts_geom.specs.declared.bounds.Die.{Die}
use Rattle.cts_units.specs.declared.params.Sink.{Sink}
use Rattle.cts_block.specs.declared.blocks.Block.{Block}
use Rattle.cts_instance.specs.declared.parts.Parts.{Parts}
use Rattle.cts_instance.specs.Tests.{is_in_die}
use Rattle.cts_instance.proofs.TestLemmas.{Decides-is_in_die}
use Rattle.cts_edit.specs.declared.edit.Edit.{Edit}
use Rattle.cts_edit.specs.declared.edit.Edit.TheVariants.{Add, Remove, Move, SetCap}
use Rattle.cts_edit.specs.Edits.{has_id, after}
use Rattle.cts_edit.specs.Decide.{walls_of, is_walled, cause_by, first_cause}
use Rattle.cts_edit.specs.Laws.{IsThere, IsNew, MayStand, MayBeMade, AcceptedMayBeMade}
use Rattle.cts_edit.proofs.Histories.{Passes, passes}
use Rattle.cts_edit.proofs.Validities.{absent, in_die, open_place, walled_from}

there_from : (id : ℕ) (sinks : List Sink) → not (has_id id sinks) ≡ false → IsThere id sinks
there_from id sinks known =
    let any = Any-from_list_any (λ s. nat_eq s.id id) sinks (not-false (has_id id sinks) known) in
    (any.0, any.1, any.2, any.3, eqb-true (any.1).id id any.4)

known_from : (id : ℕ) (sinks : List Sink) → IsThere id sinks → not (has_id id sinks) ≡ false
known_from id sinks any =
    not_from_true (has_id id sinks)
    (list_any-from_Any (λ s. nat_eq s.id id) sinks (any.0, any.1, any.2, any.3, eq-eqb (any.1).id id any.4))

new_from : (id : ℕ) (sinks : List Sink) → has_id id sinks ≡ false → IsNew id sinks
new_from id sinks none = λ k d inside. absent id sinks none k d inside

unknown_from : (id : ℕ) (sinks : List Sink) → IsNew id sinks → has_id id sinks ≡ false
unknown_from id sinks new = list_any_none (λ s. nat_eq s.id id) sinks (λ k d inside. ne_eqb (get_or sinks k d).id id (new k d inside))

stand_from : (base : Parts) (x y : ℤ) → not (is_in_die base.die x y) ≡ false → is_walled (walls_of base.blocks) x y ≡ false → MayStand base x y
stand_from base x y inside clear = record {
  in_die = in_die base.die x y inside;
  clear = λ k d within. (open_place base.blocks x y clear).open_at k d within;
}

inside_from : (base : Parts) (x y : ℤ) → MayStand base x y → not (is_in_die base.die x y) ≡ false
inside_from base x y may = not_from_true (is_in_die base.die x y) ((Decides-is_in_die base.die x y).1 may.in_die)

clear_from : (base : Parts) (x y : ℤ) → MayStand base x y → is_walled (walls_of base.blocks) x y ≡ false
clear_from base x y may = walled_from base.blocks x y may.clear

none_from : (die : Die) (walls : List Block) (sinks : List Sink) (edits : ℕ) (edit : Edit) → Passes die walls sinks edits edit
    → first_cause die walls sinks edits edit ≡ None
unfolding cause_by
none_from die walls sinks edits edit p = rw (p.known, p.unknown, p.outside, p.in_block, p.full, p.last, lt-leb 65536 edits p.long) refl

made_from : (base : Parts) (sinks : List Sink) (edits : ℕ) (edit : Edit) → Passes base.die (walls_of base.blocks) sinks edits edit → MayBeMade base sinks edit
made_from base sinks edits (Add id x y c) p = (new_from id sinks p.known, stand_from base x y p.outside p.in_block, leb-false 65536 (length sinks) p.full)
made_from base sinks edits (Remove id) p = (there_from id sinks p.unknown, λ e. both_ways _ p.last (eq-eqb (length sinks) 1 e))
made_from base sinks edits (Move id x y) p = (there_from id sinks p.unknown, stand_from base x y p.outside p.in_block)
made_from base sinks edits (SetCap id c) p = there_from id sinks p.unknown

passes_from : (base : Parts) (sinks : List Sink) (edits : ℕ) (edit : Edit) → MayBeMade base sinks edit → edits < 65536
    → Passes base.die (walls_of base.blocks) sinks edits edit
passes_from base sinks edits (Add id x y c) may room = record {
  known = unknown_from id sinks may.0;
  unknown = refl;
  outside = inside_from base x y may.1;
  in_block = clear_from base x y may.1;
  full = lt-leb 65536 (length sinks) may.2;
  last = refl;
  long = room;
}
passes_from base sinks edits (Remove id) may room = record {
  known = refl;
  unknown = known_from id sinks may.0;
  outside = refl;
  in_block = refl;
  full = refl;
  last = ne_eqb (length sinks) 1 may.1;
  long = room;
}
passes_from base sinks edits (Move id x y) may room = record {
  known = refl;
  unknown = known_from id sinks may.0;
  outside = inside_from base x y may.1;
  in_block = clear_from base x y may.1;
  full = refl;
  last = refl;
  long = room;
}
passes_from base sinks edits (SetCap id c) may room = record {
  known = refl;
  unknown = known_from id sinks may;
  outside = refl;
  in_block = refl;
  full = refl;
  last = refl;
  long = room;
}

pub accepted_made : AcceptedMayBeMade
accepted_made base history edit =
    let die = base.die in
    let walls = walls_of base.blocks in
    let sinks = after base.sinks history in (
      λ none. let p = passes die walls sinks (length history) edit none in (made_from base sinks (length history) edit p, p.long),
      λ may. none_from die walls sinks (length history) edit (passes_from base sinks (length history) edit may.0 may.1),
    )
