-- Why an input spells no instance and no history.
use Rattle.std.proofs.Common.{◌≡◌, ℕ, ◌-◌, ◌≤◌, List, length, length-drop, take, drop, Ok, Err, Result, sym, ap, subst, ◌∙◌, arith}
use Rattle.std.proofs.lemmas.List.{take_all}
use Rattle.cts_instance.specs.declared.parts.Parts.{Parts}
use Rattle.cts_read.specs.declared.stop.ReadStop.{ReadStop}
use Rattle.cts_read.specs.declared.stop.ReadStop.TheVariants.{Refused, NoMemory}
use Rattle.cts_read.specs.Grammar.{Refuses}
use Rattle.cts_history.specs.Opening.{Opens}
use Rattle.cts_notes.specs.Front.{SpellsFront, front_of, input_limit}
use Rattle.cts_notes.specs.Stops.{stop_of_text}
use Rattle.cts_notes.specs.declared.stop.Stop.{Stop}
use Rattle.cts_notes.specs.declared.stop.Stop.TheVariants as stop
use Rattle.cts_after.specs.declared.stop.NotHistory.{NotHistory}
use Rattle.cts_after.specs.After.{Explains, ExplainsRest}
use Rattle.cts_after.specs.Laws.{SpelledIsServed}

pub refuses_explains : (bytes : List ℕ) (end : ReadStop) → length bytes ≤ input_limit → Refuses end (front_of bytes)
    → Explains bytes (stop_of_text end)
refuses_explains bytes (Refused line cause) h e = (h, e)
refuses_explains bytes NoMemory h e = tt

-- where the instance was read, and what follows it begins with no history
pub rest_refused : (bytes : List ℕ) (i : Parts) (rest : List ℕ) (end : Stop NotHistory) → SpellsFront bytes i rest → ExplainsRest rest end
    → Explains bytes end
rest_refused bytes i rest (stop.Own reason) front none = (i, rest, front, none)
rest_refused bytes i rest stop.NoMemory front none = tt
rest_refused bytes i rest stop.Words front none = absurd none
rest_refused bytes i rest stop.TooLong front none = absurd none
rest_refused bytes i rest (stop.Refused line cause) front none = absurd none
rest_refused bytes i rest stop.ReadFault front none = absurd none
rest_refused bytes i rest stop.WriteFault front none = absurd none

-- a slice up to the end is what is left
pub rest_taken : (used : ℕ) (bytes : List ℕ) → take (length bytes - used) (drop used bytes) ≡ drop used bytes
rest_taken used bytes = take_all (length bytes - used) (drop used bytes) (omega (arith, length-drop used bytes))

-- an input has one instance at its front, and one text behind it

pub err_ok : {X E : Type 0} {x : X} {e : E} → ◌≡◌ {A = Result X E} (Err e) (Ok x) → ⊥
err_ok e = cc

pub ok_is : {X E : Type 0} {x y : X} → ◌≡◌ {A = Result X E} (Ok x) (Ok y) → x ≡ y
ok_is e = cc

pub fronts_are_one : (bytes : List ℕ) (i j : Parts) (rest other : List ℕ) → SpellsFront bytes i rest → SpellsFront bytes j other
    → ◌≡◌ {A = Parts × List ℕ} (i, rest) (j, other)
fronts_are_one bytes i j rest other h g = ok_is (sym h.read ∙ g.read)

pub spelled_is_served_lem : SpelledIsServed
spelled_is_served_lem bytes i history stop.TooLong spells long is = omega (arith, spells.front.within, long)
spelled_is_served_lem bytes i history (stop.Refused line cause) spells refused is = err_ok (sym refused.1 ∙ spells.front.read)
spelled_is_served_lem bytes i history (stop.Own reason) spells none is =
    let same = fronts_are_one bytes i none.0 spells.rest none.1 spells.front none.2 in
    none.3.none history (subst (λ rest. Opens rest history) (ap (λ (x : Parts × List ℕ). x.1) same) spells.opens)
spelled_is_served_lem bytes i history stop.Words spells explained is = is
spelled_is_served_lem bytes i history stop.ReadFault spells explained is = is
spelled_is_served_lem bytes i history stop.WriteFault spells explained is = is
spelled_is_served_lem bytes i history stop.NoMemory spells explained is = is
