-- What each step of a turn tells its pass: of the step, the seat before, the number found and the seat after.
use Rattle.std.specs.Prelude.{◌≡◌, ◌≢◌, ℕ, ◌%◌, ◌^◌, ◌≤◌, List, [], ◌∷◌, length, Option, Some}
use mathlib.Core.List.{IsPrefix}
use Rattle.atomic_table.specs.Table.{Me, Step}
use Rattle.cts_turn.specs.declared.object.Object.{Ghosts}
use Rattle.cts_turn.specs.declared.view.View.{View}
use Rattle.cts_turn.specs.Views.{with_ticket, at_turn, after_call, after_turn}

abbrev pub Held : Type 0 → Type 0 → Type 0
Held E O = Me (Option O) (View E O)

module _ {E O : Type 0} where
  -- a ticket was drawn; what was found is its number modulo 2^64
  abbrev pub Draws : Step (Option O) → Held E O → ℕ → Held E O → Type 0
  Draws st m found n = (ticket : ℕ) × (found ≡ ticket % 2 ^ 64) × (n ≡ (with_ticket ticket m.0, m.1))

  -- two lists of this view were compared: one begins the other
  abbrev pub Compares : Step (Option O) → Held E O → ℕ → Held E O → Type 0
  Compares st m found n = (n ≡ m) × IsPrefix m.0.also m.0.seen × (m.0.share ≤ 65536)

  -- a bell was touched; the seat stays as it was
  abbrev pub Rings : Step (Option O) → Held E O → ℕ → Held E O → Type 0
  Rings st m found n = n ≡ m

  -- the object was called, and tells the list
  abbrev pub Records : List E → Step (Option O) → Held E O → ℕ → Held E O → Type 0
  Records list st m found n = n ≡ (after_call list m.0, m.1)

  -- the turn was passed on, with the object back in the slot
  abbrev pub PassesOn : Step (Option O) → Held E O → ℕ → Held E O → Type 0
  PassesOn st m found n = n ≡ (after_turn m.0, [])

module _ {E O B : Type 0} (told : O → List E) (base : O → B) where
  -- the seat has the object; what it tells goes on from what the view had seen
  abbrev pub TakesTurn : Held E O → Held E O → Type 0
  TakesTurn m n = (object : O) × (n ≡ (at_turn (told object) m.0, (0, Some object) ∷ [])) × IsPrefix m.0.seen (told object)
      × ((start : O) × (m.0.object ≡ Some start) × (base object ≡ base start))

  -- where the view's ticket is served the seat takes the object, else nothing changes
  abbrev pub Waits : Step (Option O) → Held E O → ℕ → Held E O → Type 0
  Waits st m found n = (found ≡ m.0.ticket % 2 ^ 64 → TakesTurn m n) × (found ≢ m.0.ticket % 2 ^ 64 → n ≡ m)

  -- the seat holds an object that tells what the view has seen, and has the base of the first one
  abbrev pub MayPassOn : Held E O → Type 0
  MayPassOn m = (object : O) × (m.1 ≡ (0, Some object) ∷ []) × (told object ≡ m.0.seen)
      × ((start : O) × (m.0.object ≡ Some start) × (base object ≡ base start))

module _ {E O C R : Type 0} (g : Ghosts O E C R) where
  -- the seat holds an object of which this may be asked
  abbrev pub MayAct : List (ℕ × Option O) → C → Type 0
  MayAct held call = (object : O) × (held ≡ (0, Some object) ∷ []) × g.fits (g.base object) (g.told object) call

  -- The object that the seat held was asked, and gave this reply. The seat holds what it has become, whose list is so long.
  pub record HasActed (m n : Held E O) (call : C) (reply : R) (count : ℕ) : Type 0 where
    pub before : O
    pub after : O
    pub held : m.1 ≡ (0, Some before) ∷ []
    pub holds : n ≡ (m.0, (0, Some after) ∷ [])
    pub base : g.base after ≡ g.base before
    pub allowed : g.allows (g.base before) (g.told before) call reply
    pub told : g.told after ≡ g.after (g.base before) (g.told before) call reply
    pub long : count ≡ length (g.told after)
