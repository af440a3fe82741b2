-- The one history of an object: the list that it tells. Each view has seen a front of it. At the end stands the
-- whole rule of a turn, which holds between any two steps.
use Rattle.std.specs.Prelude.{◌≡◌, ℕ, ◌+◌, ◌%◌, ◌^◌, ◌<◌, ◌⊎◌, List, [], ◌∷◌, length, Option, Some}
use mathlib.Core.Option as homes
use mathlib.Core.Option.{some}
use mathlib.Core.List.{IsPrefix}
use lib.ListN.{get_elem?, get_or}
use Rattle.atomic_table.specs.Table.{State}
use Rattle.cts_turn.specs.declared.view.View.{View}
use Rattle.cts_turn.specs.Sums.{total}
use Rattle.cts_turn.specs.Line.{IsLine}

-- no view is in turn
abbrev pub NoneInTurn : {E O : Type 0} → List (View E O) → Type 0
NoneInTurn {E} {O} views = (i : ℕ) (v : View E O) → get_elem? views i ≡ some v → v.in_turn ≡ 0

-- some view is
abbrev pub SomeInTurn : {E O : Type 0} → List (View E O) → Type 0
SomeInTurn {E} {O} views = (i : ℕ) × (v : View E O) × (get_elem? views i ≡ some v) × (0 < v.in_turn)

module _ {E O B : Type 0} (told : O → List E) (base : O → B) (start : O) where
  -- what a view has seen begins the history; the one in turn has seen all of it
  pub record HasSeen (history : List E) (v : View E O) : Type 0 where
    pub spent : v.share ≡ 0 → v.made ≡ 0
    pub object : 0 < v.share → v.object ≡ Some start
    pub seen : IsPrefix v.seen history
    pub also : IsPrefix v.also v.seen
    pub in_turn : 0 < v.in_turn → v.seen ≡ history

  -- Each entry since the start was made by one view, and some view that is not spent has seen the whole.
  pub record IsHistory (history : List E) (views : List (View E O)) : Type 0 where
    pub made : total (λ v. v.made) views + length (told start) ≡ length history
    pub each : (i : ℕ) (v : View E O) → get_elem? views i ≡ some v → HasSeen history v
    pub whole : (i : ℕ) × (v : View E O) × (get_elem? views i ≡ some v) × (0 < v.share) × (v.seen ≡ history)

  -- the slot holds an object that tells the history and has the base of the first one, or it is out with the view in turn
  abbrev pub KeepsObject : List E → List (homes.Option (Option O)) → List (View E O) → Type 0
  KeepsObject history slots views =
      (NoneInTurn views × ((object : O) × (slots ≡ some (Some object) ∷ []) × (told object ≡ history) × (base object ≡ base start)))
      ⊎ SomeInTurn views

  -- Three words count the tickets drawn, the tickets served, and the entries of the history. The others are bells, or
  -- stand between, at whatever numbers.
  pub record IsKept (s : State (Option O) (View E O)) : Type 0 where
    pub tickets : ℕ
    pub serving : ℕ
    pub history : List E
    pub long : 9 < length s.words
    pub drawn : get_or s.words 0 0 ≡ tickets % 2 ^ 64
    pub served : get_or s.words 8 0 ≡ serving % 2 ^ 64
    pub counted : get_or s.words 9 0 ≡ length history
    pub line : IsLine tickets serving s.views
    pub passes : IsHistory history s.views
    pub slot : KeepsObject history s.homes s.views
