-- What edits make of the sinks of an instance.
use Rattle.std.specs.Prelude.{ℕ, ℤ, ◌^◌, ◌≤◌, Bool, not, nat_eq, if◌then◌else◌, List, [], ◌∷◌, ◌++◌, map}
use Rattle.std.specs.List.{filter, list_any}
use Rattle.cts_units.specs.declared.params.Sink.{Sink}
use Rattle.cts_instance.specs.Laws.{IsOnChip}
use Rattle.cts_edit.specs.declared.edit.Edit.{Edit}
use Rattle.cts_edit.specs.declared.edit.Edit.TheVariants.{Add, Remove, Move, SetCap}
use Rattle.cts_edit.specs.declared.edit.Entry.{Entry}

-- some sink has the id
abbrev pub has_id : ℕ → List Sink → Bool
has_id id sinks = list_any (λ s. nat_eq s.id id) sinks

-- the sinks without the one of this id; those behind it close up
abbrev pub without : ℕ → List Sink → List Sink
without id sinks = filter (λ s. not (nat_eq s.id id)) sinks

-- the sinks with another one in the place of the one of this id
abbrev pub changed : ℕ → (Sink → Sink) → List Sink → List Sink
changed id change sinks = map {A = Sink} {B = Sink} (λ s. if nat_eq s.id id then change s else s) sinks

-- a sink at another place
abbrev pub moved_to : ℤ → ℤ → Sink → Sink
moved_to x y sink = record sink { x = x; y = y }

-- a sink with another capacitance
abbrev pub with_cap : ℕ → Sink → Sink
with_cap c sink = record sink { cap = c }

-- the sinks after an edit: an added one wants no offset, and a changed one keeps its own
abbrev pub applied : Edit → List Sink → List Sink
applied (Add id x y c) sinks = sinks ++ record { id = id; x = x; y = y; cap = c; offset = 0 } ∷ []
applied (Remove id) sinks = without id sinks
applied (Move id x y) sinks = changed id (moved_to x y) sinks
applied (SetCap id c) sinks = changed id (with_cap c) sinks

-- the sinks after a history
abbrev pub after : List Sink → List Entry → List Sink
after sinks [] = sinks
after sinks (entry ∷ later) = after (applied entry.edit sinks) later

-- an id is at most 999,999,999
abbrev pub IsId : ℕ → Type 0
IsId id = id ≤ 999999999

-- a capacitance is at most 10^12 zF
abbrev pub IsCap : ℕ → Type 0
IsCap c = c ≤ 10 ^ 12

-- an edit is within the limits of ids, coordinates and capacitances
abbrev pub IsEdit : Edit → Type 0
IsEdit (Add id x y c) = IsId id × (IsOnChip x × IsOnChip y) × IsCap c
IsEdit (Remove id) = IsId id
IsEdit (Move id x y) = IsId id × (IsOnChip x × IsOnChip y)
IsEdit (SetCap id c) = IsId id × IsCap c
