-- Histories that a design may tell.
use Rattle.std.specs.Prelude.{◌≡◌, ℕ, List, take, slice_get, Some, None}
use Rattle.cts_instance.specs.declared.parts.Parts.{Parts}
use Rattle.cts_edit.specs.declared.edit.Edit.{Edit}
use Rattle.cts_edit.specs.declared.edit.Entry.{Entry}
use Rattle.cts_edit.specs.Edits.{IsEdit}
use Rattle.cts_edit.specs.Decide.{decide}

-- the edit is within the limits, and accepted after the entries before it
pub record IsAccepted (base : Parts) (before : List Entry) (edit : Edit) : Type 0 where
  pub within : IsEdit edit
  pub accepted : decide base before edit ≡ None

-- each entry was accepted after those before it
pub record IsSound (base : Parts) (history : List Entry) : Type 0 where
  pub each : (n : ℕ) (entry : Entry) → slice_get history n ≡ Some entry → IsAccepted base (take n history) entry.edit
