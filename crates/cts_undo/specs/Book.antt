-- How a book keeps the changes that are done and those that are undone: as one list, of which the first ones are done.
use Rattle.std.specs.Prelude.{◌≡◌, ℕ, ◌≤◌, List, length, take, drop, reverse, slice_get, Some}
use Rattle.cts_units.specs.declared.params.Sink.{Sink}
use Rattle.cts_block.specs.declared.blocks.Block.{Block}
use Rattle.cts_instance.specs.declared.parts.Parts.{Parts}
use Rattle.cts_instance.specs.Validity.{IsValid}
use Rattle.cts_edit.specs.declared.edit.Edit.{Edit}
use Rattle.cts_edit.specs.declared.edit.Entry.{Entry}
use Rattle.cts_edit.specs.Edits.{applied, after}
use Rattle.cts_edit.specs.Decide.{walls_of}
use Rattle.cts_edit.specs.Sound.{IsSound}
use Rattle.cts_undo.specs.declared.inverse.Inverse.{Inverse}
use Rattle.cts_undo.specs.Inverses.{Fits, taken_back}
use Rattle.cts_undo.specs.Replay.{State}

-- the first `number` entries are done, and the others, read backwards, are undone
abbrev pub state_of : Parts → List Entry → ℕ → State
state_of parts entries number = record { base = parts; done = take number entries; undone = reverse (drop number entries) }

-- an inverse takes an edit of these sinks back
pub record TakesBack (inverse : Inverse) (edit : Edit) (sinks : List Sink) : Type 0 where
  pub back : taken_back inverse (applied edit sinks) ≡ sinks
  pub fits : Fits inverse (applied edit sinks)

-- The sinks are those after the entries that are done. Each entry, done or undone, was accepted after those before it, and
-- has an inverse that takes it back.
pub record IsBook (parts : Parts) (walls : List Block) (sinks : List Sink) (entries : List Entry) (inverses : List Inverse) (number : ℕ) : Type 0 where
  pub valid : IsValid parts
  pub walls_are : walls ≡ walls_of parts.blocks
  pub sound : IsSound parts entries
  pub short : length entries ≤ 65536
  pub within : number ≤ length entries
  pub sinks_are : sinks ≡ after parts.sinks (take number entries)
  pub paired : length inverses ≡ length entries
  pub undoes : (n : ℕ) (entry : Entry) (inverse : Inverse) → slice_get entries n ≡ Some entry → slice_get inverses n ≡ Some inverse
      → TakesBack inverse entry.edit (after parts.sinks (take n entries))
