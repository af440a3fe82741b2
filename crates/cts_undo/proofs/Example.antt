-- Worked inverses, and a replay: a sink is added, undone, added again and changed.
use Rattle.std.proofs.Common.{◌≡◌, pos, List, [], ◌∷◌, refl}
use Rattle.cts_units.specs.declared.params.Sink.{Sink}
use Rattle.cts_instance.specs.declared.parts.Parts.{Parts}
use Rattle.cts_edit.specs.declared.edit.Edit.{Edit}
use Rattle.cts_edit.specs.declared.edit.Edit.TheVariants as edit
use Rattle.cts_edit.specs.declared.edit.Entry.{Entry}
use Rattle.cts_edit.specs.Edits.{applied}
use Rattle.cts_undo.specs.declared.inverse.Inverse.TheVariants.{Remove, Insert, Restore}
use Rattle.cts_undo.specs.Inverses.{taken_back}
use Rattle.cts_undo.specs.Replay.{State, opening, after_change, after_undo, after_redo}

abbrev first : Sink
first = record { id = 1; x = pos 0; y = pos 0; cap = 5; offset = 3 }

abbrev second : Sink
second = record { id = 2; x = pos 10; y = pos 0; cap = 10; offset = 0 }

abbrev two : List Sink
two = first ∷ second ∷ []

-- the first sink is put back in front
removed_back : taken_back (Insert 0 first) (applied (edit.Remove 1) two) ≡ two
removed_back = refl

-- an added sink goes again
added_back : taken_back (Remove 9) (applied (edit.Add 9 (pos 3) (pos 4) 5) two) ≡ two
added_back = refl

-- a moved sink is put back with its capacitance and its offset
moved_back : taken_back (Restore first) (applied (edit.Move 1 (pos 3) (pos 4)) two) ≡ two
moved_back = refl

abbrev entry : Edit → Entry
entry e = record { caller = 1; line = 12; edit = e }

abbrev added : Entry
added = entry (edit.Add 9 (pos 3) (pos 4) 5)

abbrev changed : Entry
changed = entry (edit.SetCap 9 6)

-- what was undone first is redone last
undone_twice : (base : Parts) → after_undo (after_undo (after_change (after_change (opening base) added) changed))
    ≡ record { base = base; done = []; undone = changed ∷ added ∷ [] }
undone_twice base = refl

redone : (base : Parts) → after_redo (after_undo (after_undo (after_change (after_change (opening base) added) changed)))
    ≡ record { base = base; done = added ∷ []; undone = changed ∷ [] }
redone base = refl

-- a change drops what was undone
dropped : (base : Parts) → after_change (after_undo (after_change (opening base) added)) changed ≡ record { base = base; done = changed ∷ []; undone = [] }
dropped base = refl
