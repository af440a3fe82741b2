-- Changes that are undone and redone: what a replay knows, and what each of its steps makes of that.
use Rattle.std.specs.Prelude.{◌≡◌, ◌-◌, ◌<◌, List, [], ◌∷◌, ◌++◌, length, take, drop}
use Rattle.cts_instance.specs.declared.parts.Parts.{Parts}
use Rattle.cts_edit.specs.declared.edit.Entry.{Entry}
use Rattle.cts_edit.specs.declared.reply.EditReply.{EditReply}
use Rattle.cts_edit.specs.declared.reply.EditReply.TheVariants.{Accepted, Refused, NoMemory}
use Rattle.cts_undo.specs.declared.moved.Moved.{Moved}
use Rattle.cts_undo.specs.declared.moved.Moved.TheVariants.{Done, Empty, NoMemory as no_memory}

-- the instance, the changes that are done, and those that were undone and may be redone, of which the last was undone last
pub record State : Type 0 where
  pub base : Parts
  pub done : List Entry
  pub undone : List Entry

-- at first nothing is done
abbrev pub opening : Parts → State
opening base = record { base = base; done = []; undone = [] }

-- A change is done after the others. What was undone before can't be redone then.
abbrev pub after_change : State → Entry → State
after_change s entry = record { base = s.base; done = s.done ++ entry ∷ []; undone = [] }

-- the last change that is done goes to the end of those that are undone
abbrev pub after_undo : State → State
after_undo s = record {
  base = s.base;
  done = take (length s.done - 1) s.done;
  undone = s.undone ++ drop (length s.done - 1) s.done;
}

-- the last change that is undone goes to the end of those that are done
abbrev pub after_redo : State → State
after_redo s = record {
  base = s.base;
  done = s.done ++ drop (length s.undone - 1) s.undone;
  undone = take (length s.undone - 1) s.undone;
}

-- only an accepted change alters anything
abbrev pub after_reply : State → Entry → EditReply → State
after_reply s entry (Accepted version) = after_change s entry
after_reply s entry (Refused cause version) = s
after_reply s entry NoMemory = s

-- An undo: there was something to undo, which was undone unless memory ran out, or there was not. The version is how many changes
-- are done then.
abbrev pub IsUndo : State → State → Moved → Type 0
IsUndo old new (Done version) = (0 < length old.done) × (new ≡ after_undo old) × (version ≡ length new.done)
IsUndo old new (Empty version) = (old.done ≡ []) × (new ≡ old) × (version ≡ length new.done)
IsUndo old new no_memory = (0 < length old.done) × (new ≡ old)

-- a redo
abbrev pub IsRedo : State → State → Moved → Type 0
IsRedo old new (Done version) = (0 < length old.undone) × (new ≡ after_redo old) × (version ≡ length new.done)
IsRedo old new (Empty version) = (old.undone ≡ []) × (new ≡ old) × (version ≡ length new.done)
IsRedo old new no_memory = (0 < length old.undone) × (new ≡ old)
