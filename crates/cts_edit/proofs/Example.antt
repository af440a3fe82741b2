-- Worked edits: a sink that is added, removed, moved or changed, and the first cause that refuses an edit.
use Rattle.std.proofs.Common.{◌≡◌, pos, List, [], ◌∷◌, Some, None, refl}
use Rattle.cts_geom.specs.declared.bounds.Die.{Die}
use Rattle.cts_units.specs.declared.params.Sink.{Sink}
use Rattle.cts_block.specs.declared.blocks.Block.{Block}
use Rattle.cts_block.specs.declared.blocks.Kind.TheVariants as kind
use Rattle.cts_instance.specs.Tests.{is_between, is_strictly_between, is_in_die, is_inside}
use Rattle.cts_edit.specs.declared.edit.Edit.{Edit}
use Rattle.cts_edit.specs.declared.edit.Edit.TheVariants.{Add, Remove, Move, SetCap}
use Rattle.cts_edit.specs.declared.edit.Entry.{Entry}
use Rattle.cts_edit.specs.declared.edit.EditCause.TheVariants.{Known, Unknown, Outside, InBlock, Last, Long}
use Rattle.cts_edit.specs.Edits.{after}
use Rattle.cts_edit.specs.Decide.{walls_of, cause_by, first_cause}

abbrev entry : Edit → Entry
entry edit = record { caller = 1; line = 13; edit = edit }

abbrev first : Sink
first = record { id = 1; x = pos 0; y = pos 0; cap = 5; offset = 0 }

abbrev second : Sink
second = record { id = 2; x = pos 10; y = pos 0; cap = 10; offset = 0 }

abbrev two : List Sink
two = first ∷ second ∷ []

-- the first sink goes and comes back: it stands last then
moved_back : after two (entry (Remove 1) ∷ entry (Add 1 (pos 3) (pos 4) 7) ∷ []) ≡ second ∷ record { id = 1; x = pos 3; y = pos 4; cap = 7; offset = 0 } ∷ []
moved_back = refl

-- a sink that is moved, or gets another capacitance, keeps its place in the list
changed_in_place : after two (entry (Move 1 (pos 8) (pos 9)) ∷ entry (SetCap 1 6) ∷ []) ≡ record { id = 1; x = pos 8; y = pos 9; cap = 6; offset = 0 } ∷ second ∷ []
changed_in_place = refl

abbrev die : Die
die = record { x1 = pos 0; y1 = pos 0; x2 = pos 20; y2 = pos 20 }

abbrev wall : Block
wall = record { kind = kind.All; x1 = pos 5; y1 = pos 5; x2 = pos 15; y2 = pos 15 }

abbrev shade : Block
shade = record { kind = kind.Buffer; x1 = pos 0; y1 = pos 0; x2 = pos 20; y2 = pos 20 }

-- only blocks that stop wires count
walls_are : walls_of (shade ∷ wall ∷ []) ≡ wall ∷ []
walls_are = refl

-- one cause after the other
known_first : first_cause die (wall ∷ []) two 0 (Add 1 (pos 21) (pos 10) 5) ≡ Some Known
unfolding cause_by
known_first = refl

unknown_first : first_cause die (wall ∷ []) two 65536 (Move 3 (pos 10) (pos 10)) ≡ Some Unknown
unfolding cause_by
unknown_first = refl

outside_first : first_cause die (wall ∷ []) two 65536 (Move 1 (pos 10) (pos 21)) ≡ Some Outside
unfolding cause_by is_in_die is_between
outside_first = refl

in_block : first_cause die (wall ∷ []) two 65536 (Move 1 (pos 14) (pos 6)) ≡ Some InBlock
unfolding cause_by is_in_die is_between is_inside is_strictly_between
in_block = refl

on_the_edge : first_cause die (wall ∷ []) two 1 (Move 1 (pos 5) (pos 6)) ≡ None
unfolding cause_by is_in_die is_between is_inside is_strictly_between
on_the_edge = refl

last_stays : first_cause die (wall ∷ []) (first ∷ []) 65536 (Remove 1) ≡ Some Last
unfolding cause_by
last_stays = refl

long_last : first_cause die (wall ∷ []) two 65536 (SetCap 1 7) ≡ Some Long
unfolding cause_by
long_last = refl

-- one edit fewer, and it is accepted
long_enough : first_cause die (wall ∷ []) two 65535 (SetCap 1 7) ≡ None
unfolding cause_by
long_enough = refl
