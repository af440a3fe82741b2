-- Which edits are accepted, and the first cause that refuses one.
use Rattle.std.specs.Prelude.{ℕ, ℤ, Bool, false, not, nat_eq, nat_le, if◌then◌else◌, List, length, Option, Some, None}
use Rattle.std.specs.List.{filter, list_any}
use Rattle.cts_geom.specs.declared.bounds.Die.{Die}
use Rattle.cts_units.specs.declared.params.Sink.{Sink}
use Rattle.cts_block.specs.declared.blocks.Block.{Block}
use Rattle.cts_block.specs.FreePoints.{stops_wires}
use Rattle.cts_instance.specs.declared.parts.Parts.{Parts}
use Rattle.cts_instance.specs.Tests.{is_in_die, is_inside}
use Rattle.cts_edit.specs.declared.edit.Edit.{Edit}
use Rattle.cts_edit.specs.declared.edit.Edit.TheVariants.{Add, Remove, Move, SetCap}
use Rattle.cts_edit.specs.declared.edit.EditCause.{EditCause}
use Rattle.cts_edit.specs.declared.edit.EditCause.TheVariants.{Known, Unknown, Outside, InBlock, Full, Last, Long}
use Rattle.cts_edit.specs.declared.edit.Entry.{Entry}
use Rattle.cts_edit.specs.declared.judge.Facts.{Facts}
use Rattle.cts_edit.specs.Edits.{has_id, after}

-- the id that an edit names
abbrev pub id_of : Edit → ℕ
id_of (Add id x y c) = id
id_of (Remove id) = id
id_of (Move id x y) = id
id_of (SetCap id c) = id

-- an added sink has the id of one that is there
abbrev pub is_known : Bool → Edit → Bool
is_known there (Add id x y c) = there
is_known there (Remove id) = false
is_known there (Move id x y) = false
is_known there (SetCap id c) = false

-- any other edit is of an id that isn't there
abbrev pub is_unknown : Bool → Edit → Bool
is_unknown there (Add id x y c) = false
is_unknown there (Remove id) = not there
is_unknown there (Move id x y) = not there
is_unknown there (SetCap id c) = not there

-- a sink is put to a place that isn't in the closed die
abbrev pub is_outside : Die → Edit → Bool
is_outside die (Add id x y c) = not (is_in_die die x y)
is_outside die (Remove id) = false
is_outside die (Move id x y) = not (is_in_die die x y)
is_outside die (SetCap id c) = false

-- the blocks that stop wires
abbrev pub walls_of : List Block → List Block
walls_of blocks = filter (λ block. stops_wires block.kind) blocks

-- the place is strictly inside one of the blocks
abbrev pub is_walled : List Block → ℤ → ℤ → Bool
is_walled walls x y = list_any (λ block. is_inside block x y) walls

-- a sink is put to a place strictly inside a block that stops wires
abbrev pub is_in_block : List Block → Edit → Bool
is_in_block walls (Add id x y c) = is_walled walls x y
is_in_block walls (Remove id) = false
is_in_block walls (Move id x y) = is_walled walls x y
is_in_block walls (SetCap id c) = false

-- a sink is added to as many as there can be
abbrev pub is_full : ℕ → Edit → Bool
is_full count (Add id x y c) = nat_le 65536 count
is_full count (Remove id) = false
is_full count (Move id x y) = false
is_full count (SetCap id c) = false

-- the only sink is removed
abbrev pub is_last : ℕ → Edit → Bool
is_last count (Add id x y c) = false
is_last count (Remove id) = nat_eq count 1
is_last count (Move id x y) = false
is_last count (SetCap id c) = false

-- the history has as many edits as it can have
abbrev pub is_long : ℕ → Bool
is_long edits = nat_le 65536 edits

-- the first cause that holds of an edit, by what is known of the sinks that it meets
unfoldable pub cause_by : Die → Facts → Edit → Option EditCause
cause_by die facts edit =
    if is_known facts.there edit then Some Known else
    (if is_unknown facts.there edit then Some Unknown else
    (if is_outside die edit then Some Outside else
    (if facts.walled then Some InBlock else
    (if is_full facts.count edit then Some Full else
    (if is_last facts.count edit then Some Last else
    (if is_long facts.edits then Some Long else None))))))

-- what is known of these sinks and these blocks that stop wires, where so many edits came before
abbrev pub facts_of : List Block → List Sink → ℕ → Edit → Facts
facts_of walls sinks edits edit =
    record { there = has_id (id_of edit) sinks; walled = is_in_block walls edit; count = length sinks; edits = edits }

-- the first cause that holds of an edit of these sinks
abbrev pub first_cause : Die → List Block → List Sink → ℕ → Edit → Option EditCause
first_cause die walls sinks edits edit = cause_by die (facts_of walls sinks edits edit) edit

-- The cause that refuses an edit of an instance's sinks after a history. There is none exactly where it is accepted.
abbrev pub decide : Parts → List Entry → Edit → Option EditCause
decide base history edit = first_cause base.die (walls_of base.blocks) (after base.sinks history) (length history) edit
