-- What accepted edits and sound histories mean for the layers above.
use Rattle.std.specs.Prelude.{◌≡◌, ◌≢◌, ◌<◌, ◌↔◌, ℕ, ℤ, List, length, All, None}
use Rattle.std.specs.List.{Any}
use Rattle.cts_units.specs.declared.params.Sink.{Sink}
use Rattle.cts_block.specs.FreePoints.{StopsWires}
use Rattle.cts_instance.specs.declared.parts.Parts.{Parts}
use Rattle.cts_block.specs.Places.{IsInDie, IsInside}
use Rattle.cts_instance.specs.Validity.{IsValid, with_sinks}
use Rattle.cts_edit.specs.declared.edit.Edit.{Edit}
use Rattle.cts_edit.specs.declared.edit.Edit.TheVariants.{Add, Remove, Move, SetCap}
use Rattle.cts_edit.specs.declared.edit.Entry.{Entry}
use Rattle.cts_edit.specs.Edits.{after}
use Rattle.cts_edit.specs.Decide.{decide}
use Rattle.cts_edit.specs.Sound.{IsSound}

-- the sinks after a sound history are valid with the other parts of the instance
abbrev pub SoundIsValid : Type 0
SoundIsValid = (base : Parts) (history : List Entry) → IsValid base → IsSound base history → IsValid (with_sinks base (after base.sinks history))

-- some sink has the id
abbrev pub IsThere : ℕ → List Sink → Type 0
IsThere id sinks = Any (λ sink. sink.id ≡ id) sinks

-- no sink has it
abbrev pub IsNew : ℕ → List Sink → Type 0
IsNew id sinks = All (λ sink. sink.id ≢ id) sinks

-- a sink may stand there: in the die, and strictly inside no block that stops wires
pub record MayStand (base : Parts) (x y : ℤ) : Type 0 where
  pub in_die : IsInDie base.die x y
  pub clear : All (λ block. StopsWires block.kind → ¬ IsInside block x y) base.blocks

-- An edit may be made of these sinks. Of an instance's sinks the one that is removed isn't the only one.
abbrev pub MayBeMade : Parts → List Sink → Edit → Type 0
MayBeMade base sinks (Add id x y c) = IsNew id sinks × MayStand base x y × (length sinks < 65536)
MayBeMade base sinks (Remove id) = IsThere id sinks × (length sinks ≢ 1)
MayBeMade base sinks (Move id x y) = IsThere id sinks × MayStand base x y
MayBeMade base sinks (SetCap id c) = IsThere id sinks

-- an edit is accepted exactly where it may be made of the sinks after the history, and the history has room for it
abbrev pub AcceptedMayBeMade : Type 0
AcceptedMayBeMade =
    (base : Parts) (history : List Entry) (edit : Edit)
    → (decide base history edit ≡ None) ↔ (MayBeMade base (after base.sinks history) edit × (length history < 65536))
