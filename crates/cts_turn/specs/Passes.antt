-- What contracts say of a turn and its passes.
use Rattle.std.specs.Prelude.{◌≡◌, ℕ, ◌+◌, ◌<◌, ◌≤◌, ◌⊎◌, List, [], ◌∷◌, ◌++◌, length, Some}
use mathlib.Core.List.{IsPrefix}
use Rattle.cts_turn.specs.declared.object.Object.{Ghosts}
use Rattle.cts_turn.specs.declared.turn.Pass.{Pass}
use Rattle.cts_turn.specs.declared.turn.Turn.{Turn}

module _ {O E C R : Type 0} where
  -- the object that the turn was started on
  abbrev pub start_of : Turn O E C R → O
  start_of turn = turn.table.shared.key.value

  -- the list that the object told when the pass saw it last
  abbrev pub seen_by : Pass O E C R → List E
  seen_by pass = pass.seat.me.0.seen

  -- how many entries of that list this pass made
  abbrev pub made_by : Pass O E C R → ℕ
  made_by pass = pass.seat.me.0.made

  -- its share of the turn, of 65,536 parts
  abbrev pub share_of : Pass O E C R → ℕ
  share_of pass = pass.share

  -- The pass came from this turn. What it has seen goes on from the list at the start, is sound and within the limit.
  pub record IsPassOf (g : Ghosts O E C R) (turn : Turn O E C R) (pass : Pass O E C R) : Type 0 where
    pub own : pass.seat.table_id ≡ turn.table.shared.table_id
    pub object : pass.seat.me.0.object ≡ Some (start_of turn)
    pub waits : pass.seat.me.0.waits ≡ 0
    pub in_turn : pass.seat.me.0.in_turn ≡ 0
    pub holds : pass.seat.me.1 ≡ []
    pub share : pass.seat.me.0.share ≡ pass.share
    pub some : 0 < pass.share
    pub most : pass.share ≤ 65536
    pub starts : IsPrefix (g.told (start_of turn)) (seen_by pass)
    pub sound : g.is_sound (g.base (start_of turn)) (seen_by pass)
    pub short : length (seen_by pass) ≤ g.LIMIT

  -- The reply is one that the base allows at a told list that begins with what had been seen, and the list after it
  -- is that list, or that list and one entry.
  pub record IsAnswer (g : Ghosts O E C R) (base : g.Base) (seen : List E) (count : ℕ) (call : C) (reply : R) (seen' : List E) (count' : ℕ) : Type 0 where
    pub list : List E
    pub goes_on : IsPrefix seen list
    pub sound : g.is_sound base list
    pub allowed : g.allows base list call reply
    pub after : seen' ≡ g.after base list call reply
    pub made : ((seen' ≡ list) × (count' ≡ count)) ⊎ ((entry : E) × (seen' ≡ list ++ entry ∷ []) × (count' ≡ count + 1))
