-- The nearest-pair topology: of the parts that are left, the closest two are joined, again and again. The names, by which
-- ties are broken, are this project's own.
use Rattle.std.specs.Prelude.{◌≡◌, ℕ, zero, suc, ◌+◌, ◌-◌, ◌==◌, ◌⊎◌, not, List, [], ◌∷◌, length, filter}
use Rattle.cts_units.specs.declared.params.Sink.{Sink}
use Rattle.cts_units.specs.declared.params.Params.{Params}
use Rattle.cts_merge.specs.declared.side.Finished.{Finished}
use Rattle.cts_merge.specs.Merge.{IsMerged, IsBeyond}
use Rattle.cts_near.specs.Parts.{Joining, Part, AreSinkParts, joined}
use Rattle.cts_near.specs.Closest.{AreClosest}

-- the parts but for the one of this name
abbrev pub without : ℕ → List Part → List Part
without name parts = filter (λ part. not (part.name == name)) parts

-- the parts after two of them are joined, with the side of their pair
abbrev pub after_join : List Part → Part → Part → Finished → List Part
after_join parts a b pair = joined a b pair.side ∷ without b.name (without a.name parts)

-- what the steps come to: one tree over all sinks, or the number of the first step whose pair is beyond the limits of
-- wires, loads or delays
pub data Outcome : Type 0 where
  whole : Joining → Outcome
  beyond : ℕ → Outcome

-- What some parts come to in so many steps, the next of which has this number: each step joins the closest two.
unfoldable pub ComesTo : Params → ℕ → ℕ → List Part → Outcome → Type 0
ComesTo params zero step parts outcome = (last : Part) × (parts ≡ last ∷ []) × (outcome ≡ whole last.tree)
ComesTo params (suc todo) step parts outcome =
    (a : Part) × (b : Part) × AreClosest parts a b
    × ((IsBeyond params a.side b.side × (outcome ≡ beyond step))
    ⊎ ((pair : Finished) × IsMerged params a.side b.side pair
    × ComesTo params todo (step + 1) (after_join parts a b pair) outcome))

-- what a list of sinks comes to: its steps, one fewer than sinks, are numbered from 1
pub record IsNear (params : Params) (sinks : List Sink) (outcome : Outcome) : Type 0 where
  pub parts : List Part
  pub over_sinks : AreSinkParts 0 sinks parts
  pub comes_to : ComesTo params (length sinks - 1) 1 parts outcome
