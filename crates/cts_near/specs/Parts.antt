-- The parts of a nearest-pair topology: subtrees with their names and sides, at first one over each sink.
use Rattle.std.specs.Prelude.{◌≡◌, ℕ, ◌+◌, min, List, [], ◌∷◌}
use Rattle.cts_units.specs.declared.params.Sink.{Sink}
use Rattle.cts_merge.specs.declared.side.Side.{Side}
use Rattle.cts_merge.specs.declared.side.Finished.{Finished}
use Rattle.cts_merge.specs.Merge.{IsLeaf}

-- what is joined to what: a sink, by its place in the list of sinks, or a pair of two such, the left one first
pub data Joining : Type 0 where
  single : ℕ → Joining
  pair : Joining → Joining → Joining

-- a part: what it is joined of, the least id of its sinks, and how a merge sees it
pub record Part : Type 0 where
  pub tree : Joining
  pub name : ℕ
  pub side : Side

-- the part over one sink, which stands at this place of the list of sinks
pub record IsSinkPart (place : ℕ) (sink : Sink) (part : Part) : Type 0 where
  pub tree : part.tree ≡ single place
  pub name : part.name ≡ sink.id
  pub leaf : Finished
  pub is_leaf : IsLeaf sink leaf
  pub side : part.side ≡ leaf.side

-- the parts over some sinks, in their order, where the first one's place is `place`
abbrev pub AreSinkParts : ℕ → List Sink → List Part → Type 0
AreSinkParts place [] [] = Unit {0}
AreSinkParts place [] (part ∷ parts) = ⊥
AreSinkParts place (sink ∷ sinks) [] = ⊥
AreSinkParts place (sink ∷ sinks) (part ∷ parts) = IsSinkPart place sink part × AreSinkParts (place + 1) sinks parts

-- two parts joined, with the side of their pair
abbrev pub joined : Part → Part → Side → Part
joined a b side = record { tree = pair a.tree b.tree; name = min a.name b.name; side = side }
