-- What the leaves of a shape have of the sinks and of the plan.
use Rattle.std.specs.Prelude.{◌≡◌, ℕ, List, [], ◌∷◌, filter_map, slice_get, MatchOption}
use Rattle.std.specs.Option.{option_map}
use Rattle.cts_units.specs.declared.params.Sink.{Sink}
use Rattle.cts_topo.specs.Shape.{leaf_sinks}
use Rattle.cts_topo.specs.declared.shape.ShapeNode.{ShapeNode}
use Rattle.cts_topo.specs.declared.shape.ShapeNode.TheVariants.{Leaf, Pair}
use Rattle.cts_merge.specs.declared.side.Finished.{Finished}
use Rattle.cts_merge.specs.Merge.{IsLeaf}

-- a leaf is made of the sink that it names
unfoldable pub IsLeafOf : List Sink → ShapeNode → Finished → Type 0
IsLeafOf sinks (Leaf sink) f = MatchOption (slice_get sinks sink) ⊥ (λ s. IsLeaf s f)
IsLeafOf sinks (Pair left right) f = Unit {0}

-- the sink that a leaf names has this id
unfoldable pub IsIdOf : List Sink → ShapeNode → ℕ → Type 0
IsIdOf sinks (Leaf sink) id = MatchOption (slice_get sinks sink) ⊥ (λ s. s.id ≡ id)
IsIdOf sinks (Pair left right) id = Unit {0}

-- the ids of the sinks that the leaves name, from the left
abbrev pub ids_of_leaves : List Sink → List ShapeNode → List ℕ
ids_of_leaves sinks nodes = filter_map (λ sink. option_map (λ (s : Sink). s.id) (slice_get sinks sink)) (leaf_sinks nodes)

-- what one node has of such a list: a leaf this id, a pair none
unfoldable pub own_ids : ShapeNode → ℕ → List ℕ
own_ids (Leaf sink) id = id ∷ []
own_ids (Pair left right) id = []
