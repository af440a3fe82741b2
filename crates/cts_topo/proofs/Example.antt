-- The definition of the shape, computed on worked lists of sinks.
use Rattle.std.proofs.Common.{◌≡◌, ℕ, pos, [], ◌∷◌, refl}
use Rattle.cts_units.specs.declared.params.Sink.{Sink}
use Rattle.cts_postorder.specs.BinaryTree.{size, labels, root_number}
use Rattle.cts_topo.specs.declared.shape.ShapeNode.TheVariants.{Leaf, Pair}
use Rattle.cts_topo.specs.Topology.{greatest, extent, is_wide, left_size, is_early, left_part, right_part, division, topology_of, shape_of}

abbrev sink : ℕ → ℕ → ℕ → Sink
sink id x y = record { id = id; x = pos x; y = pos y; cap = 1; offset = 0 }

-- at one place the axis is x, and the ids decide
at_one_place : shape_of (sink 4 0 0 ∷ sink 3 0 0 ∷ sink 2 0 0 ∷ sink 1 0 0 ∷ [])
    ≡ Leaf 3 ∷ Leaf 2 ∷ Pair 0 1 ∷ Leaf 1 ∷ Leaf 0 ∷ Pair 3 4 ∷ Pair 2 5 ∷ []
unfolding shape_of topology_of division left_part right_part is_early left_size is_wide extent greatest size labels root_number
at_one_place = refl

-- of five sinks on a line the first three go to the left
on_a_line : shape_of (sink 1 0 0 ∷ sink 2 1 0 ∷ sink 3 2 0 ∷ sink 4 3 0 ∷ sink 5 4 0 ∷ [])
    ≡ Leaf 0 ∷ Leaf 1 ∷ Pair 0 1 ∷ Leaf 2 ∷ Pair 2 3 ∷ Leaf 3 ∷ Leaf 4 ∷ Pair 5 6 ∷ Pair 4 7 ∷ []
unfolding shape_of topology_of division left_part right_part is_early left_size is_wide extent greatest size labels root_number
on_a_line = refl
