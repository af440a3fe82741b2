-- The definitions, computed on a worked route: from (0, 5) nm round a block to (10, 5), over (4, 5), (4, 2) and (10, 2).
use Rattle.std.proofs.Common.{◌≡◌, ℕ, List, [], ◌∷◌, refl, pos}
use Rattle.cts_geom.specs.declared.points.Half.{Half}
use Rattle.cts_tree.specs.Path.{points_along, path_length, keeps_on, goes_on, turns_of}

-- a point by its whole nm, doubled
abbrev half : ℕ → ℕ → Half
half x y = record { x = pos x; y = pos y }

-- each grid point on the way, with (6, 2) where it goes straight on
abbrev way : List Half
way = half 0 10 ∷ half 8 10 ∷ half 8 4 ∷ half 12 4 ∷ half 20 4 ∷ half 20 10 ∷ []

example_turns : turns_of way ≡ half 8 10 ∷ half 8 4 ∷ half 20 4 ∷ []
unfolding turns_of goes_on keeps_on
example_turns = refl

-- 16 nm
example_length : path_length way ≡ 32
unfolding path_length
example_length = refl

-- the corners alone make a way of the same length
example_corners : path_length (points_along (half 0 10) (turns_of way) (half 20 10)) ≡ 32
unfolding turns_of goes_on keeps_on path_length
example_corners = refl
