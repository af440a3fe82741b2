-- The corners of a route, however they are kept.
use Rattle.std.specs.Prelude.{List, [], ◌∷◌}
use Rattle.cts_geom.specs.declared.points.Half.{Half}
use Rattle.cts_tree.specs.declared.route.Kept.{Kept}
use Rattle.cts_tree.specs.declared.route.Kept.TheVariants.{None, One, Many}

abbrev pub corners_kept : Kept → List Half
corners_kept None = []
corners_kept (One corner) = corner ∷ []
corners_kept (Many corners) = corners.value.items
