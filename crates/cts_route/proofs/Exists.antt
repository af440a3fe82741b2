-- Any two spots have a route or are cut.
use Rattle.std.proofs.Common.{◌/◌, inl, inr, List, ◌∷◌, refl, arith}
use Rattle.cts_geom.specs.declared.bounds.Die.{Die}
use Rattle.cts_geom.specs.declared.points.Half.{Half}
use Rattle.cts_geom.specs.declared.points.Spot.{Spot}
use Rattle.cts_geom.specs.Points.{point_of}
use Rattle.cts_block.specs.declared.blocks.Block.{Block}
use Rattle.cts_tree.specs.declared.route.Route.{Route}
use Rattle.cts_tree.specs.Path.{path_length, turns_of}
use Rattle.cts_route.specs.declared.direction.Direction.{Direction}
use Rattle.cts_route.specs.Grid.{Lines, lines_of, IsJoined}
use Rattle.cts_route.specs.Routes.{IsRoute, IsShortest}
use Rattle.cts_route.specs.Laws.{RoutesExistOrAreCut}
use Rattle.cts_route.proofs.Choosing.{HasLeast}
use Rattle.cts_route.proofs.FewCorners.{crossings, crossings-all}
use Rattle.cts_route.proofs.FirstSteps.{IsPreferred, preferred}
use Rattle.cts_route.proofs.Found.{even_path}
use Rattle.cts_route.proofs.Neighbours.{neighbours}
use Rattle.cts_route.proofs.ShortestPaths.{Path, path_weight, shortest_path}
use Rattle.cts_route.proofs.Unique.{joined_simple}

-- the route along a path
route_along : (blocks : List Block) (die : Die) (from to : Spot) (points : List Half)
    → IsPreferred (IsJoined blocks (lines_of blocks die (point_of from) (point_of to))) (point_of to) (point_of from) points
    → (route : Route) × IsRoute blocks die (point_of from) (point_of to) route
route_along blocks die from to points is = (
  record { corners = turns_of (point_of from ∷ points); length = path_length (point_of from ∷ points) / 2 },
  record {
    points = points;
    shortest = is.shortest;
    first_steps = is.first_steps;
    follows = record {
      corners = refl;
      length = even_path (IsJoined blocks (lines_of blocks die (point_of from) (point_of to))) from to points is.shortest.path;
    };
  },
)

pub route_or_cut : RoutesExistOrAreCut
route_or_cut blocks die from to =
    let p : Half = point_of from in
    let q : Half = point_of to in
    let lines : Lines = lines_of blocks die p q in
    let J : Direction → Half → Half → Type 0 = IsJoined blocks lines in
    let find_shortest : (r : Half) → HasLeast (Path J q r) (path_weight J q r) =
    shortest_path J (joined_simple blocks lines) (neighbours blocks lines) q (crossings lines.xs lines.ys)
    (λ d r n joined. crossings-all lines.xs lines.ys n joined.next.x joined.next.y) in
    elim (find_shortest p) [
      | inr none ↦ inr (λ points path. none (record { points = points; path = path }))
      | inl least ↦
          let is : IsShortest J p least.0.points q =
          record { path = least.0.path; least = λ others path. least.1 (record { points = others; path = path }) } in
          let way : (others : List Half) × IsPreferred J q p others =
          preferred J (joined_simple blocks lines) (neighbours blocks lines) q find_shortest (path_length (p ∷ least.0.points)) p least.0.points is (omega arith) in
          inl (route_along blocks die from to way.0 way.1)
    ]
