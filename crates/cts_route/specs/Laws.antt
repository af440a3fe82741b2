-- What holds of every route.
use Rattle.std.specs.Prelude.{◌≡◌, ◌≢◌, ◌*◌, ◌≤◌, ◌↔◌, ◌⊎◌, ◌≤ℤ◌, List, [], ◌∷◌, length, All, count_by}
use Rattle.cts_geom.specs.declared.bounds.Die.{Die}
use Rattle.cts_geom.specs.declared.points.Half.{Half}
use Rattle.cts_geom.specs.declared.points.Spot.{Spot}
use Rattle.cts_geom.specs.Points.{manhattan_of, point_of}
use Rattle.cts_block.specs.declared.blocks.Block.{Block}
use Rattle.cts_block.specs.declared.blocks.Kind.TheVariants.{Buffer}
use Rattle.cts_block.specs.FreePoints.{IsHalfInDie, IsFreeForWire, stops_wires}
use Rattle.cts_tree.specs.declared.route.Route.{Route}
use Rattle.cts_tree.specs.Path.{points_along, path_length, HasAxisSteps, AllAlong}
use Rattle.cts_route.specs.Grid.{IsClear}
use Rattle.cts_route.specs.Routes.{IsRoute, IsCut}

-- there is one route at most
abbrev pub RouteIsOne : Type 0
RouteIsOne =
    (blocks : List Block) (die : Die) (from to : Half) (route other : Route)
    → IsRoute blocks die from to route → IsRoute blocks die from to other → route ≡ other

-- and none between points that are cut
abbrev pub RouteIsNotCut : Type 0
RouteIsNotCut =
    (blocks : List Block) (die : Die) (from to : Half) (route : Route)
    → IsRoute blocks die from to route → IsCut blocks die from to → ⊥

-- every two spots have a route or are cut
abbrev pub RoutesExistOrAreCut : Type 0
RoutesExistOrAreCut =
    (blocks : List Block) (die : Die) (from to : Spot)
    → ((route : Route) × IsRoute blocks die (point_of from) (point_of to) route) ⊎ IsCut blocks die (point_of from) (point_of to)

-- where the way along x first and then along y turns
abbrev pub bend_of : Half → Half → Half
bend_of from to = record { x = to.x; y = from.y }

-- the route goes along x first and then along y: it has one corner where both coordinates differ, and none else
pub record RunsAlongXFirst (from to : Half) (route : Route) : Type 0 where
  pub bent : from.x ≢ to.x → from.y ≢ to.y → route.corners ≡ bend_of from to ∷ []
  pub straight : (from.x ≡ to.x) ⊎ (from.y ≡ to.y) → route.corners ≡ []
  pub length : 2 * route.length ≡ manhattan_of from to

-- where this way is clear it is the route
abbrev pub ClearWayIsRoute : Type 0
ClearWayIsRoute =
    (blocks : List Block) (die : Die) (from to : Half) (route : Route)
    → IsClear blocks from (bend_of from to) → IsClear blocks (bend_of from to) to
    → IsRoute blocks die from to route ↔ RunsAlongXFirst from to route

-- so it always is where no block stops wires
abbrev pub RouteWithoutWalls : Type 0
RouteWithoutWalls =
    (blocks : List Block) (die : Die) (from to : Half) (route : Route)
    → All (λ block. block.kind ≡ Buffer) blocks
    → IsRoute blocks die from to route ↔ RunsAlongXFirst from to route

-- both corners of a block lie in the die
pub record HasCornersIn (die : Die) (block : Block) : Type 0 where
  pub x1_low : die.x1 ≤ℤ block.x1
  pub x1_high : block.x1 ≤ℤ die.x2
  pub x2_low : die.x1 ≤ℤ block.x2
  pub x2_high : block.x2 ≤ℤ die.x2
  pub y1_low : die.y1 ≤ℤ block.y1
  pub y1_high : block.y1 ≤ℤ die.y2
  pub y2_low : die.y1 ≤ℤ block.y2
  pub y2_high : block.y2 ≤ℤ die.y2

-- The way of a route over its corners: its steps run along the axes and are longer than 0, and no point of it is outside
-- the die or strictly inside a block that stops wires; between equal ends there is no step. It is as long as the route.
pub record IsLegalWay (blocks : List Block) (die : Die) (from to : Half) (route : Route) : Type 0 where
  pub legal : ((from ≡ to) × (route.corners ≡ []))
      ⊎ (HasAxisSteps (points_along from route.corners to) × AllAlong (IsFreeForWire blocks die) (points_along from route.corners to))
  pub long : path_length (points_along from route.corners to) ≡ 2 * route.length

-- where the blocks and the two ends lie in the die every route is legal
abbrev pub RoutesAreLegal : Type 0
RoutesAreLegal =
    (blocks : List Block) (die : Die) (from to : Half) (route : Route) → die.x1 ≤ℤ die.x2 → die.y1 ≤ℤ die.y2
    → All (HasCornersIn die) blocks → IsHalfInDie die from → IsHalfInDie die to → IsRoute blocks die from to route
    → IsLegalWay blocks die from to route

-- where at most 64 blocks stop wires a route has no more corners than its grid can have points
abbrev pub RoutesHaveFewCorners : Type 0
RoutesHaveFewCorners =
    (blocks : List Block) (die : Die) (from to : Half) (route : Route)
    → count_by (λ block. stops_wires block.kind) blocks ≤ 64 → IsRoute blocks die from to route
    → length route.corners ≤ 132 * 132
