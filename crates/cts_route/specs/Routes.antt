-- Paths over the joined points of a grid, and the one among the shortest paths that is the route. A path is the list of
-- its points after the first one.
use Rattle.std.specs.Prelude.{◌≡◌, ◌<◌, ◌≤◌, List, [], ◌∷◌}
use Rattle.cts_geom.specs.declared.bounds.Die.{Die}
use Rattle.cts_geom.specs.declared.points.Half.{Half}
use Rattle.cts_block.specs.declared.blocks.Block.{Block}
use Rattle.cts_tree.specs.declared.route.Route.{Route}
use Rattle.cts_tree.specs.Path.{path_length, Follows}
use Rattle.cts_route.specs.declared.direction.Direction.{Direction}
use Rattle.cts_route.specs.Grid.{rank, lines_of, IsJoined}

-- from p to q, each point is joined to the next
unfoldable pub IsPath : (Direction → Half → Half → Type 0) → Half → List Half → Half → Type 0
IsPath Joined p [] q = p ≡ q
IsPath Joined p (n ∷ points) q = ((direction : Direction) × Joined direction p n) × IsPath Joined n points q

-- a path of least length
pub record IsShortest (Joined : Direction → Half → Half → Type 0) (p : Half) (points : List Half) (q : Half) : Type 0 where
  pub path : IsPath Joined p points q
  pub least : (others : List Half) → IsPath Joined p others q → path_length (p ∷ points) ≤ path_length (p ∷ others)

-- n comes directly after p on a shortest path to q
pub record StartsShortest (Joined : Direction → Half → Half → Type 0) (p n q : Half) : Type 0 where
  pub rest : List Half
  pub shortest : IsShortest Joined p (n ∷ rest) q

-- n is the first neighbour of p, in the order of directions, that comes directly after p on a shortest path to q
pub record IsFirstStep (Joined : Direction → Half → Half → Type 0) (p n q : Half) : Type 0 where
  pub direction : Direction
  pub joined : Joined direction p n
  pub shortest : StartsShortest Joined p n q
  pub first : (other : Direction) (m : Half) → rank other < rank direction → Joined other p m → StartsShortest Joined p m q → ⊥

-- each step of the path is such a first step
unfoldable pub TakesFirstSteps : (Direction → Half → Half → Type 0) → Half → List Half → Half → Type 0
TakesFirstSteps Joined p [] q = Unit {0}
TakesFirstSteps Joined p (n ∷ points) q = IsFirstStep Joined p n q × TakesFirstSteps Joined n points q

-- the route between two points of a die with blocks: its corners and its length are those of the shortest path of their
-- grid that takes the first step at each of its points
pub record IsRoute (blocks : List Block) (die : Die) (from to : Half) (route : Route) : Type 0 where
  pub points : List Half
  pub shortest : IsShortest (IsJoined blocks (lines_of blocks die from to)) from points to
  pub first_steps : TakesFirstSteps (IsJoined blocks (lines_of blocks die from to)) from points to
  pub follows : Follows route (from ∷ points)

-- no path of the grid joins the two points
abbrev pub IsCut : List Block → Die → Half → Half → Type 0
IsCut blocks die from to = (points : List Half) → IsPath (IsJoined blocks (lines_of blocks die from to)) from points to → ⊥
