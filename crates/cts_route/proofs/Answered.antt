-- What the calls on a grid answer.
use Rattle.std.proofs.Common.{◌≡◌, ℕ, ◌-◌, ◌/◌, ◌^◌, ◌<◌, ◌≤◌, Result, Ok, Err, ℤ, List, slice_index, refl, sym, ◌∙◌, subst}
use Rattle.std.specs.List.{Contains}
use Rattle.std.specs.Result.{IfOk, IsErr}
use Rattle.cts_geom.specs.declared.bounds.Die.{Die}
use Rattle.cts_geom.specs.declared.points.Half.{Half}
use Rattle.cts_geom.specs.declared.points.Spot.{Spot}
use Rattle.cts_geom.specs.Points.{point_of}
use Rattle.cts_block.specs.declared.blocks.Block.{Block}
use Rattle.cts_tree.specs.declared.route.Route.{Route}
use Rattle.cts_route.specs.declared.end.RouteEnd.{RouteEnd}
use Rattle.cts_route.specs.declared.grid.Grid.{Grid}
use Rattle.cts_route.specs.declared.frame.Frame.{Frame}
use Rattle.cts_route.specs.declared.view.View.{View}
use Rattle.cts_route.specs.declared.view.Window.{Window}
use Rattle.cts_route.specs.declared.table.Table.{Table}
use Rattle.cts_route.specs.declared.wall.Wall.{Wall}
use Rattle.cts_route.specs.Grid.{lines_of}
use Rattle.cts_route.specs.Grids.{IsGridOf, IsRouteOn, IsCutOn}
use Rattle.cts_route.specs.Laws.{bend_of, RunsAlongXFirst}
use Rattle.cts_route.specs.Routes.{IsCut}
use Rattle.cts_route.specs.Walks.{IsWayDown}
use Rattle.cts_route.specs.Walls.{MissesWalls}
use Rattle.cts_route.specs.WindowOf.{IsDone}
use Rattle.cts_route.specs.Windows.{Stands}
use Rattle.cts_route.proofs.ClearWay.{clear_way_route}
use Rattle.cts_route.proofs.Edges.{shut_closed, shut_sealed}
use Rattle.cts_route.proofs.Found.{found_route, found_cut}
use Rattle.cts_route.proofs.GridLines.{search_of}
use Rattle.cts_route.proofs.Searches.{IsSearch, clear_from_misses}
use Rattle.cts_route.proofs.Unique.{route_not_cut}

-- ---- the way along x first
pub direct_route : (grid : Grid) (from to : Spot) (route : Route) (walls : List Wall) (start goal bend : Half) → walls ≡ grid.walls.items
    → start ≡ point_of from → goal ≡ point_of to → bend ≡ bend_of (point_of from) (point_of to)
    → MissesWalls walls start bend → MissesWalls walls bend goal → RunsAlongXFirst (point_of from) (point_of to) route → IsRouteOn grid from to route
direct_route grid from to route walls start goal bend same_walls same_start same_goal same_bend first second runs =
    let p : Half = point_of from in
    let q : Half = point_of to in
    let b : Half = bend_of p q in
    let first_misses : MissesWalls grid.walls.items p b =
    subst (λ (ws : List Wall). MissesWalls ws p b) same_walls (subst (λ (r : Half). MissesWalls walls r b) same_start (subst (λ (r : Half). MissesWalls walls start r) same_bend first)) in
    let second_misses : MissesWalls grid.walls.items b q =
    subst (λ (ws : List Wall). MissesWalls ws b q) same_walls (subst (λ (r : Half). MissesWalls walls r q) same_bend (subst (λ (r : Half). MissesWalls walls bend r) same_goal second)) in
    record {
      is = λ blocks die of.
          (clear_way_route blocks die p q route (clear_from_misses blocks grid.walls.items p b of.walls first_misses)
          (clear_from_misses blocks grid.walls.items b q of.walls second_misses)).1 runs;
    }

pub told_on : (grid : Grid) (from to : Spot) (r : Result Route RouteEnd) → IfOk r (IsRouteOn grid from to) → (blocks : List Block) (die : Die)
    → IsGridOf blocks die grid → IsCut blocks die (point_of from) (point_of to) → IsErr r
told_on grid from to (Ok route) is blocks die of cut = absurd (route_not_cut blocks die (point_of from) (point_of to) route (is.is blocks die of) cut)
told_on grid from to (Err e) is blocks die of cut = refl

-- ---- the search
pub has_line : (lines there : List ℤ) (a b : ℤ) → there ≡ lines → b ≡ a → Contains lines a → Contains there b
has_line lines there a b e f on = subst (λ (ls : List ℤ). Contains ls b) (sym e) (subst (λ (z : ℤ). Contains lines z) (sym f) on)

pub same_stands : (xs ys xs' ys' : List ℤ) (p p' : Half) (c c' : ℕ) → Stands xs' ys' p' c' → xs' ≡ xs → ys' ≡ ys → p' ≡ p → c' ≡ c → Stands xs ys p c
same_stands xs ys xs' ys' p p' c c' stands e f g h =
    subst (λ (k : ℕ). Stands xs ys p k) h (subst (λ (r : Half). Stands xs ys r c') g
    (subst (λ (ls : List ℤ). Stands xs ls p' c') f (subst (λ (ls : List ℤ). Stands ls ys' p' c') e stands)))

pub same_way : (xs ys xs' ys' : List ℤ) (window : Window) (table : Table) (start : ℕ) (corners : List Half)
    → IsWayDown xs' ys' window.graph table start corners → xs' ≡ xs → ys' ≡ ys → IsWayDown xs ys window.graph table start corners
same_way xs ys xs' ys' window table start corners way e f =
    subst (λ (ls : List ℤ). IsWayDown xs ls window.graph table start corners) f (subst (λ (ls : List ℤ). IsWayDown ls ys' window.graph table start corners) e way)

search_is : (grid : Grid) (from to : Spot) (frame : Frame) (view : View) → IsDone grid from to frame view → (blocks : List Block) (die : Die) → IsGridOf blocks die grid
    → IsSearch blocks (lines_of blocks die (point_of from) (point_of to)) grid.walls.items view.window.xs.items view.window.ys.items view.window.graph view.table.goal view.table.labels.items
search_is grid from to frame view done blocks die of =
    search_of blocks die grid from to frame view.window view.table.goal view.table.labels.items of done.view_is.window_is done.view_is.searched.valid

pub done_cut : (grid : Grid) (from to : Spot) (frame : Frame) (view : View) → IsDone grid from to frame view
    → 2 ^ 64 - 1 ≤ slice_index view.table.labels.items view.start → IsCutOn grid from to
done_cut grid from to frame view done none =
    record {
      is = λ blocks die of.
          found_cut blocks die (point_of from) (point_of to) grid.walls.items view.window.xs.items view.window.ys.items view.window.graph view.start view.table.goal view.table.labels.items
          (search_is grid from to frame view done blocks die of) done.view_is.searched.settled (shut_sealed blocks die grid from to frame view done of none)
          done.view_is.at_start done.view_is.at_goal none;
    }

pub done_route : (grid : Grid) (from to : Spot) (frame : Frame) (view : View) (route : Route) (corners : List Half) → IsDone grid from to frame view
    → slice_index view.table.labels.items view.start < 2 ^ 64 - 1 → IsWayDown view.window.xs.items view.window.ys.items view.window.graph view.table view.start corners
    → route.corners ≡ corners → route.length ≡ slice_index view.table.labels.items view.start / 2 → IsRouteOn grid from to route
done_route grid from to frame view route corners done reached way same len =
    record {
      is = λ blocks die of.
          found_route blocks die from to grid.walls.items view.window.xs.items view.window.ys.items view.window.graph view.start view.table.goal view.table.labels.items way.cells route
          (search_is grid from to frame view done blocks die of) done.view_is.searched.settled reached (shut_closed blocks die grid from to frame view done of)
          done.view_is.at_start done.view_is.at_goal way.down (same ∙ way.turns) len;
    }
