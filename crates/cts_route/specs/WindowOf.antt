-- A window of the grid of two points: the part of it that lies in a frame, what a search found there, and when this is
-- what a search over the whole grid finds.
use Rattle.std.specs.Prelude.{◌≡◌, false, ℕ, ◌+◌, ◌*◌, ◌/◌, ◌%◌, ◌^◌, ◌<◌, ◌≤◌, ◌⊎◌, pos, neg_ℤ, ◌≤ℤ◌, ◌∷◌, length, slice_index}
use Rattle.std.specs.Bool.{OnFalse}
use Rattle.cts_geom.specs.declared.points.Half.{Half}
use Rattle.cts_geom.specs.declared.points.Spot.{Spot}
use Rattle.cts_geom.specs.Points.{IsSpotInRange, manhattan_of, point_of}
use Rattle.cts_route.specs.declared.direction.Direction.{Direction}
use Rattle.cts_route.specs.declared.direction.Direction.TheVariants.{East, West, North, South}
use Rattle.cts_route.specs.declared.frame.Frame.{Frame}
use Rattle.cts_route.specs.declared.frame.Sides.{Sides}
use Rattle.cts_route.specs.declared.grid.Grid.{Grid}
use Rattle.cts_route.specs.declared.view.Edge.{Edge}
use Rattle.cts_route.specs.declared.view.View.{View}
use Rattle.cts_route.specs.declared.view.Window.{Window}
use Rattle.cts_route.specs.LineLists.{AreLinesBetween}
use Rattle.cts_route.specs.Search.{IsGraph, AreLabels, IsSettled}
use Rattle.cts_route.specs.Walks.{LeadsAhead}
use Rattle.cts_route.specs.Grids.{IsGrid}
use Rattle.cts_route.specs.Windows.{point_at, IsGraphOf, AreShortLines, Stands}

-- ---- frames
-- at most 2^41 half nm from 0 on each side
pub record IsNearFrame (frame : Frame) : Type 0 where
  pub west : neg_ℤ (pos (2 ^ 41)) ≤ℤ frame.low.x
  pub south : neg_ℤ (pos (2 ^ 41)) ≤ℤ frame.low.y
  pub east : frame.high.x ≤ℤ pos (2 ^ 41)
  pub north : frame.high.y ≤ℤ pos (2 ^ 41)

pub record IsInFrame (frame : Frame) (p : Half) : Type 0 where
  pub west : frame.low.x ≤ℤ p.x
  pub south : frame.low.y ≤ℤ p.y
  pub east : p.x ≤ℤ frame.high.x
  pub north : p.y ≤ℤ frame.high.y

-- both ends lie in the frame
pub record IsFrameOf (from to : Spot) (frame : Frame) : Type 0 where
  pub near : IsNearFrame frame
  pub from_in : IsInFrame frame (point_of from)
  pub to_in : IsInFrame frame (point_of to)

-- no line can be past the frame on this side
abbrev pub EndsAt : Frame → Direction → Type 0
EndsAt frame East = frame.high.x ≡ pos (2 ^ 41)
EndsAt frame West = frame.low.x ≡ neg_ℤ (pos (2 ^ 41))
EndsAt frame North = frame.high.y ≡ pos (2 ^ 41)
EndsAt frame South = frame.low.y ≡ neg_ℤ (pos (2 ^ 41))

-- on no side
pub record IsWhole (frame : Frame) : Type 0 where
  pub ends : (direction : Direction) → EndsAt frame direction

-- every point of the one frame lies in the other
pub record IsWider (before after : Frame) : Type 0 where
  pub near : IsNearFrame after
  pub west : after.low.x ≤ℤ before.low.x
  pub south : after.low.y ≤ℤ before.low.y
  pub east : before.high.x ≤ℤ after.high.x
  pub north : before.high.y ≤ℤ after.high.y

-- ---- windows
-- the steps between the points of few lines
pub record IsWindow (window : Window) : Type 0 where
  pub short_x : AreShortLines window.xs.items
  pub short_y : AreShortLines window.ys.items
  pub graph : IsGraph window.graph
  pub cells : length window.graph.east.items ≡ length window.xs.items * length window.ys.items
  pub ahead : LeadsAhead window.xs.items window.ys.items window.graph

-- the lines of the grid of two points that lie in the frame, and the steps between their points
pub record IsWindowOf (grid : Grid) (from to : Spot) (frame : Frame) (window : Window) : Type 0 where
  pub is : IsWindow window
  pub xs : AreLinesBetween ((point_of from).x ∷ (point_of to).x ∷ grid.xs.items) frame.low.x frame.high.x window.xs.items
  pub ys : AreLinesBetween ((point_of from).y ∷ (point_of to).y ∷ grid.ys.items) frame.low.y frame.high.y window.ys.items
  pub steps : IsGraphOf grid.walls.items window.xs.items window.ys.items window.graph

-- a window with the labels of a search that reached its start or all that it could reach
pub record IsSearched (view : View) : Type 0 where
  pub window : IsWindow view.window
  pub valid : AreLabels view.window.graph view.table.goal view.table.labels.items
  pub settled : IsSettled view.window.graph view.table.labels.items view.start
  pub start_inside : view.start < length view.table.labels.items

-- the search led from one point to the other
pub record IsView (grid : Grid) (from to : Spot) (frame : Frame) (view : View) : Type 0 where
  pub window_is : IsWindowOf grid from to frame view.window
  pub searched : IsSearched view
  pub at_start : Stands view.window.xs.items view.window.ys.items (point_of from) view.start
  pub at_goal : Stands view.window.xs.items view.window.ys.items (point_of to) view.table.goal

-- ---- the edges of a window
-- of w columns of h points, the point is on the outermost line on this side
abbrev pub IsOutermost : ℕ → ℕ → Direction → ℕ → Type 0
IsOutermost w h East c = c / h + 1 ≡ w
IsOutermost w h West c = c / h ≡ 0
IsOutermost w h North c = c % h + 1 ≡ h
IsOutermost w h South c = c % h ≡ 0

-- the edge has the numbers of all points of the outermost line on this side
pub record IsEdge (w h : ℕ) (direction : Direction) (edge : Edge) : Type 0 where
  pub inside : (k : ℕ) → k < edge.count → edge.first + k * edge.step < w * h
  pub all : (c : ℕ) → c < w * h → IsOutermost w h direction c → (k : ℕ) × ((k < edge.count) × (c ≡ edge.first + k * edge.step))

-- a path over this point is no shorter than the one that was found
pub record IsNoDetour (view : View) (c : ℕ) : Type 0 where
  pub no_shorter : slice_index view.table.labels.items view.start ≤ slice_index view.table.labels.items c
      + manhattan_of (point_at view.window.xs.items view.window.ys.items view.start) (point_at view.window.xs.items view.window.ys.items c)

-- no path that is at most as long as the one that was found leaves the window on this side
pub record IsShutTo (frame : Frame) (view : View) (direction : Direction) : Type 0 where
  pub either : EndsAt frame direction ⊎ ((c : ℕ) → c < length view.table.labels.items
      → IsOutermost (length view.window.xs.items) (length view.window.ys.items) direction c → IsNoDetour view c)

pub record IsShut (frame : Frame) (view : View) : Type 0 where
  pub to : (direction : Direction) → IsShutTo frame view direction

pub record AreNone (sides : Sides) : Type 0 where
  pub east : sides.east ≡ false
  pub west : sides.west ≡ false
  pub north : sides.north ≡ false
  pub south : sides.south ≡ false

-- the other sides are shut
pub record AreOpenSides (frame : Frame) (view : View) (sides : Sides) : Type 0 where
  pub east : OnFalse sides.east (IsShutTo frame view East)
  pub west : OnFalse sides.west (IsShutTo frame view West)
  pub north : OnFalse sides.north (IsShutTo frame view North)
  pub south : OnFalse sides.south (IsShutTo frame view South)

-- the search needs no wider window
pub record IsDone (grid : Grid) (from to : Spot) (frame : Frame) (view : View) : Type 0 where
  pub grid_is : IsGrid grid
  pub from_in : IsSpotInRange from
  pub to_in : IsSpotInRange to
  pub view_is : IsView grid from to frame view
  pub shut : IsShut frame view
