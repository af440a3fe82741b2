-- The report of a tree: what is printed where the numbers are those of the tree and of its figures.
use Rattle.std.specs.Prelude.{◌≡◌, ℕ, ◌+◌, ◌*◌, ◌^◌, ◌≤◌, pos, ◌≤ℤ◌, unsigned_abs, List, [], ◌∷◌, length, map, All, Option, Some, None}
use Rattle.cts_geom.specs.declared.points.Half.{Half}
use Rattle.cts_geom.specs.Points.{IsSpotInRange, point_of}
use Rattle.cts_units.specs.Delay.{slew_of}
use Rattle.cts_tree.specs.declared.nodes.NodeKind.{NodeKind}
use Rattle.cts_tree.specs.declared.nodes.NodeKind.TheVariants.{Leaf, Pair}
use Rattle.cts_tree.specs.declared.nodes.TreeNode.{TreeNode}
use Rattle.cts_instance.specs.declared.version.Version.{Version}
use Rattle.cts_instance.specs.declared.version.Version.TheVariants.{One, Two}
use Rattle.cts_elmore.specs.declared.figures.NodeFigure.{NodeFigure}
use Rattle.cts_elmore.specs.declared.figures.Figures.{Figures}
use Rattle.cts_report.specs.Printed.{PrintedPoint, PrintedKind, sink_leaf, pair_node, PrintedNode, PrintedArrivals, PrintedTotals, Printed}
use Rattle.cts_report.specs.Lines.{report_lines, summary_lines, text_of_lines}

-- half nm in 10^-4 µm; in the die no coordinate is below 0
abbrev pub printed_point : Half → PrintedPoint
printed_point p = record { x = 5 * unsigned_abs p.x; y = 5 * unsigned_abs p.y }

-- a doubled delay of 10^-27 s in 10^-16 ps
abbrev pub printed_time : ℕ → ℕ
printed_time delay = 5 * delay

abbrev pub printed_kind : NodeKind → ℕ → PrintedKind
printed_kind (Leaf id sink) residue = sink_leaf id
printed_kind (Pair left right buffer) residue = pair_node left right buffer (printed_time residue)

-- in version 2 the arrival of a leaf, doubled as a delay is
abbrev pub printed_arrival : Version → NodeKind → ℕ → Option ℕ
printed_arrival One kind arrival = None
printed_arrival Two (Leaf id sink) arrival = Some (printed_time arrival)
printed_arrival Two (Pair left right buffer) arrival = None

-- The load of a node is that below it, its delay and slew are those at its place, before its buffer. The arrival of a leaf
-- is its delay and twice the offset that its sink wants.
abbrev pub printed_node : Version → TreeNode → NodeFigure → PrintedNode
printed_node version node figure = record {
  kind = printed_kind node.kind figure.residue;
  place = printed_point (point_of node.place);
  load = figure.below;
  delay = printed_time figure.delay;
  arrival = printed_arrival version node.kind (figure.delay + 2 * figure.offset);
  slew = slew_of figure.stage;
  wire = node.wire;
  corners = map printed_point node.route.corners;
}

-- the nodes of a tree, each with its figures
unfoldable pub printed_nodes : Version → List TreeNode → List NodeFigure → List PrintedNode
printed_nodes version [] figures = []
printed_nodes version (node ∷ nodes) [] = []
printed_nodes version (node ∷ nodes) (figure ∷ figures) =
    printed_node version node figure ∷ printed_nodes version nodes figures

-- in version 2 the greatest and the least arrival, doubled as delays are
abbrev pub printed_arrivals : Version → ℕ → ℕ → Option PrintedArrivals
printed_arrivals One greatest least = None
printed_arrivals Two greatest least = Some (record { greatest = printed_time greatest; least = printed_time least })

abbrev pub printed_totals : Version → Figures → PrintedTotals
printed_totals version figures = record {
  source_load = figures.source_load;
  wire_total = figures.wire_total;
  greatest = printed_time figures.greatest;
  least = printed_time figures.least;
  arrivals = printed_arrivals version figures.arrival_greatest figures.arrival_least;
  skew = printed_time figures.skew;
  bound = printed_time figures.bound;
  load_met = figures.load_met;
  slew_met = figures.slew_met;
}

abbrev pub printed_report : Version → List TreeNode → Figures → Printed
printed_report version nodes figures =
    record { nodes = printed_nodes version nodes figures.nodes; totals = printed_totals version figures }

-- the report of a tree with these figures, of an instance of this version
abbrev pub report_text : Version → List TreeNode → Figures → List ℕ
report_text version nodes figures = text_of_lines (report_lines version (printed_report version nodes figures))

-- its summary, which prints no arrivals
abbrev pub summary_text : List TreeNode → Figures → List ℕ
summary_text nodes figures = text_of_lines (summary_lines (length nodes) (printed_totals One figures))

-- A coordinate in the die is not below 0.
pub record IsOnSheet (p : Half) : Type 0 where
  pub x : pos 0 ≤ℤ p.x
  pub y : pos 0 ≤ℤ p.y

-- The place of a node and the corners of its route can be printed.
pub record IsPrintableNode (node : TreeNode) : Type 0 where
  pub in_range : IsSpotInRange node.place
  pub place : IsOnSheet (point_of node.place)
  pub corners : All IsOnSheet node.route.corners

-- Its figures have at most 38 digits in print.
pub record IsPrintableFigure (figure : NodeFigure) : Type 0 where
  pub residue : figure.residue ≤ 10 ^ 37
  pub delay : figure.delay ≤ 10 ^ 37
  pub arrival : figure.delay + 2 * figure.offset ≤ 10 ^ 37
  pub stage : figure.stage ≤ 2 ^ 120

-- So have those of the whole tree.
pub record HasPrintableTotals (figures : Figures) : Type 0 where
  pub greatest : figures.greatest ≤ 10 ^ 37
  pub least : figures.least ≤ 10 ^ 37
  pub skew : figures.skew ≤ 10 ^ 37
  pub bound : figures.bound ≤ 10 ^ 37

-- So have its arrivals.
pub record HasPrintableArrivals (figures : Figures) : Type 0 where
  pub greatest : figures.arrival_greatest ≤ 10 ^ 37
  pub least : figures.arrival_least ≤ 10 ^ 37

-- A tree and its figures can be printed; those of a sound tree can.
pub record IsPrintable (tree : List TreeNode) (figures : Figures) : Type 0 where
  pub long : length figures.nodes ≡ length tree
  pub each_node : All IsPrintableNode tree
  pub each_figure : All IsPrintableFigure figures.nodes
  pub totals : HasPrintableTotals figures
  pub arrivals : HasPrintableArrivals figures
