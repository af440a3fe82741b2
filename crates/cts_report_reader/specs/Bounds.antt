-- Which numbers, points and nodes a report can print, and which reports there are.
use Rattle.std.specs.Prelude.{◌≡◌, ℕ, ◌+◌, ◌*◌, ◌/◌, ◌%◌, ◌^◌, ◌<◌, ◌≤◌, Bool, true, false, length, map, All, Option, Some, None, IfSome}
use Rattle.cts_units.specs.Limits.{max_length}
use Rattle.cts_postorder.specs.PostOrder.{IsPostOrder}
use Rattle.cts_instance.specs.declared.version.Version.{Version}
use Rattle.cts_instance.specs.declared.version.Version.TheVariants.{One, Two}
use Rattle.cts_report.specs.Printed.{PrintedPoint, PrintedKind, sink_leaf, pair_node, PrintedNode, PrintedArrivals, PrintedTotals, Printed}
use Rattle.cts_report_reader.specs.declared.form.Form.{Form}
use Rattle.cts_report_reader.specs.Forms.{tells_arrival}

-- a number of at most 38 digits, on both sides of the point
abbrev pub IsShort : ℕ → Type 0
IsShort number = number < 10 ^ 38

-- a coordinate in half nm, at most 2·10^8 of them, at its 4 places
pub record IsPrintedCoordinate (number : ℕ) : Type 0 where
  pub inside : number ≤ 5 * (2 * 10 ^ 8)
  pub half : number % 5 ≡ 0

pub record IsPrintedPoint (p : PrintedPoint) : Type 0 where
  pub x : IsPrintedCoordinate p.x
  pub y : IsPrintedCoordinate p.y

-- a node's place has x and y both whole or both half, in nm
pub record IsPrintedPlace (p : PrintedPoint) : Type 0 where
  pub point : IsPrintedPoint p
  pub even : (p.x / 5 + p.y / 5) % 2 ≡ 0

-- an id; or a buffer of the library, which has so many, and a residue
abbrev pub IsPrintedKind : ℕ → PrintedKind → Type 0
IsPrintedKind buffers (sink_leaf id) = id ≤ 999999999
IsPrintedKind buffers (pair_node left right buffer residue) = IfSome buffer (λ index. index < buffers) × IsShort residue

-- an arrival, exactly where it is told
abbrev pub IsArrival : Bool → Option ℕ → Type 0
IsArrival false None = Unit {0}
IsArrival false (Some arrival) = ⊥
IsArrival true None = ⊥
IsArrival true (Some arrival) = IsShort arrival

pub record IsPrintedNode (form : Form) (node : PrintedNode) : Type 0 where
  pub kind : IsPrintedKind form.buffers node.kind
  pub place : IsPrintedPlace node.place
  pub load : IsShort node.load
  pub delay : IsShort node.delay
  pub arrival : IsArrival (tells_arrival form.version node.kind) node.arrival
  pub slew : IsShort node.slew
  pub wire : node.wire ≤ max_length
  pub few : length node.corners ≤ 65536
  pub corners : All IsPrintedPoint node.corners

-- the greatest and the least arrival, exactly in version 2
abbrev pub AreArrivals : Version → Option PrintedArrivals → Type 0
AreArrivals One None = Unit {0}
AreArrivals One (Some arrivals) = ⊥
AreArrivals Two None = ⊥
AreArrivals Two (Some arrivals) = IsShort arrivals.greatest × IsShort arrivals.least

pub record IsPrintedTotals (version : Version) (totals : PrintedTotals) : Type 0 where
  pub source_load : IsShort totals.source_load
  pub wire_total : IsShort totals.wire_total
  pub greatest : IsShort totals.greatest
  pub least : IsShort totals.least
  pub arrivals : AreArrivals version totals.arrivals
  pub skew : IsShort totals.skew
  pub bound : IsShort totals.bound

-- the numbers of the left and right child
abbrev pub children_of_kind : PrintedKind → Option (ℕ × ℕ)
children_of_kind (sink_leaf id) = None
children_of_kind (pair_node left right buffer residue) = Some (left, right)

abbrev pub printed_children : PrintedNode → Option (ℕ × ℕ)
printed_children node = children_of_kind node.kind

-- A report of this form: its nodes are those of one tree in post-order, and each of its numbers can be printed.
pub record IsReport (form : Form) (printed : Printed) : Type 0 where
  pub post_order : IsPostOrder (map printed_children printed.nodes)
  pub few : length printed.nodes ≤ 131071
  pub each : All (IsPrintedNode form) printed.nodes
  pub totals : IsPrintedTotals form.version printed.totals
