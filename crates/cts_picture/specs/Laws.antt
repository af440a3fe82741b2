-- What holds of every picture.
use Rattle.std.specs.Prelude.{◌≡◌, ℕ, ◌+◌, ◌<◌, ◌≤◌, nat_eq, List, length, map, slice_get, count_by, All, Some}
use Rattle.cts_postorder.specs.PostOrder.{IsPostOrder}
use Rattle.cts_units.specs.declared.params.Sink.{Sink}
use Rattle.cts_block.specs.declared.blocks.Block.{Block}
use Rattle.cts_instance.specs.declared.parts.Parts.{Parts}
use Rattle.cts_instance.specs.Validity.{IsValid}
use Rattle.cts_report.specs.Printed.{PrintedPoint, PrintedNode}
use Rattle.cts_report_reader.specs.declared.form.Form.{Form}
use Rattle.cts_report_reader.specs.declared.report.Report.{Report}
use Rattle.cts_report_reader.specs.declared.report.Reading.TheVariants.{Text}
use Rattle.cts_report_reader.specs.Bounds.{printed_children}
use Rattle.cts_report_reader.specs.Reports.{IsReading, IsSeenReading}
use Rattle.cts_picture.specs.declared.frame.Frame.{Frame}
use Rattle.cts_picture.specs.Dots.{drawn_point}
use Rattle.cts_picture.specs.Drawable.{IsDrawable}
use Rattle.cts_picture.specs.Frame.{margin, width, height}
use Rattle.cts_picture.specs.Picture.{frame_for, source_point}
use Rattle.cts_picture.specs.Wires.{DrawnWire, wire_points, wires_of}

-- a report that was read can be drawn
abbrev pub ReadingsCanBeDrawn : Type 0
ReadingsCanBeDrawn =
    (form : Form) (bytes : List ℕ) (report : Report) → IsReading form bytes (Text report) → IsSeenReading (Text report)
    → IsDrawable report

-- in the picture of a tree each node has exactly one wire
abbrev pub EachNodeHasOneWire : Type 0
EachNodeHasOneWire =
    (source : PrintedPoint) (nodes : List PrintedNode) → IsPostOrder (map printed_children nodes)
    → (number : ℕ) → number < length nodes
    → count_by (λ (wire : DrawnWire). nat_eq wire.number number) (wires_of source nodes) ≡ 1

-- and each wire leads to a node, by whose number it goes
abbrev pub WiresLeadToNodes : Type 0
WiresLeadToNodes =
    (source : PrintedPoint) (nodes : List PrintedNode)
    → All (λ (wire : DrawnWire). slice_get nodes wire.number ≡ Some wire.node) (wires_of source nodes)

-- the point lies in the die or on its edges
pub record IsOnDie (frame : Frame) (p : PrintedPoint) : Type 0 where
  pub west : frame.x1 ≤ p.x
  pub east : p.x ≤ frame.x2
  pub south : frame.y1 ≤ p.y
  pub north : p.y ≤ frame.y2

-- so do the place of a node and the corners of its route
pub record LiesOnDie (frame : Frame) (node : PrintedNode) : Type 0 where
  pub place : IsOnDie frame node.place
  pub corners : All (IsOnDie frame) node.corners

-- The point is drawn inside the frame. Its x there is margin + p.x - x1, from 0 to the width, and its y there, which
-- counts from the top, is margin + y2 - p.y, from 0 to the height.
pub record IsInFrame (frame : Frame) (p : PrintedPoint) : Type 0 where
  pub left : frame.x1 ≤ margin frame + p.x
  pub right : margin frame + p.x ≤ frame.x1 + width frame
  pub top : p.y ≤ margin frame + frame.y2
  pub bottom : margin frame + frame.y2 ≤ p.y + height frame

-- where the tree lies in the die, all points of its wires are drawn inside the frame
abbrev pub WiresLieInFrame : Type 0
WiresLieInFrame =
    (parts : Parts) (nodes : List PrintedNode) → IsValid parts → All (LiesOnDie (frame_for parts)) nodes
    → All (λ (wire : DrawnWire). All (IsInFrame (frame_for parts)) (wire_points wire)) (wires_of (source_point parts) nodes)

-- a rectangle is drawn inside the frame where two of its corners across are
pub record IsBlockInFrame (frame : Frame) (block : Block) : Type 0 where
  pub from : IsInFrame frame (drawn_point block.x1 block.y1)
  pub to : IsInFrame frame (drawn_point block.x2 block.y2)

-- the sinks, the blocks and the source of a valid instance are drawn inside the frame
pub record LiesInFrame (parts : Parts) : Type 0 where
  pub sinks : All (λ (sink : Sink). IsInFrame (frame_for parts) (drawn_point sink.x sink.y)) parts.sinks
  pub blocks : All (IsBlockInFrame (frame_for parts)) parts.blocks
  pub source : IsInFrame (frame_for parts) (source_point parts)

abbrev pub InstancesLieInFrame : Type 0
InstancesLieInFrame = (parts : Parts) → IsValid parts → LiesInFrame parts
