-- The whole picture in print, and what a valid instance says of its points.
use Rattle.std.proofs.Common.{◌≡◌, ℕ, List, ◌++◌, length, map, All, refl, arith}
use Rattle.std.proofs.lemmas.Int.{ints}
use Rattle.cts_block.specs.declared.blocks.Block.{Block}
use Rattle.cts_units.specs.declared.params.Sink.{Sink}
use Rattle.cts_instance.specs.declared.parts.Parts.{Parts}
use Rattle.cts_instance.specs.Validity.{IsValid, IsSink}
use Rattle.cts_report.specs.Printed.{PrintedPoint}
use Rattle.cts_report_reader.specs.declared.node.ReportNode.{ReportNode}
use Rattle.cts_report_reader.specs.declared.report.Report.{Report}
use Rattle.cts_report_reader.specs.Nodes.{seen_node}
use Rattle.cts_report_reader.specs.Reports.{seen_report}
use Rattle.cts_report_reader.specs.Totals.{seen_totals}
use Rattle.cts_picture.specs.declared.frame.Frame.{Frame}
use Rattle.cts_picture.specs.declared.wire.Scale.{Scale}
use Rattle.cts_picture.specs.Drawable.{IsPlace}
use Rattle.cts_picture.specs.Frame.{height_on_page}
use Rattle.cts_picture.specs.Legend.{legend_text}
use Rattle.cts_picture.specs.Picture.{frame_for, marks_text, picture_text, sheet_text, source_point}
use Rattle.cts_picture.specs.Wires.{scale_of, wires_text}

-- the sinks of a valid instance lie where a die can lie
pub sinks_in_place : (parts : Parts) → IsValid parts → All (λ (pin : Sink). IsPlace pin.x pin.y) parts.sinks
sinks_in_place parts valid = λ k d h.
    let pin : IsSink parts.version parts.die _ = valid.sinks k d h in
    record {
      x_low = omega (arith, ints, pin.in_die.west, valid.die.x_low);
      x_high = omega (arith, ints, pin.in_die.east, valid.die.x_high);
      y_low = omega (arith, ints, pin.in_die.south, valid.die.y_low);
      y_high = omega (arith, ints, pin.in_die.north, valid.die.y_high);
    }

-- the parts of a picture, told of what they are made from
module _ (parts : Parts) (report : Report) where
  pub whole_picture : (frame : Frame) (blocks : List Block) (scale : Scale) (source : PrintedPoint)
      (nodes : List ReportNode) (sinks : List Sink) (height : ℕ)
      → frame ≡ frame_for parts → blocks ≡ parts.blocks
      → scale ≡ scale_of (map seen_node report.nodes.items) (seen_totals report.totals)
      → source ≡ source_point parts → nodes ≡ report.nodes.items → sinks ≡ parts.sinks → height ≡ height_on_page (frame_for parts)
      → sheet_text frame blocks ++ wires_text scale source (map seen_node nodes)
      ++ marks_text frame (map seen_node nodes) sinks source
      ++ legend_text height frame.bar (length sinks) (seen_report report) scale.start
      ≡ picture_text parts (seen_report report)
  unfolding picture_text
  whole_picture frame blocks scale source nodes sinks height f b c s n k h = rw (f, b, c, s, n, k, h) refl
