-- The picture of a tree: an SVG, as a function of an instance and of what a report on it prints.
use Rattle.std.specs.Prelude.{ℕ, List, ◌++◌, length}
use Rattle.std.specs.List.{flat_map}
use Rattle.cts_block.specs.declared.blocks.Block.{Block}
use Rattle.cts_units.specs.declared.params.Sink.{Sink}
use Rattle.cts_instance.specs.declared.parts.Parts.{Parts}
use Rattle.cts_report.specs.Printed.{PrintedPoint, PrintedNode, Printed}
use Rattle.cts_picture.specs.declared.frame.Frame.{Frame}
use Rattle.cts_picture.specs.Frame.{frame_of, height_on_page}
use Rattle.cts_picture.specs.Sheet.{bar_text, block_text, buffers_text, die_text, frame_text, page_text, sinks_text, source_text}
use Rattle.cts_picture.specs.Dots.{drawn_point}
use Rattle.cts_picture.specs.Wires.{scale_of, wires_text}
use Rattle.cts_picture.specs.Legend.{legend_text}

abbrev pub frame_for : Parts → Frame
frame_for parts = frame_of parts.die (length parts.sinks)

abbrev pub source_point : Parts → PrintedPoint
source_point parts = drawn_point parts.source_x parts.source_y

-- what lies under the tree: the page, the die and its blocks
unfoldable pub sheet_text : Frame → List Block → List ℕ
sheet_text frame blocks = page_text frame ++ frame_text frame ++ die_text frame ++ flat_map block_text blocks

-- what lies upon the wires: buffers, sinks and the source, and then the scale bar
unfoldable pub marks_text : Frame → List PrintedNode → List Sink → PrintedPoint → List ℕ
marks_text frame nodes sinks source =
    buffers_text frame.stroke nodes ++ sinks_text frame.stroke sinks ++ source_text frame.line source ++ bar_text frame

-- the whole picture, with its legend
unfoldable pub picture_text : Parts → Printed → List ℕ
picture_text parts printed =
    sheet_text (frame_for parts) parts.blocks
    ++ wires_text (scale_of printed.nodes printed.totals) (source_point parts) printed.nodes
    ++ marks_text (frame_for parts) printed.nodes parts.sinks (source_point parts)
    ++ legend_text (height_on_page (frame_for parts)) (frame_for parts).bar (length parts.sinks) printed
    (scale_of printed.nodes printed.totals).start
