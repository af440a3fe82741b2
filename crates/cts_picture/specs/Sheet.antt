-- The page and its style, the die and its blocks, and the sinks, buffers and source upon them, as elements of an SVG.
use Rattle.std.specs.Prelude.{ℕ, ◌+◌, ◌-◌, ◌*◌, List, [], ◌++◌, codes, Some, None}
use Rattle.std.specs.List.{flat_map}
use Rattle.cts_units.specs.declared.params.Sink.{Sink}
use Rattle.cts_block.specs.declared.blocks.Block.{Block}
use Rattle.cts_block.specs.declared.blocks.Kind.{Kind}
use Rattle.cts_block.specs.declared.blocks.Kind.TheVariants as kind
use Rattle.cts_report.specs.Printed.{PrintedPoint, PrintedKind, sink_leaf, pair_node, PrintedNode}
use Rattle.cts_report.specs.Lines.{coordinate, point_words, whole}
use Rattle.cts_picture.specs.declared.frame.Frame.{Frame}
use Rattle.cts_picture.specs.Frame.{drawn, margin, width, height, height_on_page}

-- the colours of the eight classes of delay, from light to dark
abbrev pub colours : List ℕ
colours = codes "path{fill:none;stroke:currentColor}.d0{color:#fdae32}.d1{color:#f58c46}.d2{color:#e66c5c}.d3{color:#cc4778}.d4{color:#aa2395}.d5{color:#7e03a8}.d6{color:#4c02a1}.d7{color:#0d0887}.b,.s{pointer-events:none}.s{stroke-linecap:round}"

-- early wires are drawn wider than late ones, and a wire that is longer than its route is dashed
unfoldable pub style_text : ℕ → List ℕ
style_text stroke =
    codes "<style>" ++ colours ++ coordinate (codes ".d0,.d1{stroke-width:") (4 * stroke)
    ++ coordinate (codes "}.d2,.d3{stroke-width:") (3 * stroke) ++ coordinate (codes "}.d4,.d5{stroke-width:") (2 * stroke)
    ++ coordinate (codes "}.l{stroke-dasharray:") (4 * stroke) ++ coordinate (codes ",") (2 * stroke) ++ codes "}</style>\n"

-- the page, which is 1000 wide, and has 240 below the picture
unfoldable pub page_text : Frame → List ℕ
page_text frame =
    whole (codes "<svg xmlns='http://www.w3.org/2000/svg' viewBox='0 0 1000 ") (height_on_page frame + 240)
    ++ codes "' font-family='sans-serif' font-size='20'>\n<title>Clock tree</title>\n"
    ++ style_text frame.stroke
    ++ whole (codes "<rect width='1000' height='") (height_on_page frame + 240) ++ codes "' fill='#fff'/>\n"

-- the hatch of blocks that keep out buffers alone
unfoldable pub hatch_text : ℕ → List ℕ
hatch_text line =
    coordinate (codes "<pattern id='h' patternUnits='userSpaceOnUse' patternTransform='rotate(45)' viewBox='0 0 5 5' width='") (5 * line)
    ++ coordinate (codes "' height='") (5 * line)
    ++ codes "'><rect width='5' height='5' fill='#f2f2f2'/><rect width='1' height='5' fill='#999'/></pattern>\n"

-- The frame has the lower left corner of the die, less the margins, in its own, and y goes up. What stands inside has
-- the coordinates of the report.
unfoldable pub frame_text : Frame → List ℕ
frame_text frame =
    whole (codes "<svg width='1000' height='") (height_on_page frame)
    ++ coordinate (codes "' viewBox='0 0 ") (width frame) ++ coordinate (codes " ") (height frame) ++ codes "'>\n"
    ++ hatch_text frame.line
    ++ coordinate (codes "<g transform='translate(") (margin frame) ++ coordinate (codes " ") (margin frame)
    ++ coordinate (codes ") scale(1 -1) translate(-") frame.x1 ++ coordinate (codes " -") frame.y2
    ++ coordinate (codes ")' stroke-width='") frame.stroke ++ codes "'>\n"

-- a rectangle from its lower left corner on, up to what it is filled with
unfoldable pub rectangle : ℕ → ℕ → ℕ → ℕ → List ℕ
rectangle x y width height =
    coordinate (codes "<rect x='") x ++ coordinate (codes "' y='") y ++ coordinate (codes "' width='") width ++ coordinate (codes "' height='") height

-- the outline of the die
unfoldable pub die_text : Frame → List ℕ
die_text frame =
    rectangle frame.x1 frame.y1 (frame.x2 - frame.x1) (frame.y2 - frame.y1)
    ++ coordinate (codes "' fill='none' stroke='#000' stroke-width='") frame.line ++ codes "'/>\n"

-- a block that keeps out buffers is hatched, one that keeps out wires too is grey
abbrev pub fill_words : Kind → List ℕ
fill_words kind.Buffer = codes "' fill='url(#h)' stroke='#777'/>\n"
fill_words kind.All = codes "' fill='#ddd' stroke='#555'/>\n"

unfoldable pub block_text : Block → List ℕ
block_text block =
    rectangle (drawn block.x1) (drawn block.y1) (drawn block.x2 - drawn block.x1) (drawn block.y2 - drawn block.y1)
    ++ fill_words block.kind

-- a square of so many wires' width around the place of a node with a buffer
unfoldable pub square_text : ℕ → PrintedPoint → List ℕ
square_text stroke place =
    codes "M" ++ point_words place ++ coordinate (codes "m-") (2 * stroke) ++ coordinate (codes " 0h") (4 * stroke)

abbrev pub buffer_text : ℕ → PrintedPoint → PrintedKind → List ℕ
buffer_text stroke place (sink_leaf id) = []
buffer_text stroke place (pair_node left right None residue) = []
buffer_text stroke place (pair_node left right (Some buffer) residue) = square_text stroke place

unfoldable pub buffers_text : ℕ → List PrintedNode → List ℕ
buffers_text stroke nodes =
    coordinate (codes "<path class='b' stroke-width='") (4 * stroke) ++ codes "' d='"
    ++ flat_map (λ node. buffer_text stroke node.place node.kind) nodes ++ codes "'/>\n"

-- a dot at the place of a sink
unfoldable pub sink_text : Sink → List ℕ
sink_text sink = coordinate (codes "M ") (drawn sink.x) ++ coordinate (codes " ") (drawn sink.y) ++ codes "h0"

unfoldable pub sinks_text : ℕ → List Sink → List ℕ
sinks_text stroke sinks =
    coordinate (codes "<path class='s' stroke-width='") (3 * stroke) ++ codes "' d='" ++ flat_map sink_text sinks ++ codes "'/>\n"

-- a ring at the place of the source
unfoldable pub source_text : ℕ → PrintedPoint → List ℕ
source_text line source =
    coordinate (codes "<circle cx='") source.x ++ coordinate (codes "' cy='") source.y ++ coordinate (codes "' r='") (5 * line)
    ++ coordinate (codes "' fill='#fff' stroke='#000' stroke-width='") (2 * line) ++ codes "'/>\n"

-- the scale bar, below the die
unfoldable pub bar_text : Frame → List ℕ
bar_text frame =
    coordinate (codes "<path d='M ") frame.x1 ++ coordinate (codes " ") frame.y1 ++ coordinate (codes "h") frame.bar
    ++ coordinate (codes "' transform='translate(0 -") (12 * frame.line) ++ coordinate (codes ")' stroke-width='") (2 * frame.line)
    ++ codes "'/>\n"
