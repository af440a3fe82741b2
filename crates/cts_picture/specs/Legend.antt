-- What is written below the picture.
use Rattle.std.specs.Prelude.{ℕ, max, Bool, false, if◌then◌else◌, List, [], ◌++◌, fold, count_by, codes, Option, Some, None, is_some}
use Rattle.cts_report.specs.Printed.{PrintedKind, sink_leaf, pair_node, PrintedNode, PrintedArrivals, PrintedTotals, Printed}
use Rattle.cts_report.specs.Lines.{whole, length_in_um, coordinate, time}

-- whether a node is a pair that has a buffer
abbrev pub has_buffer : PrintedKind → Bool
has_buffer (sink_leaf id) = false
has_buffer (pair_node left right buffer residue) = is_some buffer

-- how many nodes have one
abbrev pub buffer_count : List PrintedNode → ℕ
buffer_count nodes = count_by (λ (node : PrintedNode). has_buffer node.kind) nodes

-- the greatest slew of a node, or 0 where there is none
abbrev pub greatest_slew : List PrintedNode → ℕ
greatest_slew nodes = fold (λ slew (node : PrintedNode). max slew node.slew) 0 nodes

-- the end of the picture, and the length of the scale bar below it
unfoldable pub bar_words : ℕ → ℕ → List ℕ
bar_words height bar =
    whole (codes "</g>\n</svg>\n<g transform='translate(45 ") height
    ++ coordinate (codes ")'>\n<text y='20'>scale bar ") bar ++ codes " &#181;m</text>\n"

-- the length of all wires, and the numbers of sinks and buffers
unfoldable pub counts_words : ℕ → ℕ → ℕ → List ℕ
counts_words wire_total sinks buffers =
    length_in_um (codes "<text x='480' y='20'>wire total ") wire_total
    ++ whole (codes " &#181;m</text>\n<text y='44'>sinks ") sinks
    ++ whole (codes "</text>\n<text x='480' y='44'>buffers ") buffers ++ codes "</text>\n"

-- the greatest and the least delay
unfoldable pub delays_words : PrintedTotals → List ℕ
delays_words totals =
    time (codes "<text y='68'>delay greatest ") totals.greatest
    ++ time (codes " ps</text>\n<text x='480' y='68'>delay least ") totals.least ++ codes " ps</text>\n"

-- whether a limit is met
unfoldable pub met_words : List ℕ → Bool → List ℕ
met_words label met = label ++ (if met then codes " yes</text>\n" else codes " no</text>\n")

-- the greatest slew, and whether the limits on loads and slews are met
unfoldable pub limits_words : ℕ → PrintedTotals → List ℕ
limits_words slew totals =
    time (codes "<text y='92'>slew greatest ") slew
    ++ met_words (codes " ps</text>\n<text x='480' y='92'>load met") totals.load_met
    ++ met_words (codes "<text x='660' y='92'>slew met") totals.slew_met

-- the skew, and the bound on it
unfoldable pub skew_words : PrintedTotals → List ℕ
skew_words totals =
    time (codes "<text y='116'>skew ") totals.skew
    ++ time (codes " ps</text>\n<text x='480' y='116'>bound ") totals.bound ++ codes " ps</text>\n"

-- the greatest and the least arrival, where the report tells them
unfoldable pub arrivals_words : Option PrintedArrivals → List ℕ
arrivals_words None = []
arrivals_words (Some arrivals) =
    time (codes "<text y='140'>arrival greatest ") arrivals.greatest
    ++ time (codes " ps</text>\n<text x='480' y='140'>arrival least ") arrivals.least ++ codes " ps</text>\n"

-- the classes of delay from the delay at the root on, and what the signs mean
unfoldable pub classes_words : ℕ → List ℕ
classes_words start =
    time (codes "<text y='172'>delay at a wire&#39;s lower end, from ") start
    ++ codes " ps at the root to the greatest</text>\n<g fill='currentColor'><rect class='d0' x='0' y='180' width='100' height='20'/><rect class='d1' x='100' y='180' width='100' height='20'/><rect class='d2' x='200' y='180' width='100' height='20'/><rect class='d3' x='300' y='180' width='100' height='20'/><rect class='d4' x='400' y='180' width='100' height='20'/><rect class='d5' x='500' y='180' width='100' height='20'/><rect class='d6' x='600' y='180' width='100' height='20'/><rect class='d7' x='700' y='180' width='100' height='20'/></g>\n"
    ++ codes "<text font-size='16' y='224'>dots: sinks; squares: buffers; ring: source; dashed: wire longer than its route; grey: no wires; hatched: no buffers</text>\n</g>\n</svg>\n"

-- the whole legend of so many sinks, below a picture of this height
unfoldable pub legend_text : ℕ → ℕ → ℕ → Printed → ℕ → List ℕ
legend_text height bar sinks printed start =
    bar_words height bar ++ counts_words printed.totals.wire_total sinks (buffer_count printed.nodes)
    ++ delays_words printed.totals ++ limits_words (greatest_slew printed.nodes) printed.totals ++ skew_words printed.totals
    ++ arrivals_words printed.totals.arrivals ++ classes_words start
