-- The lines of a report, each with its line feed, as a function of what is printed. Only the first line looks at the
-- version: the rest follows from what is printed, and in version 1 no arrival is.
use Rattle.std.specs.Prelude.{ℕ, ◌+◌, Bool, if◌then◌else◌, List, [], ◌∷◌, ◌++◌, length, codes, Option, Some, None}
use Rattle.std.specs.List.{flat_map, concat}
use Rattle.cts_num.specs.Decimal.{decimal_text}
use Rattle.cts_instance.specs.declared.version.Version.{Version}
use Rattle.cts_instance.specs.declared.version.Version.TheVariants.{One, Two}
use Rattle.cts_report.specs.Printed.{PrintedPoint, PrintedKind, sink_leaf, pair_node, PrintedNode, PrintedArrivals, PrintedTotals, Printed}

-- a label, and then a number at its places
unfoldable pub labelled : List ℕ → ℕ → ℕ → List ℕ
labelled label places number = label ++ decimal_text places number

-- a whole number, a length in µm to the nm, a coordinate in µm, a capacitance in fF to the zF, a time in ps
unfoldable pub whole : List ℕ → ℕ → List ℕ
whole label = labelled label 0

unfoldable pub length_in_um : List ℕ → ℕ → List ℕ
length_in_um label = labelled label 3

unfoldable pub coordinate : List ℕ → ℕ → List ℕ
coordinate label = labelled label 4

unfoldable pub capacitance : List ℕ → ℕ → List ℕ
capacitance label = labelled label 6

unfoldable pub time : List ℕ → ℕ → List ℕ
time label = labelled label 16

unfoldable pub answer : List ℕ → Bool → List ℕ
answer label met = label ++ (if met then codes " yes\n" else codes " no\n")

-- x and then y, each after a space
unfoldable pub point_words : PrintedPoint → List ℕ
point_words p = coordinate (codes " ") p.x ++ coordinate (codes " ") p.y

-- the number of corners, and then the corners from the upper end of the wire to the node
unfoldable pub corner_words : List PrintedPoint → List ℕ
corner_words corners = whole (codes " via ") (length corners) ++ flat_map point_words corners

-- what a node is: the id of its sink, or its left and right child
unfoldable pub name_words : PrintedKind → List ℕ
name_words (sink_leaf id) = whole (codes " leaf ") id
name_words (pair_node left right buffer residue) = whole (codes " pair ") left ++ whole (codes " ") right

unfoldable pub buffer_words : Option ℕ → List ℕ
buffer_words (Some index) = whole (codes " buffer ") index
buffer_words None = codes " buffer none"

-- the load, and before and after it what pairs alone have
unfoldable pub load_words : PrintedKind → ℕ → List ℕ
load_words (sink_leaf id) load = capacitance (codes " load ") load
load_words (pair_node left right buffer residue) load =
    buffer_words buffer ++ capacitance (codes " load ") load ++ time (codes " residue ") residue

-- the arrival, where it is printed
unfoldable pub arrival_words : Option ℕ → List ℕ
arrival_words None = []
arrival_words (Some arrival) = time (codes " arrival ") arrival

-- the line of the node of this number
unfoldable pub node_line : ℕ → PrintedNode → List ℕ
node_line number node =
    whole (codes "node ") number ++ name_words node.kind ++ codes " at" ++ point_words node.place
    ++ load_words node.kind node.load ++ time (codes " delay ") node.delay ++ arrival_words node.arrival
    ++ time (codes " slew ") node.slew ++ length_in_um (codes " wire ") node.wire ++ corner_words node.corners ++ codes "\n"

-- the lines of nodes that are numbered from `number` on
unfoldable pub node_lines : ℕ → List PrintedNode → List (List ℕ)
node_lines number [] = []
node_lines number (node ∷ nodes) = node_line number node ∷ node_lines (number + 1) nodes

-- the line that says how many nodes there are
unfoldable pub count_line : ℕ → List ℕ
count_line count = whole (codes "nodes ") count ++ codes "\n"

-- the greatest and the least arrival, where they are printed
unfoldable pub arrival_lines : Option PrintedArrivals → List (List ℕ)
arrival_lines None = []
arrival_lines (Some arrivals) =
    (time (codes "arrival greatest ") arrivals.greatest ++ codes "\n")
    ∷ (time (codes "arrival least ") arrivals.least ++ codes "\n")
    ∷ []

-- the lines from the skew on
unfoldable pub closing_lines : PrintedTotals → List (List ℕ)
closing_lines t =
    (time (codes "skew ") t.skew ++ codes "\n")
    ∷ (time (codes "bound ") t.bound ++ codes "\n")
    ∷ answer (codes "load met") t.load_met
    ∷ answer (codes "slew met") t.slew_met
    ∷ codes "end\n"
    ∷ []

-- the lines on the whole tree, and the last line
unfoldable pub total_lines : PrintedTotals → List (List ℕ)
total_lines t =
    (capacitance (codes "source load ") t.source_load ++ codes "\n")
    ∷ (length_in_um (codes "wire total ") t.wire_total ++ codes "\n")
    ∷ (time (codes "delay greatest ") t.greatest ++ codes "\n")
    ∷ (time (codes "delay least ") t.least ++ codes "\n")
    ∷ (arrival_lines t.arrivals ++ closing_lines t)

-- the first line of a report of this version
unfoldable pub title_line : Version → List ℕ
title_line One = codes "cts report 1\n"
title_line Two = codes "cts report 2\n"

-- the lines of a report of this version
unfoldable pub report_lines : Version → Printed → List (List ℕ)
report_lines version p =
    title_line version ∷ count_line (length p.nodes) ∷ (node_lines 0 p.nodes ++ total_lines p.totals)

-- the lines of a summary: how many nodes there are, and the figures of the whole tree
unfoldable pub summary_lines : ℕ → PrintedTotals → List (List ℕ)
summary_lines count totals = codes "cts job 1\n" ∷ count_line count ∷ total_lines totals

-- the text of some lines
abbrev pub text_of_lines : List (List ℕ) → List ℕ
text_of_lines lines = concat lines
