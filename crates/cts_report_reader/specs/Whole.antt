-- A report read line by line.
use Rattle.std.specs.Prelude.{ℕ, zero, suc, ◌+◌, Bool, List, [], ◌∷◌, codes, Option, Some, None, Result, Ok, Err}
use Rattle.cts_postorder.specs.Stack.{stack_after}
use Rattle.cts_instance.specs.declared.version.Version.{Version}
use Rattle.cts_instance.specs.declared.version.Version.TheVariants.{One, Two}
use Rattle.cts_report.specs.Lines.{title_line}
use Rattle.cts_report.specs.Printed.{PrintedNode, PrintedArrivals, PrintedTotals, Printed}
use Rattle.cts_report_reader.specs.declared.form.Form.{Form}
use Rattle.cts_report_reader.specs.Bounds.{printed_children}
use Rattle.cts_report_reader.specs.Forms.{arrival_count}
use Rattle.cts_report_reader.specs.Lines.{answer_at, count_at, figure_at}
use Rattle.cts_report_reader.specs.NodeLine.{node_at}
use Rattle.cts_report_reader.specs.Reader.{LinesReader, PartReader, ◌>>=◌, at_line}
use Rattle.cts_report_reader.specs.Words.{word_at}

-- a line, which comes after `at` others
abbrev pub line_at : {A : Type 0} → ℕ → PartReader A → LinesReader A
line_at at read bytes = at_line at (read bytes)

-- some lines and then others
abbrev pub both_lines : {A B : Type 0} → LinesReader A → LinesReader B → LinesReader (A × B)
both_lines first second bytes = first bytes >>= λ a. second a.1 >>= λ b. Ok ((a.0, b.0), b.1)

abbrev pub mapped_lines : {A C : Type 0} → (A → C) → LinesReader A → LinesReader C
mapped_lines to read bytes = read bytes >>= λ a. Ok (to a.0, a.1)

-- The lines of the nodes from number k on, so many of them, where these trees stand on the stack. Two lines stand before
-- those of all nodes.
unfoldable pub nodes_at : Form → ℕ → ℕ → List ℕ → LinesReader (List PrintedNode)
nodes_at form zero k stack bytes = Ok ([], bytes)
nodes_at form (suc todo) k stack bytes =
    line_at (k + 2) (node_at form k stack todo) bytes
    >>= λ node. mapped_lines (λ nodes. node.0 ∷ nodes) (nodes_at form todo (k + 1) (stack_after (printed_children node.0) stack k)) node.1

-- what the lines from the skew on, from the least delay on, and all on the whole tree tell
abbrev pub ClosingFound : Type 0
ClosingFound = ℕ × (ℕ × (Bool × (Bool × Unit)))

abbrev pub LaterFound : Type 0
LaterFound = ℕ × (Option PrintedArrivals × ClosingFound)

abbrev pub TotalsFound : Type 0
TotalsFound = ℕ × (ℕ × (ℕ × LaterFound))

abbrev pub totals_of : TotalsFound → PrintedTotals
totals_of found = record {
  source_load = found.0;
  wire_total = found.1.0;
  greatest = found.1.1.0;
  least = found.1.1.1.0;
  arrivals = found.1.1.1.1.0;
  skew = found.1.1.1.1.1.0;
  bound = found.1.1.1.1.1.1.0;
  load_met = found.1.1.1.1.1.1.1.0;
  slew_met = found.1.1.1.1.1.1.1.1.0;
}

abbrev pub arrivals_of_two : ℕ × ℕ → Option PrintedArrivals
arrivals_of_two found = Some (record { greatest = found.0; least = found.1 })

-- the lines of the greatest and the least arrival, which version 1 has not
unfoldable pub arrivals_at : Version → ℕ → LinesReader (Option PrintedArrivals)
arrivals_at One at bytes = Ok (None, bytes)
arrivals_at Two at bytes =
    mapped_lines arrivals_of_two
    (both_lines (line_at at (figure_at (codes "arrival greatest ") 16)) (line_at (at + 1) (figure_at (codes "arrival least ") 16))) bytes

-- the lines from the skew on, which have `at` lines before them
unfoldable pub closing_at : ℕ → LinesReader ClosingFound
closing_at at =
    both_lines (line_at at (figure_at (codes "skew ") 16))
    (both_lines (line_at (at + 1) (figure_at (codes "bound ") 16))
    (both_lines (line_at (at + 2) (answer_at (codes "load met")))
    (both_lines (line_at (at + 3) (answer_at (codes "slew met"))) (line_at (at + 4) (word_at (codes "end\n"))))))

-- the lines from the least delay on
unfoldable pub later_at : Version → ℕ → LinesReader LaterFound
later_at version at =
    both_lines (line_at at (figure_at (codes "delay least ") 16))
    (both_lines (arrivals_at version (at + 1)) (closing_at (at + 1 + arrival_count version)))

-- the lines on the whole tree
unfoldable pub totals_at : Version → ℕ → LinesReader PrintedTotals
totals_at version at =
    mapped_lines totals_of
    (both_lines (line_at at (figure_at (codes "source load ") 6))
    (both_lines (line_at (at + 1) (figure_at (codes "wire total ") 3))
    (both_lines (line_at (at + 2) (figure_at (codes "delay greatest ") 16)) (later_at version (at + 3)))))

abbrev pub printed_of_two : List PrintedNode × PrintedTotals → Printed
printed_of_two found = record { nodes = found.0; totals = found.1 }

-- the report of these nodes and of what is found after them
abbrev pub after_nodes : List PrintedNode → Result (PrintedTotals × List ℕ) ℕ → Result (Printed × List ℕ) ℕ
after_nodes nodes (Ok found) = Ok (record { nodes = nodes; totals = found.0 }, found.1)
after_nodes nodes (Err line) = Err line

-- so many nodes, and then the lines on the whole tree
unfoldable pub body_at : Form → ℕ → LinesReader Printed
body_at form count =
    mapped_lines printed_of_two (both_lines (nodes_at form count 0 []) (totals_at form.version (count + 2)))

-- the whole report, up to its last line
unfoldable pub report_at : Form → LinesReader Printed
report_at form bytes =
    line_at 0 (word_at (title_line form.version)) bytes
    >>= λ title. line_at 1 count_at title.1
    >>= λ count. body_at form count.0 count.1
