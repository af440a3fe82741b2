-- A whole report.
use Rattle.std.proofs.Common.{◌≡◌, ℕ, ◌+◌, ◌/◌, ◌^◌, ◌≤◌, true, List, [], ◌∷◌, ◌++◌, length, map, refl, ap, ◌∙◌, arith}
use Rattle.std.proofs.lemmas.List.{length-map}
use Rattle.cts_postorder.specs.Stack.{IsOpen}
use Rattle.cts_postorder.proofs.Stacks.{post_counts}
use Rattle.cts_instance.specs.declared.version.Version.{Version}
use Rattle.cts_report.specs.Lines.{title_line, count_line, node_lines, total_lines, report_lines}
use Rattle.cts_report.specs.Printed.{PrintedNode, PrintedTotals, Printed}
use Rattle.cts_report_reader.specs.declared.form.Form.{Form}
use Rattle.cts_report_reader.specs.Reader.{IsPiece, ◌>>=◌}
use Rattle.cts_report_reader.specs.Bounds.{IsReport, IsPrintedTotals, printed_children}
use Rattle.cts_report_reader.specs.Lines.{count_at}
use Rattle.cts_report_reader.specs.Whole.{line_at, nodes_at, totals_at, printed_of_two, body_at, report_at}
use Rattle.cts_report_reader.specs.Words.{word_at}
use Rattle.cts_report_reader.proofs.Pieces.{line_piece, bind_piece}
use Rattle.cts_report_reader.proofs.Labels.{word_part}
use Rattle.cts_report_reader.proofs.LineParts.{CountFits, count_part}
use Rattle.cts_report_reader.proofs.LinesPieces.{map_piece, both_piece}
use Rattle.cts_report_reader.proofs.TotalPieces.{some_arrivals, some_arrivals_fit, totals_piece}
use Rattle.cts_report_reader.proofs.NodePieces.{AreNumbers, NodesFit, nodes_piece, some_nodes, length-node_lines}

no_totals : Version → PrintedTotals
no_totals version = record {
  source_load = 0;
  wire_total = 0;
  greatest = 0;
  least = 0;
  arrivals = some_arrivals version;
  skew = 0;
  bound = 0;
  load_met = true;
  slew_met = true;
}

no_totals_fit : (version : Version) → IsPrintedTotals version (no_totals version)
unfolding no_totals
no_totals_fit version = record {
  source_load = omega arith;
  wire_total = omega arith;
  greatest = omega arith;
  least = omega arith;
  arrivals = some_arrivals_fit version;
  skew = omega arith;
  bound = omega arith;
}

count_open : (count : ℕ) → CountFits count → IsOpen [] count
count_open count h = record { leaves = (count + 1) / 2; count = omega (arith, h.odd) }

no_numbers : AreNumbers []
unfolding AreNumbers
no_numbers = tt

-- a report of so many nodes
record Counted (form : Form) (count : ℕ) (printed : Printed) : Type 0 where
  long : length printed.nodes ≡ count
  report : IsReport form printed

nodes_counted : (form : Form) (printed : Printed) → IsReport form printed → CountFits (length printed.nodes)
nodes_counted form printed h =
    let counted = post_counts (map printed_children printed.nodes) [] 0 h.post_order in
    record { few = h.few; odd = omega (arith, counted.count, length-map printed.nodes printed_children) }

to_counted : (form : Form) (count : ℕ) (nodes : List PrintedNode) (totals : PrintedTotals) → CountFits count → NodesFit form count 0 [] nodes → IsPrintedTotals form.version totals
    → Counted form count (printed_of_two (nodes, totals))
to_counted form count nodes totals fits h t = record {
  long = h.long;
  report = record { post_order = h.reads; few = omega (arith, h.long, fits.few); each = h.each; totals = t };
}

some_counted : (form : Form) (count : ℕ) → CountFits count → (printed : Printed) × Counted form count printed
some_counted form count fits =
    let w = some_nodes form count 0 [] (count_open count fits) in (
      printed_of_two (w.0, no_totals form.version),
      to_counted form count (w.0) (no_totals form.version) fits (w.1) (no_totals_fit form.version),
    )

body_piece : (form : Form) (count : ℕ) → form.buffers ≤ 2 ^ 16 → CountFits count
    → IsPiece (Counted form count) (λ printed. node_lines 0 printed.nodes ++ total_lines printed.totals) 2
    (body_at form count)
unfolding body_at
body_piece form count few fits =
    map_piece (λ (c : List PrintedNode × PrintedTotals). NodesFit form count 0 [] c.0 × IsPrintedTotals form.version c.1) (λ c. node_lines 0 c.0 ++ total_lines c.1) _ 2
    (Counted form count) (λ printed. node_lines 0 printed.nodes ++ total_lines printed.totals) printed_of_two (λ printed. (printed.nodes, printed.totals))
    (both_piece (NodesFit form count 0 []) (node_lines 0) (nodes_at form count 0 []) 2 count (count + 2) (IsPrintedTotals form.version) total_lines (totals_at form.version (count + 2))
    (nodes_piece form few count 0 [] (omega (arith, fits.few)) no_numbers (count_open count fits))
    (λ nodes h. length-node_lines nodes 0 ∙ h.long) (omega arith) (totals_piece form.version (count + 2)) (no_totals form.version) (no_totals_fit form.version))
    (λ c h. (to_counted form count c.0 c.1 fits h.0 h.1, refl))
    (λ printed h. ((record { long = h.long; reads = h.report.post_order; each = h.report.each }, h.report.totals), refl))

counted_piece : (form : Form) → form.buffers ≤ 2 ^ 16
    → IsPiece (IsReport form) (λ printed. count_line (length printed.nodes) ∷ (node_lines 0 printed.nodes ++ total_lines printed.totals)) 1
    (λ bytes. line_at 1 count_at bytes >>= λ count. body_at form count.0 count.1)
counted_piece form few =
    bind_piece CountFits (λ count. count_line count ∷ []) (line_at 1 count_at) 1 1 2
    (IsReport form) (λ printed. count_line (length printed.nodes) ∷ (node_lines 0 printed.nodes ++ total_lines printed.totals))
    (Counted form) (λ printed. node_lines 0 printed.nodes ++ total_lines printed.totals)
    (body_at form) (λ printed. length printed.nodes)
    (line_piece CountFits count_line count_at count_part 1 1 (record { few = omega arith; odd = refl }))
    (λ count fits. refl) refl
    (λ count fits. body_piece form count few fits)
    (λ count printed fits h. (h.report, ap (λ n. count_line n ∷ (node_lines 0 printed.nodes ++ total_lines printed.totals)) h.long))
    (λ printed h. (nodes_counted form printed h, record { long = refl; report = h }))
    (some_counted form)

some_report : (form : Form) → (printed : Printed) × IsReport form printed
some_report form =
    let w = some_counted form 1 (record { few = omega arith; odd = refl }) in (w.0, w.1.report)

pub report_piece : (form : Form) → form.buffers ≤ 2 ^ 16 → IsPiece (IsReport form) (report_lines form.version) 0 (report_at form)
unfolding report_at report_lines
report_piece form few =
    let title : List ℕ = title_line form.version in
    bind_piece (λ (_ : Unit {0}). Unit {0}) (λ _. title ∷ []) (line_at 0 (word_at title)) 0 1 1
    (IsReport form) (report_lines form.version) (λ _. IsReport form) (λ printed. count_line (length printed.nodes) ∷ (node_lines 0 printed.nodes ++ total_lines printed.totals))
    (λ _ bytes. line_at 1 count_at bytes >>= λ count. body_at form count.0 count.1) (λ _. tt)
    (line_piece (λ (_ : Unit {0}). Unit {0}) (λ _. title) (word_at title) (word_part title) 0 tt tt)
    (λ _ fits. refl) refl (λ _ fits. counted_piece form few)
    (λ _ printed fits h. (h, refl)) (λ printed h. (tt, h)) (λ _ fits. some_report form)
