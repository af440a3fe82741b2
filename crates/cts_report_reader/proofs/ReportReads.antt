-- A whole report, as the code reads it.
use Rattle.std.proofs.Common.{◌≡◌, ℕ, ◌+◌, ◌^◌, ◌≤◌, List, [], ◌∷◌, length, Result, Ok, Err, refl, sym, ap, ap₂, ◌∙◌, subst, arith, length-append}
use Rattle.std.specs.Borrow.{Bor}
use Rattle.std.proofs.lemmas.List.{length-map}
use Rattle.cts_num.specs.declared.error.NoMemory.{NoMemory}
use Rattle.cts_instance.specs.declared.version.Version.{Version}
use Rattle.cts_report.specs.Lines.{node_lines, arrival_lines, closing_lines, total_lines, report_lines}
use Rattle.cts_report.specs.Printed.{PrintedTotals, Printed}
use Rattle.cts_report_reader.specs.declared.form.Form.{Form}
use Rattle.cts_report_reader.specs.declared.report.Report.{Report}
use Rattle.cts_report_reader.specs.declared.report.Reading.{Reading}
use Rattle.cts_report_reader.specs.declared.report.Reading.TheVariants.{Text, NotText}
use Rattle.cts_report_reader.specs.Bounds.{IsPrintedTotals, IsReport}
use Rattle.cts_report_reader.specs.Forms.{arrival_count}
use Rattle.cts_report_reader.specs.Nodes.{seen_node}
use Rattle.cts_report_reader.specs.Reader.{◌>>=◌, to_the_end, whole_of, IsWholeReading}
use Rattle.cts_report_reader.specs.Reports.{seen_report, IsReading, IsEnd}
use Rattle.cts_report_reader.specs.Seen.{FindsLines}
use Rattle.cts_report_reader.specs.Totals.{seen_totals}
use Rattle.cts_report_reader.specs.Whole.{report_at}
use Rattle.cts_report_reader.proofs.NodePieces.{length-node_lines}
use Rattle.cts_report_reader.proofs.ReportPieces.{report_piece}
use Rattle.cts_report_reader.proofs.TotalPieces.{length-arrival_lines}
use Rattle.cts_report_reader.proofs.Wholes.{whole_told}

length-total_lines : (version : Version) (t : PrintedTotals) → IsPrintedTotals version t → length (total_lines t) ≡ 9 + arrival_count version
unfolding total_lines closing_lines
length-total_lines version t fits =
    omega (arith, length-append (arrival_lines t.arrivals) (closing_lines t), length-arrival_lines version t.arrivals fits.arrivals)

length-report_lines : (version : Version) (printed : Printed) → IsPrintedTotals version printed.totals
    → length (report_lines version printed) ≡ length printed.nodes + 11 + arrival_count version
unfolding report_lines
length-report_lines version printed fits =
    omega (arith, length-append (node_lines 0 printed.nodes) (total_lines printed.totals), length-node_lines printed.nodes 0, length-total_lines version printed.totals fits)

lines_are : (version : Version) (report : Report) → IsPrintedTotals version (seen_totals report.totals)
    → length (report_lines version (seen_report report)) + 1 ≡ length report.nodes.items + 12 + arrival_count version
lines_are version report fits =
    omega (arith, length-report_lines version (seen_report report) fits, length-map report.nodes.items seen_node)

whole_is : (form : Form) (bytes : List ℕ) (o : Result (Printed × List ℕ) ℕ) → report_at form bytes ≡ o
    → whole_of (report_lines form.version) (report_at form) bytes ≡ (o >>= λ x. to_the_end (report_lines form.version) x.0 x.1)
unfolding whole_of
whole_is form bytes (Ok x) e = rw e refl
whole_is form bytes (Err line) e = rw e refl

told : (form : Form) (bytes : List ℕ) (r : Result Printed ℕ) → form.buffers ≤ 2 ^ 16 → whole_of (report_lines form.version) (report_at form) bytes ≡ r
    → IsWholeReading (IsReport form) (report_lines form.version) bytes r
told form bytes r few e =
    subst (IsWholeReading (IsReport form) (report_lines form.version) bytes) e (whole_told (IsReport form) (report_lines form.version) (report_at form) (report_piece form few) bytes)

missed_is : (line : ℕ) (right : Result (Printed × List ℕ) ℕ) → FindsLines {T = Report} {E = NoMemory} seen_report (Ok (Err line)) right → right ≡ Err line
missed_is line (Ok x) h = absurd h
missed_is line (Err l) h = ap Err (sym h)

found_lines_is : (report : Report) (rest : Bor (List ℕ)) (right : Result (Printed × List ℕ) ℕ) → FindsLines {E = NoMemory} seen_report (Ok (Ok (report, rest))) right
    → right ≡ Ok (seen_report report, rest.now)
found_lines_is report rest (Ok x) h = ap Ok (ap₂ (λ a b. (a, b)) (sym h.0) (sym h.1))
found_lines_is report rest (Err l) h = absurd h

pub read_missed : (form : Form) (bytes : List ℕ) (line : ℕ) → form.buffers ≤ 2 ^ 16
    → FindsLines {T = Report} {E = NoMemory} seen_report (Ok (Err line)) (report_at form bytes) → IsReading form bytes (NotText line)
read_missed form bytes line few h =
    let e = missed_is line (report_at form bytes) h in
    told form bytes (Err line) few (whole_is form bytes (Err line) e)

end_read : (form : Form) (bytes : List ℕ) (report : Report) (rest : List ℕ) (reading : Reading) → form.buffers ≤ 2 ^ 16
    → report_at form bytes ≡ Ok (seen_report report, rest) → IsEnd form.version report rest reading → IsReading form bytes reading
end_read form bytes report [] (Text same) few e h =
    subst (λ r. IsReading form bytes (Text r)) (sym h) (told form bytes (Ok (seen_report report)) few (whole_is form bytes (Ok (seen_report report, [])) e))
end_read form bytes report [] (NotText line) few e h = absurd h
end_read form bytes report (byte ∷ rest) (Text same) few e h = absurd h
end_read form bytes report (byte ∷ rest) (NotText line) few e h =
    let fits = ((report_piece form few).takes bytes (seen_report report) (byte ∷ rest) e).0.totals in
    subst (λ l. IsReading form bytes (NotText l)) (lines_are form.version report fits ∙ sym h)
    (told form bytes (Err (length (report_lines form.version (seen_report report)) + 1)) few (whole_is form bytes (Ok (seen_report report, byte ∷ rest)) e))

pub read_found : (form : Form) (bytes : List ℕ) (report : Report) (rest : Bor (List ℕ)) (reading : Reading) → form.buffers ≤ 2 ^ 16
    → FindsLines {E = NoMemory} seen_report (Ok (Ok (report, rest))) (report_at form bytes) → IsEnd form.version report rest.now reading → IsReading form bytes reading
read_found form bytes report rest reading few h end = end_read form bytes report rest.now reading few (found_lines_is report rest (report_at form bytes) h) end
