-- A whole report, as the types of the code hold it, and what a reading of bytes says.
use Rattle.std.specs.Prelude.{◌≡◌, ℕ, ◌+◌, ◌≤◌, ◌^◌, List, [], ◌∷◌, length, All}
use Rattle.cts_instance.specs.declared.version.Version.{Version}
use Rattle.cts_report.specs.Lines.{report_lines}
use Rattle.cts_report.specs.Printed.{Printed}
use Rattle.cts_report_reader.specs.declared.form.Form.{Form}
use Rattle.cts_report_reader.specs.declared.report.Report.{Report}
use Rattle.cts_report_reader.specs.declared.report.Reading.{Reading}
use Rattle.cts_report_reader.specs.declared.report.Reading.TheVariants.{Text, NotText}
use Rattle.cts_report_reader.specs.Bounds.{IsReport}
use Rattle.cts_report_reader.specs.Forms.{arrival_count}
use Rattle.cts_report_reader.specs.Nodes.{IsSeenNode, seen_nodes}
use Rattle.cts_report_reader.specs.Text.{Spells, IsNotText}
use Rattle.cts_report_reader.specs.Totals.{seen_totals}

abbrev pub seen_report : Report → Printed
seen_report report = record { nodes = seen_nodes report.nodes.items; totals = seen_totals report.totals }

-- The bytes are the text of what this report prints; or they are the text of no report of this form, and this is the first
-- line with which none begins.
abbrev pub IsReading : Form → List ℕ → Reading → Type 0
IsReading form bytes (Text report) = Spells (IsReport form) (report_lines form.version) bytes (seen_report report)
IsReading form bytes (NotText line) = IsNotText (IsReport form) (report_lines form.version) bytes line

-- its nodes have places and corners as a die can have
abbrev pub IsSeenReading : Reading → Type 0
IsSeenReading (Text report) = All IsSeenNode report.nodes.items
IsSeenReading (NotText line) = Unit {0}

-- what a report that was read is, where these bytes follow its last line
abbrev pub IsEnd : Version → Report → List ℕ → Reading → Type 0
IsEnd version report [] (Text same) = same ≡ report
IsEnd version report [] (NotText line) = ⊥
IsEnd version report (byte ∷ rest) (Text same) = ⊥
IsEnd version report (byte ∷ rest) (NotText line) = line ≡ length report.nodes.items + 12 + arrival_count version

-- bytes are the text of one report at most
abbrev pub ReportIsUnique : Type 0
ReportIsUnique =
    (form : Form) (bytes : List ℕ) (printed other : Printed) → form.buffers ≤ 2 ^ 16
    → Spells (IsReport form) (report_lines form.version) bytes printed
    → Spells (IsReport form) (report_lines form.version) bytes other → printed ≡ other

-- bytes that are the text of no report go wrong at one line
abbrev pub FirstLineIsOne : Type 0
FirstLineIsOne =
    (form : Form) (bytes : List ℕ) (line other : ℕ) → IsNotText (IsReport form) (report_lines form.version) bytes line
    → IsNotText (IsReport form) (report_lines form.version) bytes other → line ≡ other
