-- Stretches of the nodes of a report, and the pages with their lines.
use Rattle.std.specs.Prelude.{◌≡◌, ℕ, ◌+◌, ◌*◌, ◌<◌, List, length, take, drop, slice_index_or, All}
use Rattle.std.specs.List.{concat}
use Rattle.cts_report.specs.Lines.{node_lines}
use Rattle.cts_report.specs.Report.{IsPrintableFigure, IsPrintableNode, printed_nodes}
use Rattle.cts_report_workers.specs.declared.body.Body.{Body}
use Rattle.cts_report_workers.specs.declared.page.Page.{Page}

-- Each node can be printed with its figures.
pub record IsPrintableBody (body : Body) : Type 0 where
  pub long : length body.figures.now ≡ length body.nodes.now
  pub each_node : All IsPrintableNode body.nodes.now
  pub each_figure : All IsPrintableFigure body.figures.now

-- the lines of so many nodes from a number on, or of all from there on where these are fewer
abbrev pub stretch_text : Body → ℕ → ℕ → List ℕ
stretch_text body first count =
    concat (node_lines first (printed_nodes body.version (take count (drop first body.nodes.now)) (take count (drop first body.figures.now))))

-- a page to which this text was written has it, unless it failed
abbrev pub Says : Page → List ℕ → Type 0
Says page text = page.faults ≡ 0 → page.text.items ≡ text

-- so the pages of a round: each of them is for a stretch, and the first stretch begins at this number
abbrev pub AreFilled : Body → ℕ → ℕ → List Page → Type 0
AreFilled body first stretch pages =
    (number : ℕ) (page : Page) → number < length pages
    → Says (slice_index_or pages number page) (stretch_text body (first + number * stretch) stretch)
