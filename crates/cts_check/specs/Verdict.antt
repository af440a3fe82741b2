-- The verdict on some bytes as the report of an instance.
use Rattle.std.specs.Prelude.{ℕ, List, map}
use Rattle.cts_postorder.specs.PostOrder.{IsPostOrder}
use Rattle.cts_tree.specs.declared.nodes.TreeNode.{TreeNode}
use Rattle.cts_tree.specs.Nodes.{tree_children}
use Rattle.cts_instance.specs.declared.parts.Parts.{Parts}
use Rattle.cts_elmore.specs.declared.figures.Figures.{Figures}
use Rattle.cts_elmore.specs.Figures.{AreFigures}
use Rattle.cts_elmore.specs.Fits.{FitsInstance}
use Rattle.cts_elmore.specs.Sound.{IsSound}
use Rattle.cts_report.specs.Lines.{report_lines}
use Rattle.cts_report.specs.Printed.{Printed}
use Rattle.cts_report.specs.Report.{printed_report}
use Rattle.cts_report_reader.specs.Bounds.{IsReport}
use Rattle.cts_report_reader.specs.Forms.{form_of}
use Rattle.cts_report_reader.specs.Text.{IsNotText}
use Rattle.cts_report_reader.specs.Text.{Spells as SpellsText}
use Rattle.cts_check.specs.declared.verdict.Rule.{Rule}
use Rattle.cts_check.specs.declared.verdict.Verdict.{Verdict}
use Rattle.cts_check.specs.declared.verdict.Verdict.TheVariants.{Yes, NotText, Wrong}
use Rattle.cts_check.specs.Rules.{IsFirstBroken}

-- the bytes are the text of this report, of this instance
abbrev pub Spells : Parts → List ℕ → Printed → Type 0
Spells i bytes printed = SpellsText (IsReport (form_of i)) (report_lines i.version) bytes printed

-- The bytes are the report of a sound tree of the instance, and each figure is that of its definition.
pub record IsRight (i : Parts) (bytes : List ℕ) : Type 0 where
  pub tree : List TreeNode
  pub post_order : IsPostOrder (map tree_children tree)
  pub fits : FitsInstance i tree
  pub sound : IsSound i tree
  pub figures : Figures
  pub are_figures : AreFigures i tree figures
  pub spells : Spells i bytes (printed_report i.version tree figures)

-- They are the text of a report that breaks a rule.
pub record IsWrong (i : Parts) (bytes : List ℕ) (rule : Rule) (node : ℕ) : Type 0 where
  pub printed : Printed
  pub spells : Spells i bytes printed
  pub first : IsFirstBroken i printed rule node

abbrev pub IsVerdict : Parts → List ℕ → Verdict → Type 0
IsVerdict i bytes Yes = IsRight i bytes
IsVerdict i bytes (NotText line) = IsNotText (IsReport (form_of i)) (report_lines i.version) bytes line
IsVerdict i bytes (Wrong rule node) = IsWrong i bytes rule node
