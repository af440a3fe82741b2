-- The text for a synthesis: the report of its tree, or one line where it has none. For edits their history stands before it.
use Rattle.std.specs.Prelude.{◌≡◌, ◌≤◌, ℕ, List, ◌++◌, codes}
use Rattle.cts_instance.specs.declared.parts.Parts.{Parts}
use Rattle.cts_instance.specs.declared.version.Version.{Version}
use Rattle.cts_instance.specs.Validity.{IsValid}
use Rattle.cts_tree.specs.declared.nodes.TreeNode.{TreeNode}
use Rattle.cts_elmore.specs.declared.figures.Figures.{Figures}
use Rattle.cts_elmore.specs.Figures.{AreFigures}
use Rattle.cts_elmore.specs.Sound.{IsSound}
use Rattle.cts_plain.specs.Synthesis.{Synthesis, made, beyond, cut, IsSynthesis}
use Rattle.cts_check.specs.declared.verdict.Verdict.TheVariants.{Yes}
use Rattle.cts_check.specs.Verdict.{IsVerdict}
use Rattle.cts_top.specs.declared.stop.Answer.{Answer}
use Rattle.cts_top.specs.declared.stop.Answer.TheVariants as answer
use Rattle.cts_report.specs.Report.{report_text, summary_text}
use Rattle.cts_top.specs.declared.answer.Telling.{Telling}
use Rattle.cts_top.specs.declared.answer.Telling.TheVariants as telling
use Rattle.cts_history.specs.History.{history_text}
use Rattle.cts_top.specs.Log.{Log}
use Rattle.cts_notes.specs.Notes.{numbered}

-- a text of a tree with its figures, of an instance of some version
abbrev pub TreeText : Type 0
TreeText = Version → List TreeNode → Figures → List ℕ

-- a summary is the same in each version
abbrev pub summary_in : TreeText
summary_in version tree figures = summary_text tree figures

-- the text by which a tree is told
abbrev pub told_by : Telling → TreeText
told_by telling.Report = report_text
told_by telling.Summary = summary_in

-- A tree of an instance is told: it is sound, each figure is that of its definition, the skew is at most the bound, and the
-- verdict on its report is Yes.
pub record TellsTree (tell : TreeText) (i : Parts) (tree : List TreeNode) (text : List ℕ) : Type 0 where
  pub sound : IsSound i tree
  pub figures : Figures
  pub are_figures : AreFigures i tree figures
  pub skew_within : figures.skew ≤ figures.bound
  pub accepted : IsVerdict i (report_text i.version tree figures) Yes
  pub told : text ≡ tell i.version tree figures

-- the line that says at which node there is no tree
unfoldable pub no_tree_text : List ℕ → ℕ → List ℕ
no_tree_text why node = codes "no tree: " ++ why ++ numbered (codes " at node ") node ++ codes "\n"

-- the text for a synthesis
abbrev pub IsTextOf : TreeText → Parts → Synthesis → List ℕ → Type 0
IsTextOf tell i (made tree) text = TellsTree tell i tree text
IsTextOf tell i (beyond node) text = text ≡ no_tree_text (codes "beyond") node
IsTextOf tell i (cut node) text = text ≡ no_tree_text (codes "cut") node

-- which of the two kinds it is
abbrev pub answer_of : Synthesis → Answer
answer_of (made tree) = answer.Text
answer_of (beyond node) = answer.NoTree
answer_of (cut node) = answer.NoTree

-- The text for a synthesis of a valid instance, and its kind, where `Comes` says what that synthesis comes to.
pub record TellsComing (Comes : Synthesis → Type 0) (tell : TreeText) (i : Parts) (kind : Answer) (text : List ℕ) : Type 0 where
  pub valid : IsValid i
  pub synthesis : Synthesis
  pub comes : Comes synthesis
  pub kind_is : kind ≡ answer_of synthesis
  pub is_text : IsTextOf tell i synthesis text

-- the text for the synthesis of a valid instance, and its kind
abbrev pub TellsSynthesis : TreeText → Parts → Answer → List ℕ → Type 0
TellsSynthesis tell i = TellsComing (IsSynthesis i) tell i

-- The text for the edits of callers, and its kind: their history with the replies to each caller, and then the text for a
-- synthesis of the version after it, in which there is no caller and no memo.
pub record TellsEdits (version : Parts) (log : Log) (kind : Answer) (text : List ℕ) : Type 0 where
  pub report : List ℕ
  pub tells : TellsSynthesis report_text version kind report
  pub told : text ≡ history_text log.history log.replies ++ report
