-- The text for a synthesis over the nearest-pair topology: the report of its tree, or one line where there is none.
use Rattle.std.specs.Prelude.{◌≡◌, ℕ, List, ◌++◌, codes}
use Rattle.cts_instance.specs.declared.parts.Parts.{Parts}
use Rattle.cts_instance.specs.Validity.{IsValid}
use Rattle.cts_report.specs.Report.{report_text}
use Rattle.cts_near.specs.Synthesis.{NearSynthesis, at_step, over, ComesNear}
use Rattle.cts_notes.specs.Notes.{numbered}
use Rattle.cts_top.specs.declared.stop.Answer.{Answer}
use Rattle.cts_top.specs.declared.stop.Answer.TheVariants as answer
use Rattle.cts_top.specs.Text.{IsTextOf, answer_of}

-- the line that says at which step there is no topology
unfoldable pub no_step_text : ℕ → List ℕ
no_step_text step = numbered (codes "no tree: beyond at step ") step ++ codes "\n"

-- the text for what an instance comes to
abbrev pub IsNearTextOf : Parts → NearSynthesis → List ℕ → Type 0
IsNearTextOf i (at_step step) text = text ≡ no_step_text step
IsNearTextOf i (over synthesis) text = IsTextOf report_text i synthesis text

-- which of the two kinds it is
abbrev pub near_answer_of : NearSynthesis → Answer
near_answer_of (at_step step) = answer.NoTree
near_answer_of (over synthesis) = answer_of synthesis

-- the text for the synthesis of a valid instance over its nearest-pair topology, and its kind
pub record TellsNear (i : Parts) (kind : Answer) (text : List ℕ) : Type 0 where
  pub valid : IsValid i
  pub outcome : NearSynthesis
  pub comes : ComesNear i outcome
  pub kind_is : kind ≡ near_answer_of outcome
  pub is_text : IsNearTextOf i outcome text

-- the kind, told without the text
abbrev pub IsNearKind : Parts → Answer → Type 0
IsNearKind i kind = (outcome : NearSynthesis) × ComesNear i outcome × (kind ≡ near_answer_of outcome)
