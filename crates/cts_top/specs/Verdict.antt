-- The line for a verdict on a report.
use Rattle.std.specs.Prelude.{◌≡◌, ℕ, List, ◌++◌, codes}
use Rattle.cts_instance.specs.declared.parts.Parts.{Parts}
use Rattle.cts_instance.specs.Validity.{IsValid}
use Rattle.cts_check.specs.declared.verdict.Rule.{Rule}
use Rattle.cts_check.specs.declared.verdict.Rule.TheVariants.{Sinks, Route, Short, BufferBlocked, Limit, Figure}
use Rattle.cts_check.specs.declared.verdict.Verdict.{Verdict}
use Rattle.cts_check.specs.declared.verdict.Verdict.TheVariants.{Yes, NotText, Wrong}
use Rattle.cts_check.specs.Verdict.{IsVerdict}
use Rattle.cts_top.specs.declared.stop.Answer.{Answer}
use Rattle.cts_top.specs.declared.stop.Answer.TheVariants as answer
use Rattle.cts_notes.specs.Notes.{numbered}

unfoldable pub rule_words : Rule → List ℕ
rule_words Sinks = codes "sinks"
rule_words Route = codes "route"
rule_words Short = codes "short"
rule_words BufferBlocked = codes "buffer blocked"
rule_words Limit = codes "limit"
rule_words Figure = codes "figure"

unfoldable pub verdict_text : Verdict → List ℕ
verdict_text Yes = codes "yes\n"
verdict_text (NotText line) = numbered (codes "no: line ") line ++ codes "\n"
verdict_text (Wrong rule node) = codes "no: rule " ++ rule_words rule ++ numbered (codes " at node ") node ++ codes "\n"

-- which of the two kinds it is
abbrev pub answer_of_verdict : Verdict → Answer
answer_of_verdict Yes = answer.Text
answer_of_verdict (NotText line) = answer.No
answer_of_verdict (Wrong rule node) = answer.No

-- The line for the verdict on some bytes as the report of a valid instance, and its kind.
pub record TellsVerdict (i : Parts) (report : List ℕ) (kind : Answer) (text : List ℕ) : Type 0 where
  pub valid : IsValid i
  pub verdict : Verdict
  pub is_verdict : IsVerdict i report verdict
  pub kind_is : kind ≡ answer_of_verdict verdict
  pub told : text ≡ verdict_text verdict
