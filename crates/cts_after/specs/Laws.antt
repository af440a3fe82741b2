-- What holds of every input, and of what `edit` writes.
use Rattle.std.specs.Prelude.{◌≡◌, ℕ, List, ◌++◌}
use Rattle.cts_instance.specs.declared.parts.Parts.{Parts}
use Rattle.cts_instance.specs.Validity.{IsValid}
use Rattle.cts_tree.specs.declared.nodes.TreeNode.{TreeNode}
use Rattle.cts_elmore.specs.declared.figures.Figures.{Figures}
use Rattle.cts_elmore.specs.Figures.{AreFigures}
use Rattle.cts_plain.specs.Synthesis.{IsSynthesis, made}
use Rattle.cts_edit.specs.declared.edit.Entry.{Entry}
use Rattle.cts_edit.specs.Sound.{IsSound}
use Rattle.cts_history.specs.declared.reply.Reply.{Reply}
use Rattle.cts_history.specs.History.{history_text}
use Rattle.cts_history.specs.Opening.{IsHistory}
use Rattle.cts_report.specs.Report.{report_text}
use Rattle.cts_check.specs.declared.verdict.Verdict.TheVariants.{Yes}
use Rattle.cts_check.specs.Verdict.{IsVerdict}
use Rattle.cts_notes.specs.Front.{SpellsFront}
use Rattle.cts_notes.specs.declared.stop.Stop.{Stop}
use Rattle.cts_notes.specs.declared.stop.Stop.TheVariants as stop
use Rattle.cts_after.specs.declared.outcome.Outcome.{Outcome}
use Rattle.cts_after.specs.declared.outcome.Outcome.TheVariants.{Made}
use Rattle.cts_after.specs.declared.stop.NotHistory.{NotHistory}
use Rattle.cts_after.specs.Outcomes.{instance_after}
use Rattle.cts_after.specs.After.{ComesTo, Explains, SpellsBoth}

-- an input comes to one thing at most: an instance, or one number with one cause
abbrev pub OutcomeIsOne : Type 0
OutcomeIsOne = (bytes : List ℕ) (outcome other : Outcome) → ComesTo bytes outcome → ComesTo bytes other → outcome ≡ other

-- a run stops so for the input
abbrev pub IsRefusal : Stop NotHistory → Type 0
IsRefusal stop.TooLong = Unit
IsRefusal (stop.Refused line cause) = Unit
IsRefusal (stop.Own reason) = Unit
IsRefusal stop.Words = ⊥
IsRefusal stop.ReadFault = ⊥
IsRefusal stop.WriteFault = ⊥
IsRefusal stop.NoMemory = ⊥

-- no input is refused that spells an instance and a history
abbrev pub SpelledIsServed : Type 0
SpelledIsServed =
    (bytes : List ℕ) (i : Parts) (history : List Entry) (end : Stop NotHistory) → SpellsBoth bytes i history → Explains bytes end → ¬ IsRefusal end

-- An instance, and behind it what `edit` writes of a history that was accepted on it, with the report of a synthesis of the sinks
-- after that history: the input comes to the instance with these sinks, of which the report has the verdict Yes.
abbrev pub EditsGoOn : Type 0
EditsGoOn =
    (bytes : List ℕ) (i : Parts) (history : List Entry) (replies : List (List Reply)) (tree : List TreeNode) (figures : Figures)
    → IsValid i → IsSound i history → IsHistory history
    → let version = instance_after i history in
    let report = report_text version.version tree figures in
    IsSynthesis version (made tree) → AreFigures version tree figures
    → SpellsFront bytes i (history_text history replies ++ report)
    → ComesTo bytes (Made version) × IsVerdict version report Yes
