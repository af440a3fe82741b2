-- What is right for what the words ask: which texts, and of which kind.
use Rattle.std.specs.Prelude.{◌≡◌, ℕ, List}
use Rattle.cts_instance.specs.declared.parts.Parts.{Parts}
use Rattle.cts_report.specs.Report.{report_text}
use Rattle.cts_script.specs.declared.script.ScriptStep.{ScriptStep}
use Rattle.cts_script.specs.declared.replay.ReplayStep.{ReplayStep}
use Rattle.cts_script.specs.Generator.{made_parts}
use Rattle.cts_script.specs.Text.{instance_text}
use Rattle.cts_check.specs.declared.verdict.Verdict.{Verdict}
use Rattle.cts_check.specs.Verdict.{IsVerdict}
use Rattle.cts_plain.specs.Synthesis.{Synthesis, IsSynthesis}
use Rattle.cts_session.specs.Desks.{version_of}
use Rattle.cts_history.specs.Legal.{IsLegal}
use Rattle.cts_top.specs.declared.stop.Answer.{Answer}
use Rattle.cts_top.specs.declared.stop.Answer.TheVariants as answer
use Rattle.cts_top.specs.declared.words.Form.{Form}
use Rattle.cts_top.specs.declared.words.Form.TheVariants.{Synth, Check, Edit, Make, Job, Trunk, Near, Replay}
use Rattle.cts_notes.specs.Front.{SpellsFront}
use Rattle.cts_top.specs.Input.{Spells, SpellsScripts}
use Rattle.cts_top.specs.Input.{SpellsFew}
use Rattle.cts_top.specs.Log.{Log}
use Rattle.cts_top.specs.Near.{IsNearKind, TellsNear}
use Rattle.cts_top.specs.Replay.{SpellsReplay, TellsReplay, version_at_end}
use Rattle.cts_top.specs.Text.{TellsEdits, TellsSynthesis, answer_of, summary_in}
use Rattle.cts_top.specs.Trunk.{IsTrunkKind, TellsTrunk}
use Rattle.cts_top.specs.Verdict.{TellsVerdict, answer_of_verdict}

-- The callers of these scripts, at an instance, have this legal log, and this is the text for their edits.
pub record TellsCallers (i : Parts) (scripts : List (List ScriptStep)) (log : Log) (kind : Answer) (text : List ℕ) : Type 0 where
  pub legal : IsLegal i scripts log.history log.replies
  pub told : TellsEdits (version_of i log.history) log kind text

-- The right text, where these bytes were the input: the report of the tree of the instance that they spell; the verdict on
-- the report that they spell after an instance; the history that the callers of the scripts after an instance made, with the
-- report of the tree after it; the instance that is made; the summary of its tree; the trunk with repeaters of the tree of the
-- instance that they spell, with the tree's report; the report of the tree over the nearest-pair topology of that instance; or
-- the history that a script with undo and redo after an instance comes to, with the report of the tree after it. Where there is
-- no tree, or no such trunk, the line that says so. History and replies are those of the log.
abbrev pub IsRight : Log → Form → List ℕ → Answer → List ℕ → Type 0
IsRight log (Synth workers) bytes kind text = (i : Parts) × Spells bytes i × TellsSynthesis report_text i kind text
IsRight log Near bytes kind text = (i : Parts) × SpellsFew bytes i × TellsNear i kind text
IsRight log Check bytes kind text = (i : Parts) × (report : List ℕ) × SpellsFront bytes i report × TellsVerdict i report kind text
IsRight log Edit bytes kind text =
    (i : Parts) × (scripts : List (List ScriptStep)) × SpellsScripts bytes i scripts × TellsCallers i scripts log kind text
IsRight log Replay bytes kind text = (i : Parts) × (asked : List ReplayStep) × SpellsReplay bytes i asked × TellsReplay i asked kind text
IsRight log (Make seed sinks) bytes kind text = (kind ≡ answer.Text) × (text ≡ instance_text (made_parts seed sinks))
IsRight log (Job seed sinks workers) bytes kind text = TellsSynthesis summary_in (made_parts seed sinks) kind text
IsRight log (Trunk step buffer) bytes kind text = (i : Parts) × Spells bytes i × TellsTrunk i step buffer kind text

-- the kind of the right text, told without the text
abbrev pub IsRightKind : Log → Form → List ℕ → Answer → Type 0
IsRightKind log (Synth workers) bytes kind = (i : Parts) × Spells bytes i × ((s : Synthesis) × IsSynthesis i s × (kind ≡ answer_of s))
IsRightKind log Near bytes kind = (i : Parts) × SpellsFew bytes i × IsNearKind i kind
IsRightKind log Check bytes kind =
    (i : Parts) × (report : List ℕ) × SpellsFront bytes i report
    × ((v : Verdict) × IsVerdict i report v × (kind ≡ answer_of_verdict v))
IsRightKind log Edit bytes kind =
    (i : Parts) × (scripts : List (List ScriptStep)) × SpellsScripts bytes i scripts
    × ((s : Synthesis) × IsSynthesis (version_of i log.history) s × (kind ≡ answer_of s))
IsRightKind log Replay bytes kind =
    (i : Parts) × (asked : List ReplayStep) × SpellsReplay bytes i asked
    × ((s : Synthesis) × IsSynthesis (version_at_end i asked) s × (kind ≡ answer_of s))
IsRightKind log (Make seed sinks) bytes kind = kind ≡ answer.Text
IsRightKind log (Job seed sinks workers) bytes kind = (s : Synthesis) × IsSynthesis (made_parts seed sinks) s × (kind ≡ answer_of s)
IsRightKind log (Trunk step buffer) bytes kind =
    (i : Parts) × Spells bytes i × ((s : Synthesis) × IsSynthesis i s × IsTrunkKind i step buffer s kind)
