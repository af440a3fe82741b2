-- The kinds of the right texts of each form.
use Rattle.std.proofs.Common.{ℕ, List, [], refl, sym, subst}
use Rattle.cts_instance.specs.declared.parts.Parts.{Parts}
use Rattle.cts_script.specs.declared.script.ScriptStep.{ScriptStep}
use Rattle.cts_script.specs.declared.replay.ReplayStep.{ReplayStep}
use Rattle.cts_report.specs.Report.{report_text}
use Rattle.cts_session.specs.Desks.{version_of}
use Rattle.cts_check.specs.declared.verdict.Verdict.{Verdict}
use Rattle.cts_check.specs.declared.verdict.Verdict.TheVariants.{Yes, NotText, Wrong}
use Rattle.cts_plain.specs.Synthesis.{Synthesis, made, beyond, cut}
use Rattle.cts_near.specs.Synthesis.{NearSynthesis, at_step, over}
use Rattle.cts_top.specs.declared.stop.Answer.{Answer}
use Rattle.cts_top.specs.declared.stop.Answer.TheVariants as answer
use Rattle.cts_top.specs.declared.words.Form.{Form}
use Rattle.cts_top.specs.declared.words.Form.TheVariants.{Check, Edit, Make, Near, Replay, Trunk}
use Rattle.cts_top.specs.Kinds.{HasKind, MakesTree}
use Rattle.cts_top.specs.Log.{Log, no_log}
use Rattle.cts_top.specs.Near.{TellsNear, near_answer_of}
use Rattle.cts_top.specs.Replay.{TellsReplay, version_at_end}
use Rattle.cts_top.specs.Right.{IsRight, TellsCallers}
use Rattle.cts_top.specs.Text.{TellsSynthesis, TreeText, answer_of}
use Rattle.cts_top.specs.Trunk.{IsTrunkText, TellsTrunk}
use Rattle.cts_top.specs.Verdict.{TellsVerdict, answer_of_verdict}

-- what a synthesis comes to, on a form that makes a tree
synthesis_kind : (form : Form) → MakesTree form → (s : Synthesis) → HasKind form (answer_of s)
synthesis_kind form makes (made tree) = tt
synthesis_kind form makes (beyond node) = makes
synthesis_kind form makes (cut node) = makes

pub kind_of_tree : (form : Form) → MakesTree form → (tell : TreeText) (i : Parts) (kind : Answer) (text : List ℕ)
    → TellsSynthesis tell i kind text → HasKind form kind
kind_of_tree form makes tell i kind text told = subst (HasKind form) (sym told.kind_is) (synthesis_kind form makes told.synthesis)

near_kind : (s : NearSynthesis) → HasKind Near (near_answer_of s)
near_kind (at_step step) = tt
near_kind (over s) = synthesis_kind Near tt s

pub kind_of_near : (i : Parts) (kind : Answer) (text : List ℕ) → TellsNear i kind text → HasKind Near kind
kind_of_near i kind text told = subst (HasKind Near) (sym told.kind_is) (near_kind told.outcome)

verdict_kind : (v : Verdict) → HasKind Check (answer_of_verdict v)
verdict_kind Yes = tt
verdict_kind (NotText line) = refl
verdict_kind (Wrong rule node) = refl

pub kind_of_verdict : (i : Parts) (report : List ℕ) (kind : Answer) (text : List ℕ) → TellsVerdict i report kind text → HasKind Check kind
kind_of_verdict i report kind text told = subst (HasKind Check) (sym told.kind_is) (verdict_kind told.verdict)

pub kind_of_edits : (i : Parts) (scripts : List (List ScriptStep)) (log : Log) (kind : Answer) (text : List ℕ)
    → TellsCallers i scripts log kind text → HasKind Edit kind
kind_of_edits i scripts log kind text told = kind_of_tree Edit tt report_text (version_of i log.history) kind told.told.report told.told.tells

pub kind_of_replay : (i : Parts) (asked : List ReplayStep) (kind : Answer) (text : List ℕ) → TellsReplay i asked kind text → HasKind Replay kind
kind_of_replay i asked kind text told = kind_of_tree Replay tt report_text (version_at_end i asked) kind told.told.report told.told.tells

pub kind_of_made : (seed sinks : ℕ) (kind : Answer) (text : List ℕ) → IsRight no_log (Make seed sinks) [] kind text → HasKind (Make seed sinks) kind
kind_of_made seed sinks kind text (is, told) = subst (HasKind (Make seed sinks)) (sym is) tt

module _ (i : Parts) (step buffer : ℕ) where
  -- what the trunk of a synthesis comes to
  trunk_kind : (s : Synthesis) (kind : Answer) (text : List ℕ) → IsTrunkText i step buffer s kind text → HasKind (Trunk step buffer) kind
  trunk_kind (made tree) answer.Text text is = tt
  trunk_kind (made tree) answer.NoTrunk text is = tt
  trunk_kind (made tree) answer.No text is = absurd is
  trunk_kind (made tree) answer.NoTree text is = absurd is
  trunk_kind (beyond node) kind text is = subst (HasKind (Trunk step buffer)) (sym is.0) tt
  trunk_kind (cut node) kind text is = subst (HasKind (Trunk step buffer)) (sym is.0) tt

  pub kind_of_trunk : (kind : Answer) (text : List ℕ) → TellsTrunk i step buffer kind text → HasKind (Trunk step buffer) kind
  kind_of_trunk kind text told = trunk_kind told.synthesis kind text told.is_text
