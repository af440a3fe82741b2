-- The memo of a run, by the synthesis that was made over it.
use Rattle.std.proofs.Common.{◌≡◌, ◌↔◌, ◌⊎◌, ℕ, inl, List, length, Option, None, Some, IfSome, IsSome, Result, Ok, Err, IsErrOf, refl, sym, subst, ap, ◌∙◌}
use Rattle.cts_instance.specs.declared.parts.Parts.{Parts}
use Rattle.cts_instance.specs.Validity.{IsValid}
use Rattle.cts_io.specs.declared.write.WriteEnd.{WriteEnd}
use Rattle.cts_topo.specs.declared.shape.ShapeNode.{ShapeNode}
use Rattle.cts_topo.specs.Topology.{shape_of}
use Rattle.cts_tree.specs.declared.nodes.TreeNode.{TreeNode}
use Rattle.cts_up.specs.Plan.{IsLeastBeyond}
use Rattle.cts_elmore.specs.declared.figures.Figures.{Figures}
use Rattle.cts_memo.specs.declared.table.Table.{Table}
use Rattle.cts_memo.specs.Numbers.{AreKnown}
use Rattle.cts_memo.specs.Sound.{IsSound, max_entries}
use Rattle.cts_memo.specs.Tables.{base_of, told_by}
use Rattle.cts_plain.specs.declared.end.NoTree.{NoTree}
use Rattle.cts_plain.specs.Synthesis.{IsSynthesis, Synthesis, made, beyond, cut}
use Rattle.cts_script.specs.declared.script.ScriptStep.{ScriptStep}
use Rattle.cts_script.specs.Generator.{made_parts}
use Rattle.cts_session.specs.Desks.{version_of}
use Rattle.cts_top.specs.declared.stop.Answer.{Answer}
use Rattle.cts_top.specs.declared.stop.Stop.{Stop}
use Rattle.cts_top.specs.declared.stop.Stop.TheVariants as stop
use Rattle.cts_notes.specs.declared.status.Status.{Status}
use Rattle.cts_top.specs.declared.words.Form.{Form}
use Rattle.cts_top.specs.declared.words.Form.TheVariants.{Synth, Edit, Job}
use Rattle.cts_top.specs.Input.{Spells, SpellsScripts}
use Rattle.cts_top.specs.Log.{Log, no_log}
use Rattle.cts_top.specs.Memos.{HasLog, HoldsMemo, IsKeptFor, IsMemoOf, TellsOfTree}
use Rattle.cts_top.specs.Outcome.{status_of}
use Rattle.cts_top.specs.Text.{TellsSynthesis, TreeText, answer_of}
use Rattle.cts_top.specs.Written.{Answers, ended_of}
use Rattle.cts_top.proofs.Endings.{Scripted, one_instance, one_scripted}
use Rattle.cts_top.proofs.Serving.{on_left}
use Rattle.cts_plain.proofs.Valid.{synthesis_same}

-- an answer of a synthesis
abbrev Made : Type 0
Made = Result (List TreeNode × Figures) NoTree

-- the table in which the plan of an instance was published
pub memo_of : (i : Parts) (shape : List ShapeNode) → shape ≡ shape_of i.sinks → (table : Table) → base_of table ≡ i.params
    → IsSound (base_of table) (told_by table) → (length (told_by table) ≡ max_entries) ⊎ AreKnown (told_by table) i.sinks shape → IsMemoOf i table
memo_of i shape e table base sound known = record {
  base = base;
  sound = subst (λ p. IsSound p (told_by table)) base sound;
  known = λ tree is. subst (λ s. (length (told_by table) ≡ max_entries) ⊎ AreKnown (told_by table) i.sinks s) e known;
}

-- and one of an instance that has no plan
pub memo_beyond : (i : Parts) → IsValid i → (shape : List ShapeNode) → shape ≡ shape_of i.sinks → (n : ℕ) → IsLeastBeyond i.params i.sinks shape n
    → (table : Table) → base_of table ≡ i.params → IsSound (base_of table) (told_by table) → IsMemoOf i table
memo_beyond i valid shape e n ends table base sound = record {
  base = base;
  sound = subst (λ p. IsSound p (told_by table)) base sound;
  known = λ tree is.
      let other : IsSynthesis i (beyond n) = inl (subst (λ s. IsLeastBeyond i.params i.sinks s n) e ends) in
      let same : made tree ≡ beyond n = synthesis_same i valid (made tree) (beyond n) is other in
      absurd cc;
}

-- the table that is kept of a synthesis is its memo
pub kept_memo : (i : Parts) (table : Table) (memo : Option Table) → IsMemoOf i table → IfSome memo (λ kept. kept ≡ table) → IfSome memo (IsMemoOf i)
kept_memo i table None is same = tt
kept_memo i table (Some t) is same = subst (IsMemoOf i) (sym same) is

-- a written text tells of the tree, whole or in part
pub tells_ended : (written : Result Unit WriteEnd) (kind : Answer) → TellsOfTree (status_of (Ok kind)) → TellsOfTree (status_of (ended_of written kind))
tells_ended (Ok done) kind t = t
tells_ended (Err end) kind t = tt

answer_tells : (s : Synthesis) → TellsOfTree (status_of (Ok (answer_of s)))
answer_tells (made tree) = tt
answer_tells (beyond node) = tt
answer_tells (cut node) = tt

-- the table is kept exactly where the status tells of the tree
pub kept_answered : {K : Type 0} (tell : TreeText) (i : Parts) (held : K → Option (List ℕ)) (faults : K → ℕ) (old new : K)
    (r : Result Answer Stop) (memo : Option Table) → Answers (TellsSynthesis tell i) held faults old new r → IsKeptFor r memo
    → IsSome memo ↔ TellsOfTree (status_of r)
kept_answered tell i held faults old new (Ok kind) memo a kept =
    let tells : TellsSynthesis tell i kind a.done.0 = a.done.1 in
    (λ m. subst (λ k. TellsOfTree (status_of (Ok k))) (sym tells.kind_is) (answer_tells tells.synthesis), λ t. kept)
kept_answered tell i held faults old new (Err stop.Words) memo a kept = (λ m. absurd (kept m), λ t. absurd t)
kept_answered tell i held faults old new (Err stop.TooLong) memo a kept = (λ m. absurd (kept m), λ t. absurd t)
kept_answered tell i held faults old new (Err stop.Many) memo a kept = (λ m. absurd (kept m), λ t. absurd t)
kept_answered tell i held faults old new (Err (stop.Refused line cause)) memo a kept = (λ m. absurd (kept m), λ t. absurd t)
kept_answered tell i held faults old new (Err stop.ReadFault) memo a kept = (λ m. absurd (kept m), λ t. absurd t)
kept_answered tell i held faults old new (Err stop.WriteFault) memo a kept = (λ m. tt, λ t. kept)
kept_answered tell i held faults old new (Err stop.NoMemory) memo a kept = (λ m. absurd (kept m), λ t. absurd t)

-- a run that stopped before it wrote tells of no tree
pub stopped_untold : (end : Stop) → (IsErrOf {T = Answer} (Err end) stop.WriteFault → ⊥) → TellsOfTree (status_of (Err end)) → ⊥
stopped_untold stop.Words n t = t
stopped_untold stop.TooLong n t = t
stopped_untold stop.Many n t = t
stopped_untold (stop.Refused line cause) n t = t
stopped_untold stop.ReadFault n t = t
stopped_untold stop.WriteFault n t = n refl
stopped_untold stop.NoMemory n t = t

-- the memo of a run that has read an instance
pub holds_synth : (workers : ℕ) (left : Option (List ℕ)) (i : Parts) (memo : Option Table) → IfSome left (λ b. Spells b i) → IfSome memo (IsMemoOf i)
    → HoldsMemo no_log (Synth workers) left memo
holds_synth workers left i None spells is = tt
holds_synth workers left i (Some table) spells is =
    on_left left (λ b. Spells b i) (λ b. (j : Parts) → Spells b j → IsMemoOf j table)
    (λ b s j other. subst (λ p. IsMemoOf p table) (one_instance b i j s other) is) spells

-- and of one that made it
pub holds_job : (seed sinks workers : ℕ) (left : Option (List ℕ)) (memo : Option Table) → IfSome memo (IsMemoOf (made_parts seed sinks))
    → HoldsMemo no_log (Job seed sinks workers) left memo
holds_job seed sinks workers left None is = tt
holds_job seed sinks workers left (Some table) is = λ j same. subst (λ p. IsMemoOf p table) (sym same) is

-- and of one that has read an instance and scripts
pub holds_edit : (log : Log) (left : Option (List ℕ)) (i : Parts) (scripts : List (List ScriptStep)) (memo : Option Table)
    → IfSome left (λ b. SpellsScripts b i scripts) → IfSome memo (IsMemoOf (version_of i log.history)) → HoldsMemo log Edit left memo
holds_edit log left i scripts None spells is = tt
holds_edit log left i scripts (Some table) spells is =
    on_left left (λ b. SpellsScripts b i scripts)
    (λ b. (j : Parts) → (base : Parts) × (ss : List (List ScriptStep)) × SpellsScripts b base ss × (j ≡ version_of base log.history) → IsMemoOf j table)
    (λ b s j (base, ss, other, version).
    let same : i ≡ base = ap (λ (p : Scripted). p.0) (one_scripted b i base scripts ss s other) in
    subst (λ p. IsMemoOf p table) (ap (λ p. version_of p log.history) same ∙ sym version) is) spells

-- a run has a log of callers only where its words ask for edits
pub has_log : (Asks : Form → Type 0) (form : Form) (s : Status) (log : Log) → Asks form
    → (¬ ((form ≡ Edit) × TellsOfTree s) → log ≡ no_log) → HasLog Asks s log
has_log Asks form s log asks f = λ none. f (λ p. none (subst Asks p.0 asks, p.1))

-- a form keeps its memo where it has one
pub with_workers : (P Q H : Type 0) → P ↔ Q → H → P ↔ (H × Q)
with_workers P Q H both h = (λ p. (h, both.0 p), λ q. both.1 q.1)
