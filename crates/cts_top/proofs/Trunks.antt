-- The text for the trunk of a tree with repeaters, from what laying it says of its end.
use Rattle.std.proofs.Common.{◌≡◌, ℕ, List, ◌++◌, Option, IfSome, Result, Ok, Err, sym, subst, ap, ◌∙◌}
use Rattle.cts_instance.specs.declared.parts.Parts.{Parts}
use Rattle.cts_instance.specs.Validity.{IsValid}
use Rattle.cts_tree.specs.declared.nodes.TreeNode.{TreeNode}
use Rattle.cts_elmore.specs.declared.figures.Figures.{Figures}
use Rattle.cts_elmore.specs.Fits.{FitsInstance}
use Rattle.cts_report.specs.Report.{report_text}
use Rattle.cts_trunk.specs.declared.trunk.Trunk.{Trunk}
use Rattle.cts_trunk.specs.declared.trunk.TrunkEnd.{TrunkEnd}
use Rattle.cts_trunk.specs.Laid.{Ends, IsLaid}
use Rattle.cts_trunk.specs.Lines.{trunk_text}
use Rattle.cts_plain.specs.declared.end.NoTree.{NoTree}
use Rattle.cts_plain.specs.declared.end.NoTree.TheVariants as none
use Rattle.cts_plain.specs.Ends.{Ends as EndsWithout}
use Rattle.cts_plain.specs.Synthesis.{Synthesis, IsSynthesis, made, beyond, cut}
use Rattle.cts_plain.proofs.Sound.{trees_sound}
use Rattle.cts_plain.proofs.Valid.{shape_over, synthesis_same}
use Rattle.cts_top.specs.declared.stop.Answer.{Answer}
use Rattle.cts_top.specs.declared.stop.Answer.TheVariants as answer
use Rattle.cts_top.specs.declared.stop.Stop.{Stop}
use Rattle.cts_top.specs.declared.stop.Stop.TheVariants as stop
use Rattle.cts_top.specs.declared.words.Form.TheVariants.{Trunk as TrunkForm}
use Rattle.cts_top.specs.Input.{Spells}
use Rattle.cts_top.specs.Log.{no_log}
use Rattle.cts_top.specs.Memos.{TellsEnd, TellsOfTree}
use Rattle.cts_top.specs.Outcome.{Serves, status_of}
use Rattle.cts_top.specs.Streams.{IsReadWhole, KeepsCount, Stream, told_before}
use Rattle.cts_top.specs.Synthesised.{IsSynthesised}
use Rattle.cts_top.specs.Text.{IsTextOf, TellsSynthesis, answer_of}
use Rattle.cts_top.specs.Trunk.{IsExactly, IsNoTrunkLine, IsTrunkText, TellsTrunk}
use Rattle.cts_top.specs.Written.{Answers, IsAnsweredInPart, Rule}
use Rattle.cts_top.proofs.Serving.{on_left, serves}
use Rattle.cts_top.proofs.FormKinds.{kind_of_trunk}
use Rattle.cts_top.proofs.Told.{tells_tree}

-- an answer by one rule is one by another that asks no more
pub answers_as : {K : Type 0} {held : K → Option (List ℕ)} {faults : K → ℕ} {old new : K} (Right Whole : Rule)
    → ((kind : Answer) (text : List ℕ) → Right kind text → Whole kind text) → (result : Result Answer Stop)
    → Answers Right held faults old new result → Answers Whole held faults old new result
answers_as Right Whole whole (Ok kind) a = record {
  done = (a.done.0, whole kind a.done.0 a.done.1, a.done.2);
  in_part = λ e. cc;
  rose = λ e. cc;
  kept = tt;
  counted = a.counted;
}
answers_as {held = held} {old = old} {new = new} Right Whole whole (Err end) a = record {
  done = tt;
  in_part = λ e.
      let p : IsAnsweredInPart Right (held old) (held new) = a.in_part e in
      (p.0, p.1, p.2, whole p.0 p.1 p.3, p.4);
  rose = a.rose;
  kept = a.kept;
  counted = a.counted;
}

pub tree_fits : (i : Parts) (tree : List TreeNode) → IsValid i → IsSynthesis i (made tree) → FitsInstance i tree
tree_fits i tree valid is = (trees_sound i _ tree valid (shape_over i valid) is).2

module _ (i : Parts) (step buffer : ℕ) where
  -- a trunk and the report of its tree
  pub laid_told : (tree : List TreeNode) (figures : Figures) → IsSynthesised i (Ok (tree, figures)) → (trunk : Trunk)
      → IsLaid i tree step buffer trunk → (kind : Answer) (text : List ℕ)
      → IsExactly answer.Text (trunk_text trunk ++ report_text i.version tree figures) kind text → IsTrunkText i step buffer (made tree) kind text
  laid_told tree figures s trunk laid kind text is =
      subst (λ k. IsTrunkText i step buffer (made tree) k text) (sym is.0)
      (record {
        trunk = trunk;
        laid = laid;
        report = report_text i.version tree figures;
        tells = tells_tree report_text i tree figures s.figures s.sound s.right;
        told = is.1;
      })

  -- a line that says why there is none
  pub none_told : (tree : List TreeNode) (why : TrunkEnd) → Ends i tree step buffer why → (kind : Answer) (text : List ℕ)
      → IsNoTrunkLine why kind text → IsTrunkText i step buffer (made tree) kind text
  none_told tree why ends kind text is =
      subst (λ k. IsTrunkText i step buffer (made tree) k text) (sym is.0) (record { why = why; ends = ends; told = is.1 })

  -- the text for the tree of an instance
  pub tree_trunk_told : (tree : List TreeNode) → IsValid i → IsSynthesis i (made tree) → (kind : Answer) (text : List ℕ)
      → IsTrunkText i step buffer (made tree) kind text → TellsTrunk i step buffer kind text
  tree_trunk_told tree valid is kind text told = record { valid = valid; synthesis = made tree; comes = is; is_text = told }

  -- the line that says that there is no tree
  at_end : (last : Synthesis) → ((kind : Answer) (text : List ℕ) → (kind ≡ answer_of last) × IsTextOf report_text i last text → IsTrunkText i step buffer last kind text)
      → IsValid i → IsSynthesis i last → (kind : Answer) (text : List ℕ) → TellsSynthesis report_text i kind text → TellsTrunk i step buffer kind text
  at_end last words valid is kind text told =
      let same : told.synthesis ≡ last = synthesis_same i valid told.synthesis last told.comes is in
      record {
        valid = valid;
        synthesis = last;
        comes = is;
        is_text = words kind text (told.kind_is ∙ ap answer_of same, subst (λ s. IsTextOf report_text i s text) same told.is_text);
      }

  no_other : (s : Synthesis) (kind : Answer) → kind ≡ answer_of s → (TellsOfTree (status_of (Ok kind)) → ⊥) → ⊥
  no_other (made tree) kind same untold = untold (subst (λ k. TellsOfTree (status_of (Ok k))) (sym same) tt)
  no_other (beyond node) kind same untold = untold (subst (λ k. TellsOfTree (status_of (Ok k))) (sym same) tt)
  no_other (cut node) kind same untold = untold (subst (λ k. TellsOfTree (status_of (Ok k))) (sym same) tt)

  no_memory : {K : Type 0} {held : K → Option (List ℕ)} {faults : K → ℕ} {old new : K} (result : Result Answer Stop)
      → (TellsOfTree (status_of result) → ⊥) → Answers (TellsSynthesis report_text i) held faults old new result
      → Answers (TellsTrunk i step buffer) held faults old new result
  no_memory (Ok kind) untold a = absurd (no_other a.done.1.synthesis kind a.done.1.kind_is untold)
  no_memory (Err stop.WriteFault) untold a = absurd (untold tt)
  no_memory (Err end) untold a = record { done = tt; in_part = λ e. absurd cc; rose = a.rose; kept = a.kept; counted = a.counted }

  pub no_tree_told : {K : Type 0} {held : K → Option (List ℕ)} {faults : K → ℕ} {old new : K} (end : NoTree) → IsValid i → EndsWithout i end
      → (result : Result Answer Stop) → TellsEnd (Err end) (status_of result)
      → Answers (TellsSynthesis report_text i) held faults old new result → Answers (TellsTrunk i step buffer) held faults old new result
  no_tree_told (none.Beyond node) valid ends result told a =
      answers_as (TellsSynthesis report_text i) (TellsTrunk i step buffer) (at_end (beyond node) (λ kind text t. t) valid ends) result a
  no_tree_told (none.Cut node) valid ends result told a =
      answers_as (TellsSynthesis report_text i) (TellsTrunk i step buffer) (at_end (cut node) (λ kind text t. t) valid ends) result a
  no_tree_told none.NoMemory valid ends result told a = no_memory result told a

-- a run that has read an instance
pub serves_trunk : {S K : Type 0} (source : Stream S) (sink : Stream K) (result : Result Answer Stop) (step buffer : ℕ) (i : Parts)
    → IsReadWhole source → IfSome (told_before source) (λ b. Spells b i) → KeepsCount source
    → Answers (TellsTrunk i step buffer) sink.tells sink.faults sink.before sink.after result
    → Serves no_log (TrunkForm step buffer) source sink result
serves_trunk source sink result step buffer i at_end spells counted =
    serves no_log (TrunkForm step buffer) source sink (TellsTrunk i step buffer) at_end tt
    (on_left (told_before source) (λ b. Spells b i) _ (λ b s kind text told. (i, s, told)) spells)
    (kind_of_trunk i step buffer) counted result
