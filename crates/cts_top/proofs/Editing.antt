-- The text for the edits of callers: their history, and then the text for the synthesis after it.
use Rattle.std.proofs.Common.{◌≡◌, ◌≢◌, ◌≤◌, ℕ, suc, ◌+◌, inl, inr, List, [], ◌∷◌, ◌++◌, take, length, codes, Option, Result, Ok, Err, IfErr, IsErrOf, OnOk, refl, sym, subst, ap, ◌∙◌, arith}
use Rattle.std.specs.Io.KnownBytes.{Appends}
use Rattle.std.proofs.KnownBytes.{Appends-trans}
use Rattle.std.proofs.lemmas.List.{take-append-le}
use Rattle.cts_instance.specs.declared.parts.Parts.{Parts}
use Rattle.cts_instance.specs.Validity.{IsValid}
use Rattle.cts_io.specs.Faults.{Rose}
use Rattle.cts_io.specs.Text.{Writes}
use Rattle.cts_io.specs.declared.write.WriteEnd.{WriteEnd}
use Rattle.cts_tree.specs.declared.nodes.TreeNode.{TreeNode}
use Rattle.cts_elmore.specs.declared.figures.Figures.{Figures}
use Rattle.cts_memo.specs.declared.table.Table.{Table}
use Rattle.cts_memo.specs.Tables.{told_by}
use Rattle.cts_plain.specs.declared.end.NoTree.{NoTree}
use Rattle.cts_plain.specs.declared.end.NoTree.TheVariants as end
use Rattle.cts_plain.specs.Ends.{Ends}
use Rattle.cts_plain.specs.Synthesis.{IsSynthesis, made, beyond, cut}
use Rattle.cts_edit.specs.declared.edit.Entry.{Entry}
use Rattle.cts_history.specs.History.{history_text}
use Rattle.cts_report.specs.Report.{report_text}
use Rattle.cts_script.specs.declared.script.ScriptStep.{ScriptStep}
use Rattle.cts_session.specs.Desks.{IsTableOf, version_of}
use Rattle.cts_session.specs.Draws.{IsDrawn, KnowsTree}
use Rattle.cts_history.specs.Legal.{IsLegal}
use Rattle.cts_callers.specs.Runs.{IsSynthesisOf}
use Rattle.cts_top.specs.declared.stop.Answer.{Answer}
use Rattle.cts_top.specs.declared.stop.Answer.TheVariants as answer
use Rattle.cts_top.specs.declared.stop.Stop.{Stop}
use Rattle.cts_top.specs.declared.stop.Stop.TheVariants as stop
use Rattle.cts_top.specs.Log.{Log}
use Rattle.cts_top.specs.Memos.{IsMemoOf, TellsEnd, TellsOfTree}
use Rattle.cts_top.specs.Outcome.{status_of}
use Rattle.cts_top.specs.Right.{TellsCallers}
use Rattle.cts_top.specs.Synthesised.{IsSynthesised}
use Rattle.cts_top.specs.Text.{TellsEdits, TellsSynthesis, no_tree_text}
use Rattle.cts_top.specs.Written.{Answers, IsAnsweredInPart, Rule}
use Rattle.cts_top.proofs.Synthesising.{synthesised}
use Rattle.cts_top.proofs.Told.{beyond_told, cut_told, tree_told}
use Rattle.cts_plain.proofs.Valid.{synthesis_same}

-- an answer of a synthesis
abbrev Made : Type 0
Made = Result (List TreeNode × Figures) NoTree

take_past : (front text : List ℕ) (n : ℕ) → take (length front + n) (front ++ text) ≡ front ++ take n text
take_past [] text n = ap (λ k. take k text) (let e : 0 + n ≡ n = omega arith in e)
take_past (b ∷ front) text n =
    let e : length (b ∷ front) + n ≡ suc (length front + n) = omega arith in
    ap (λ k. take k (b ∷ front ++ text)) e ∙ ap (λ t. b ∷ t) (take_past front text n)

-- a run that has written tells of a tree, so it did not run out of memory
told_memory : (result : Result Answer Stop) → TellsOfTree (status_of result) → IsErrOf result stop.NoMemory → ⊥
told_memory (Ok kind) t e = cc
told_memory (Err stop.NoMemory) t e = t
told_memory (Err stop.Words) t e = cc
told_memory (Err stop.TooLong) t e = cc
told_memory (Err stop.Many) t e = cc
told_memory (Err (stop.Refused line cause)) t e = cc
told_memory (Err stop.ReadFault) t e = cc
told_memory (Err stop.WriteFault) t e = cc

-- the text for a synthesis that has come to its end
pub some_text : (i : Parts) → IsValid i → (result : Made) → IsSynthesised i result → IfErr result (λ why. why ≢ end.NoMemory)
    → (kind : Answer) × (text : List ℕ) × TellsSynthesis report_text i kind text
some_text i valid (Ok (tree, figures)) s told =
    (answer.Text, report_text i.version tree figures, tree_told (IsSynthesis i) report_text i tree figures valid s.tree s.figures s.sound s.right)
some_text i valid (Err (end.Beyond n)) s told = (answer.NoTree, no_tree_text (codes "beyond") n, beyond_told (IsSynthesis i) report_text i n valid s.ends)
some_text i valid (Err (end.Cut n)) s told = (answer.NoTree, no_tree_text (codes "cut") n, cut_told (IsSynthesis i) report_text i n valid s.ends)
some_text i valid (Err end.NoMemory) s told = absurd (told refl)

-- that synthesis is told, whole or in part
pub tells_end : (result : Made) (s : _) → TellsEnd result s → IfErr result (λ why. why ≢ end.NoMemory) → TellsOfTree s
tells_end (Ok r) s t n = t
tells_end (Err (end.Beyond k)) s t n = t
tells_end (Err (end.Cut k)) s t n = t
tells_end (Err end.NoMemory) s t n = absurd (n refl)

module _ {K : Type 0} (held : K → Option (List ℕ)) (faults : K → ℕ) where
  -- what was written first, and then an answer
  pub then_answered : (Right Whole : Rule) (front : List ℕ) → ((kind : Answer) (text : List ℕ) → Right kind text → Whole kind (front ++ text))
      → (old mid new : K) → Appends (held old) (held mid) front → faults old ≤ faults mid → (result : Result Answer Stop)
      → TellsOfTree (status_of result) → Answers Right held faults mid new result → Answers Whole held faults old new result
  then_answered Right Whole front whole old mid new first counted (Ok kind) t a = record {
    done = (front ++ a.done.0, whole kind (a.done.0) (a.done.1), Appends-trans (held old) (held mid) (held new) front (a.done.0) first (a.done.2));
    in_part = λ e. cc;
    rose = λ e. cc;
    kept = tt;
    counted = omega (arith, counted, a.counted);
  }
  then_answered Right Whole front whole old mid new first counted (Err end) t a = record {
    done = tt;
    in_part = λ e.
        let p : IsAnsweredInPart Right (held mid) (held new) = a.in_part e in (
          p.0,
          front ++ p.1,
          length front + p.2,
          whole (p.0) (p.1) (p.3),
          subst (λ bytes. Appends (held old) (held new) bytes) (sym (take_past front (p.1) (p.2)))
              (Appends-trans (held old) (held mid) (held new) front (take (p.2) (p.1)) first (p.4)),
        );
    rose = λ e. rose_since counted (a.rose e);
    kept = λ n. absurd (told_memory (Err end) t (ap Err (a.kept n).1));
    counted = omega (arith, counted, a.counted);
  }
    where
      rose_since : {a b c : ℕ} → a ≤ b → Rose b c → Rose a c
      rose_since le (inl above) = inl (omega (arith, le, above))
      rose_since le (inr at_end) = inr at_end

  -- an answer whose front could not be written
  pub cut_front : (Whole : Rule) (front rest : List ℕ) (kind : Answer) → Whole kind (front ++ rest) → (old new : K) (why : WriteEnd)
      → Writes held faults old new front (Err why) → Answers Whole held faults old new (Err stop.WriteFault)
  cut_front Whole front rest kind right old new why w = record {
    done = tt;
    in_part = λ e. (
      kind,
      front ++ rest,
      w.cut.count,
      right,
      subst (λ bytes. Appends (held old) (held new) bytes) (sym (take-append-le w.cut.count front rest w.cut.within)) w.cut.taken,
    );
    rose = λ e. w.write_fault;
    kept = λ n. absurd (n refl);
    counted = w.counted;
  }

-- the text for edits, once their history stands before the text for the synthesis
pub edits_told : (version : Parts) (log : Log) (kind : Answer) (text : List ℕ) → TellsSynthesis report_text version kind text
    → TellsEdits version log kind (history_text log.history log.replies ++ text)
edits_told version log kind text tells = record { report = text; tells = tells; told = refl }

-- whatever the sink took of the history, there is a text for the edits that begins with it
pub some_edits : (version : Parts) → IsValid version → (log : Log) (result : Made) → IsSynthesised version result
    → IfErr result (λ why. why ≢ end.NoMemory)
    → (kind : Answer) × (text : List ℕ) × TellsEdits version log kind (history_text log.history log.replies ++ text)
some_edits version valid log result s told =
    let some = some_text version valid result s told in
    (some.0, some.1, edits_told version log some.0 some.1 some.2)

-- the text of callers, with what makes their log legal
pub callers_told : {K : Type 0} {held : K → Option (List ℕ)} {faults : K → ℕ} (old new : K) (i : Parts) (scripts : List (List ScriptStep)) (log : Log)
    → IsLegal i scripts log.history log.replies → (version : Parts) → version ≡ version_of i log.history → (result : Result Answer Stop)
    → Answers (TellsEdits version log) held faults old new result → Answers (TellsCallers i scripts log) held faults old new result
callers_told old new i scripts log legal version is (Ok kind) a = record {
  done = (a.done.0, record { legal = legal; told = subst (λ v. TellsEdits v log kind (a.done.0)) is (a.done.1) }, a.done.2);
  in_part = λ e. cc;
  rose = λ e. cc;
  kept = tt;
  counted = a.counted;
}
callers_told old new i scripts log legal version is (Err end) a = record {
  done = tt;
  in_part = λ e.
      let p = a.in_part e in
      (p.0, p.1, p.2, record { legal = legal; told = subst (λ v. TellsEdits v log (p.0) (p.1)) is (p.3) }, p.4);
  rose = a.rose;
  kept = a.kept;
  counted = a.counted;
}

-- what a run of callers says of the synthesis after its history
module _ (base : Parts) (history : List Entry) where
  abbrev last : Parts
  last = version_of base history

  pub last_synthesised : IsValid last → (result : Made) → IsSynthesisOf base history result → IsSynthesised last result
  last_synthesised valid (Ok r) is =
      let d : IsDrawn base history _ = is.tree in
      synthesised last valid (Ok r) d.tree d.figures d.sound d.one_each d.in_range d.in_die tt
  last_synthesised valid (Err why) is = synthesised last valid (Err why) tt tt tt tt tt tt is.no_tree

  -- and of the memo
  pub last_memo : IsValid last → (result : Made) → IsSynthesisOf base history result → (table : Table)
      → IsTableOf base.params (told_by table) table → OnOk result (KnowsTree last (told_by table)) → IsMemoOf last table
  last_memo valid (Ok r) is table t known = record { base = t.base; sound = t.sound; known = λ tree is. known }
  last_memo valid (Err why) is table t known =
      record { base = t.base; sound = t.sound; known = λ tree made_is. absurd (none why is.no_tree is.told tree made_is) }
    where
      none : (why : NoTree) → Ends last why → why ≢ end.NoMemory → (tree : List TreeNode) → IsSynthesis last (made tree) → ⊥
      none (end.Beyond n) ends told tree other =
          let same : made tree ≡ beyond n = synthesis_same last valid (made tree) (beyond n) other ends in
          cc
      none (end.Cut n) ends told tree other =
          let same : made tree ≡ cut n = synthesis_same last valid (made tree) (cut n) other ends in
          cc
      none end.NoMemory ends told tree other = told refl
