-- How a run ends that has its input, by what it then wrote.
use Rattle.std.proofs.Common.{◌≡◌, ◌≢◌, ◌≤◌, ℕ, List, [], length, Option, None, Some, IfSome, Result, Ok, Err, IsErrOf, sym, subst, ap, arith}
use Rattle.cts_instance.specs.declared.parts.Parts.{Parts}
use Rattle.cts_near.specs.Ends.{max_near_sinks}
use Rattle.cts_read.specs.Grammar.{Refusal}
use Rattle.cts_report.specs.Report.{report_text}
use Rattle.cts_script.specs.Generator.{made_parts}
use Rattle.cts_script.specs.declared.script.ScriptStep.{ScriptStep}
use Rattle.cts_script.specs.declared.replay.ReplayStep.{ReplayStep}
use Rattle.cts_top.specs.declared.stop.Answer.{Answer}
use Rattle.cts_top.specs.declared.stop.Stop.{Stop}
use Rattle.cts_top.specs.declared.stop.Stop.TheVariants as stop
use Rattle.cts_top.specs.declared.words.Form.{Form}
use Rattle.cts_top.specs.declared.words.Form.TheVariants.{Synth, Check, Edit, Make, Job, Near, Replay}
use Rattle.cts_notes.specs.Front.{SpellsFront, front_of}
use Rattle.cts_top.specs.Input.{Spells, SpellsScripts, input_of, scripted_of}
use Rattle.cts_top.specs.Kinds.{HasKind}
use Rattle.cts_top.specs.Log.{Log, no_log}
use Rattle.cts_top.specs.Near.{TellsNear}
use Rattle.cts_top.specs.Verdict.{TellsVerdict}
use Rattle.cts_top.specs.Outcome.{Serves}
use Rattle.cts_top.specs.Reading.{DoesNotRead, Explains, ExplainsBy, ExplainsFew, HasRead, LeavesOthers, OfInput, Reading, ReadsInput, few, front, nothing, reads, replayed, scripted, whole}
use Rattle.cts_top.specs.Replay.{SpellsReplay, TellsReplay, replayed_of}
use Rattle.cts_top.specs.Right.{IsRight, TellsCallers}
use Rattle.cts_top.specs.Streams.{Failed, IsReadWhole, IsUntouched, KeepsCount, Stream, told_after, told_before}
use Rattle.cts_top.specs.Text.{TellsSynthesis, summary_in}
use Rattle.cts_top.specs.Written.{Answers, IsAnswered, IsAnsweredInPart, Rule}
use Rattle.cts_top.proofs.Endings.{of_all, on_input}
use Rattle.cts_top.proofs.FormKinds.{kind_of_edits, kind_of_made, kind_of_near, kind_of_replay, kind_of_tree, kind_of_verdict}

-- what follows, bytes by bytes, from what holds of those that were left
pub on_left : (left : Option (List ℕ)) (P Q : List ℕ → Type 0) → ((b : List ℕ) → P b → Q b) → IfSome left P → IfSome left Q
on_left None P Q f p = tt
on_left (Some b) P Q f p = f b p

-- a run that only wrote stops for its output or for want of memory
does_not_read : (end : Stop) (X : Type 0) → (end ≢ stop.WriteFault → X × (end ≡ stop.NoMemory)) → DoesNotRead end
does_not_read stop.Words X k = tt
does_not_read stop.TooLong X k = let e = (k (λ p. cc)).1 in absurd cc
does_not_read stop.Many X k = let e = (k (λ p. cc)).1 in absurd cc
does_not_read (stop.Refused line cause) X k = let e = (k (λ p. cc)).1 in absurd cc
does_not_read stop.ReadFault X k = let e = (k (λ p. cc)).1 in absurd cc
does_not_read stop.WriteFault X k = tt
does_not_read stop.NoMemory X k = tt

unexplained_by : {A : Type 0} (read : List ℕ → Result A Refusal) (bytes : List ℕ) (end : Stop) → DoesNotRead end → ExplainsBy read end bytes
unexplained_by read bytes stop.TooLong n = absurd n
unexplained_by read bytes stop.Many n = absurd n
unexplained_by read bytes (stop.Refused line cause) n = absurd n
unexplained_by read bytes end n = tt

-- what explains a stop where any number of sinks will do
pub explains_few : (end : Stop) (bytes : List ℕ) → ExplainsBy input_of end bytes → ExplainsFew end bytes
explains_few stop.Many bytes x = absurd x
explains_few end bytes x = x

unexplained : (reading : Reading) (bytes : List ℕ) (end : Stop) → DoesNotRead end → Explains reading end bytes
unexplained whole bytes end n = unexplained_by input_of bytes end n
unexplained few bytes end n = explains_few end bytes (unexplained_by input_of bytes end n)
unexplained front bytes end n = unexplained_by front_of bytes end n
unexplained scripted bytes end n = unexplained_by scripted_of bytes end n
unexplained replayed bytes end n = unexplained_by replayed_of bytes end n
unexplained nothing bytes end n = n

not_a_read : (end : Stop) → DoesNotRead end → IsErrOf {T = Answer} (Err end) stop.ReadFault → ⊥
not_a_read stop.ReadFault n p = n
not_a_read stop.Words n p = cc
not_a_read stop.TooLong n p = n
not_a_read stop.Many n p = n
not_a_read (stop.Refused line cause) n p = n
not_a_read stop.WriteFault n p = cc
not_a_read stop.NoMemory n p = cc

not_many : (end : Stop) → DoesNotRead end → IsErrOf {T = Answer} (Err end) stop.Many → ⊥
not_many stop.Many n p = n
not_many stop.TooLong n p = n
not_many (stop.Refused line cause) n p = n
not_many stop.ReadFault n p = n
not_many stop.Words n p = cc
not_many stop.WriteFault n p = cc
not_many stop.NoMemory n p = cc

pub not_words : (end : Stop) (X : Type 0) → (end ≢ stop.WriteFault → X × (end ≡ stop.NoMemory)) → IsErrOf {T = Answer} (Err end) stop.Words → ⊥
not_words stop.Words X k p = let e = (k (λ q. cc)).1 in cc
not_words stop.ReadFault X k p = cc
not_words stop.TooLong X k p = cc
not_words stop.Many X k p = cc
not_words (stop.Refused line cause) X k p = cc
not_words stop.WriteFault X k p = cc
not_words stop.NoMemory X k p = cc

pub answers_no_words : {K : Type 0} {Right : Answer → List ℕ → Type 0} {held : K → Option (List ℕ)} {faults : K → ℕ} {old new : K}
    (result : Result Answer Stop) → Answers Right held faults old new result → IsErrOf result stop.Words → ⊥
answers_no_words (Ok kind) a e = cc
answers_no_words (Err end) a e = not_words end _ a.kept e

-- what doesn't stop a reading doesn't stop the run that ends with it
pub not_stopped : (T : Type 0) (end other : Stop) → (IsErrOf {T = T} (Err end) other → ⊥) → IsErrOf {T = Answer} (Err end) other → ⊥
not_stopped T end other not e = let same : end ≡ other = cc in not (ap Err same)

module _ {S K : Type 0} (log : Log) (form : Form) (source : Stream S) where
  -- a run on a form that has its input, by what it then wrote and why that is right
  pub serves : (sink : Stream K) (Right : Rule) → HasRead (reads form) source → LeavesOthers (reads form) source
      → OfInput (reads form) (told_before source) (λ bytes. (kind : Answer) (text : List ℕ) → Right kind text → IsRight log form bytes kind text)
      → ((kind : Answer) (text : List ℕ) → Right kind text → HasKind form kind)
      → KeepsCount source → (result : Result Answer Stop) → Answers Right sink.tells sink.faults sink.before sink.after result
      → Serves log form source sink result
  serves sink Right has others right kinds counted (Ok kind) a = record {
    done = (
      has,
      on_input (reads form) (told_before source) (λ bytes. (kind : Answer) (text : List ℕ) → Right kind text → IsRight log form bytes kind text)
          (λ bytes. IsAnswered (IsRight log form bytes) kind (told_before sink) (told_after sink))
          (λ bytes is. (a.done.0, is kind a.done.0 a.done.1, a.done.2)) right,
    );
    kinds = kinds kind a.done.0 a.done.1;
    write_fault = λ e. cc;
    read_fault = λ e. cc;
    many = λ e. cc;
    explained = tt;
    kept = tt;
    others = others;
    source_counted = counted;
    sink_counted = a.counted;
  }
  serves sink Right has others right kinds counted (Err end) a =
      let none : DoesNotRead end = does_not_read end _ a.kept in
      record {
        done = tt;
        kinds = tt;
        write_fault = λ e. let p : IsAnsweredInPart Right (told_before sink) (told_after sink) = a.in_part e in (
          has,
          a.rose e,
          on_input (reads form) (told_before source) (λ bytes. (kind : Answer) (text : List ℕ) → Right kind text → IsRight log form bytes kind text)
              (λ bytes. IsAnsweredInPart (IsRight log form bytes) (told_before sink) (told_after sink))
              (λ bytes is. (p.0, p.1, p.2, is p.0 p.1 p.3, p.4)) right,
        );
        read_fault = λ e. absurd (not_a_read end none e);
        many = λ e. absurd (not_many end none e);
        explained = of_all (reads form) (told_before source) (Explains (reads form) end) (λ bytes. unexplained (reads form) bytes end none);
        kept = λ n. (a.kept n).0;
        others = others;
        source_counted = counted;
        sink_counted = a.counted;
      }

  -- a run on a form that has not got its input
  pub stops : (sink : Stream K) (T : Type 0) (end : Stop) → ReadsInput (reads form) → LeavesOthers (reads form) source
      → OfInput (reads form) (told_before source) (Explains (reads form) end)
      → (IsErrOf {T = T} (Err end) stop.Many → form ≡ Near)
      → (IsErrOf {T = T} (Err end) stop.ReadFault → Failed source) → (IsErrOf {T = T} (Err end) stop.WriteFault → ⊥)
      → KeepsCount source → IsUntouched sink → Serves log form source sink (Err end)
  stops sink T end is_read others explained many rose not_written counted same = record {
    done = tt;
    kinds = tt;
    write_fault = λ e. absurd (not_stopped T end stop.WriteFault not_written e);
    read_fault = λ e. let stopped : end ≡ stop.ReadFault = cc in (is_read, rose (ap Err stopped));
    many = λ e. let stopped : end ≡ stop.Many = cc in many (ap Err stopped);
    explained = explained;
    kept = λ n. same;
    others = others;
    source_counted = counted;
    sink_counted = subst (λ s. sink.faults sink.before ≤ sink.faults s) (sym same) (omega arith);
  }

module _ {S K : Type 0} (source : Stream S) (sink : Stream K) (result : Result Answer Stop) where
  -- a run that has read an instance
  pub serves_synth : (workers : ℕ) (i : Parts) → IsReadWhole source → IfSome (told_before source) (λ b. Spells b i) → KeepsCount source
      → Answers (TellsSynthesis report_text i) sink.tells sink.faults sink.before sink.after result
      → Serves no_log (Synth workers) source sink result
  serves_synth workers i at_end spells counted =
      serves no_log (Synth workers) source sink (TellsSynthesis report_text i) at_end tt
      (on_left (told_before source) (λ b. Spells b i) _ (λ b s kind text told. (i, s, told)) spells)
      (kind_of_tree (Synth workers) tt report_text i) counted result

  -- a run that has read an instance of few enough sinks
  pub serves_near : (i : Parts) → IsReadWhole source → IfSome (told_before source) (λ b. Spells b i) → length i.sinks ≤ max_near_sinks
      → KeepsCount source → Answers (TellsNear i) sink.tells sink.faults sink.before sink.after result
      → Serves no_log Near source sink result
  serves_near i at_end spells fits counted =
      serves no_log Near source sink (TellsNear i) at_end tt
      (on_left (told_before source) (λ b. Spells b i) _ (λ b s kind text told. (i, record { spells = s; few = fits }, told)) spells)
      (kind_of_near i) counted result

  -- a run that has read an instance and a report
  pub serves_check : (i : Parts) (report : List ℕ) → IsReadWhole source → IfSome (told_before source) (λ b. SpellsFront b i report)
      → KeepsCount source → Answers (TellsVerdict i report) sink.tells sink.faults sink.before sink.after result
      → Serves no_log Check source sink result
  serves_check i report at_end spells counted =
      serves no_log Check source sink (TellsVerdict i report) at_end tt
      (on_left (told_before source) (λ b. SpellsFront b i report) _ (λ b s kind text told. (i, report, s, told)) spells)
      (kind_of_verdict i report) counted result

  -- a run that has read an instance and scripts
  pub serves_edit : (log : Log) (i : Parts) (scripts : List (List ScriptStep)) → IsReadWhole source
      → IfSome (told_before source) (λ b. SpellsScripts b i scripts) → KeepsCount source
      → Answers (TellsCallers i scripts log) sink.tells sink.faults sink.before sink.after result
      → Serves log Edit source sink result
  serves_edit log i scripts at_end spells counted =
      serves log Edit source sink (TellsCallers i scripts log) at_end tt
      (on_left (told_before source) (λ b. SpellsScripts b i scripts) _ (λ b s kind text told. (i, scripts, s, told)) spells)
      (kind_of_edits i scripts log) counted result

  -- a run that has read an instance and the steps of a replay
  pub serves_replay : (i : Parts) (asked : List ReplayStep) → IsReadWhole source → IfSome (told_before source) (λ b. SpellsReplay b i asked)
      → KeepsCount source → Answers (TellsReplay i asked) sink.tells sink.faults sink.before sink.after result
      → Serves no_log Replay source sink result
  serves_replay i asked at_end spells counted =
      serves no_log Replay source sink (TellsReplay i asked) at_end tt
      (on_left (told_before source) (λ b. SpellsReplay b i asked) _ (λ b s kind text told. (i, asked, s, told)) spells)
      (kind_of_replay i asked) counted result

  -- a run that reads nothing
  pub serves_make : (seed sinks : ℕ) → IsUntouched source
      → Answers (IsRight no_log (Make seed sinks) []) sink.tells sink.faults sink.before sink.after result
      → Serves no_log (Make seed sinks) source sink result
  serves_make seed sinks same =
      serves no_log (Make seed sinks) source sink (IsRight no_log (Make seed sinks) []) same same (λ kind text is. is) (kind_of_made seed sinks)
      (subst (λ s. source.faults source.before ≤ source.faults s) (sym same) (omega arith)) result

  pub serves_job : (seed sinks workers : ℕ) → IsUntouched source
      → Answers (IsRight no_log (Job seed sinks workers) []) sink.tells sink.faults sink.before sink.after result
      → Serves no_log (Job seed sinks workers) source sink result
  serves_job seed sinks workers same =
      serves no_log (Job seed sinks workers) source sink (IsRight no_log (Job seed sinks workers) []) same same (λ kind text is. is)
      (kind_of_tree (Job seed sinks workers) tt summary_in (made_parts seed sinks))
      (subst (λ s. source.faults source.before ≤ source.faults s) (sym same) (omega arith)) result
