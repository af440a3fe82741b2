-- What the ending of a run means for its status and its note.
use Rattle.std.proofs.Common.{◌≡◌, ℕ, ◌≤◌, ◌⊎◌, inl, inr, List, [], length, take, Option, None, Some, IfSome, Result, Ok, Err, IfOk, IfErr, IsErrOf, refl, sym, subst, ap, ◌∙◌, arith}
use Rattle.std.proofs.Math.Seq.{take-length}
use Rattle.std.specs.Io.KnownBytes.{Appends}
use Rattle.cts_io.specs.Faults.{Rose}
use Rattle.cts_io.specs.Text.{Writes}
use Rattle.cts_io.specs.declared.write.WriteEnd.{WriteEnd}
use Rattle.cts_near.specs.Ends.{max_near_sinks}
use Rattle.cts_read.specs.Grammar.{Refusal}
use Rattle.cts_read.specs.declared.stop.Cause.{Cause}
use Rattle.cts_instance.specs.declared.parts.Parts.{Parts}
use Rattle.cts_report.specs.Report.{report_text}
use Rattle.cts_script.specs.declared.script.ScriptStep.{ScriptStep}
use Rattle.cts_script.specs.declared.replay.ReplayStep.{ReplayStep}
use Rattle.cts_script.specs.Generator.{made_parts}
use Rattle.cts_plain.specs.Synthesis.{Synthesis, IsSynthesis}
use Rattle.cts_session.specs.Desks.{version_of}
use Rattle.cts_top.specs.declared.stop.Answer.{Answer}
use Rattle.cts_top.specs.declared.stop.Answer.TheVariants as answer
use Rattle.cts_top.specs.declared.stop.Stop.{Stop}
use Rattle.cts_top.specs.declared.stop.Stop.TheVariants as stop
use Rattle.cts_top.specs.declared.words.Form.{Form}
use Rattle.cts_top.specs.declared.words.Form.TheVariants.{Synth, Check, Edit, Make, Job, Trunk, Near, Replay}
use Rattle.cts_notes.specs.declared.status.Status.{Status}
use Rattle.cts_notes.specs.declared.status.Status.TheVariants as status
use Rattle.cts_check.specs.Verdict.{IsVerdict}
use Rattle.cts_check.proofs.Verdicts.{verdict_is_one_lem}
use Rattle.cts_notes.specs.Front.{SpellsFront, front_of}
use Rattle.cts_top.specs.Input.{Spells, SpellsScripts, input_of, scripted_of}
use Rattle.cts_top.specs.Log.{Log}
use Rattle.cts_top.specs.Verdict.{answer_of_verdict}
use Rattle.cts_notes.specs.Notes.{refusal_note, too_long_note}
use Rattle.cts_top.specs.Notes.{note_of, stop_note}
use Rattle.cts_top.specs.Notes.{many_note}
use Rattle.cts_top.specs.Near.{near_answer_of}
use Rattle.cts_top.specs.Outcome.{IsNote, status_of}
use Rattle.cts_top.specs.Reading.{Explains, ExplainsBy, IsReadable, IsRefusalNote, NamesRefusal, OfInput, Reading, RefusesInput, few, front, nothing, reads, replayed, scripted, whole}
use Rattle.cts_top.specs.Replay.{SpellsReplay, replayed_of, version_at_end}
use Rattle.cts_top.specs.Right.{IsRight, IsRightKind}
use Rattle.cts_top.specs.Text.{TellsSynthesis, TreeText, answer_of, summary_in}
use Rattle.cts_top.specs.Written.{IsAnswered, IsAnsweredInPart}
use Rattle.cts_top.specs.Trunk.{IsTrunkKind}
use Rattle.cts_top.proofs.TrunkKinds.{trunk_kind_one}
use Rattle.cts_plain.proofs.Valid.{synthesis_same}
use Rattle.cts_near.specs.Synthesis.{ComesNear}
use Rattle.cts_near.proofs.OneTree.{near_syntheses_one}

-- what follows, bytes by bytes, from what holds of an input
pub on_input : (reading : Reading) (left : Option (List ℕ)) (P Q : List ℕ → Type 0) → ((b : List ℕ) → P b → Q b) → OfInput reading left P
    → OfInput reading left Q
on_input nothing left P Q f p = f [] p
on_input reading None P Q f p = tt
on_input reading (Some b) P Q f p = f b p

pub of_all : (reading : Reading) (left : Option (List ℕ)) (Q : List ℕ → Type 0) → ((b : List ℕ) → Q b) → OfInput reading left Q
of_all nothing left Q q = q []
of_all reading None Q q = tt
of_all reading (Some b) Q q = q b

-- an input spells one instance
pub one_instance : (bytes : List ℕ) (i j : Parts) → Spells bytes i → Spells bytes j → i ≡ j
one_instance bytes i j s t = let e : Ok i ≡ Ok j = sym s.read ∙ t.read in cc

refused_spells_none : (bytes : List ℕ) (i : Parts) (r : Refusal) → input_of bytes ≡ Err r → Spells bytes i → ⊥
refused_spells_none bytes i r e s = let f = sym e ∙ s.read in cc

-- an input has one instance at its front, and one rest
abbrev Front : Type 0
Front = Parts × List ℕ

one_front : (bytes : List ℕ) (i j : Parts) (r s : List ℕ) → SpellsFront bytes i r → SpellsFront bytes j s → ◌≡◌ {A = Front} (i, r) (j, s)
one_front bytes i j r s f g = ok_same (i, r) (j, s) (sym f.read ∙ g.read)
  where
    ok_same : (x y : Front) → ◌≡◌ {A = Result Front Refusal} (Ok x) (Ok y) → x ≡ y
    ok_same x y e = cc

refused_begins_none : (bytes : List ℕ) (i : Parts) (rest : List ℕ) (r : Refusal) → front_of bytes ≡ Err r → SpellsFront bytes i rest → ⊥
refused_begins_none bytes i rest r e s = let f = sym e ∙ s.read in cc

-- an input has one instance with scripts after it
abbrev pub Scripted : Type 0
Scripted = Parts × List (List ScriptStep)

pub one_scripted : (bytes : List ℕ) (i j : Parts) (s t : List (List ScriptStep)) → SpellsScripts bytes i s → SpellsScripts bytes j t
    → ◌≡◌ {A = Scripted} (i, s) (j, t)
one_scripted bytes i j s t f g = ok_same (i, s) (j, t) (sym f.read ∙ g.read)
  where
    ok_same : (x y : Scripted) → ◌≡◌ {A = Result Scripted Refusal} (Ok x) (Ok y) → x ≡ y
    ok_same x y e = cc

refused_scripts_none : (bytes : List ℕ) (i : Parts) (scripts : List (List ScriptStep)) (r : Refusal) → scripted_of bytes ≡ Err r
    → SpellsScripts bytes i scripts → ⊥
refused_scripts_none bytes i scripts r e s = let f = sym e ∙ s.read in cc

-- an input has one instance with a replay after it
one_replayed : (bytes : List ℕ) (i j : Parts) (s t : List ReplayStep) → SpellsReplay bytes i s → SpellsReplay bytes j t
    → ◌≡◌ {A = Parts × List ReplayStep} (i, s) (j, t)
one_replayed bytes i j s t f g = ok_same (i, s) (j, t) (sym f.read ∙ g.read)
  where
    ok_same : (x y : Parts × List ReplayStep) → ◌≡◌ {A = Result (Parts × List ReplayStep) Refusal} (Ok x) (Ok y) → x ≡ y
    ok_same x y e = cc

refused_replay_none : (bytes : List ℕ) (i : Parts) (asked : List ReplayStep) (r : Refusal) → replayed_of bytes ≡ Err r
    → SpellsReplay bytes i asked → ⊥
refused_replay_none bytes i asked r e s = let f = sym e ∙ s.read in cc

-- an instance has one synthesis, and so one kind of text
same_kind : (tell : TreeText) (i : Parts) (kind : Answer) (text : List ℕ) (s : Synthesis) → TellsSynthesis tell i kind text → IsSynthesis i s
    → kind ≡ answer_of s
same_kind tell i kind text s told is =
    told.kind_is ∙ ap answer_of (synthesis_same i told.valid told.synthesis s told.comes is)

-- of one input there is one right kind of text
one_kind : (log : Log) (form : Form) (bytes : List ℕ) (kind other : Answer) (text : List ℕ) → IsRight log form bytes kind text → IsRightKind log form bytes other
    → status_of (Ok kind) ≡ status_of (Ok other)
one_kind log (Synth workers) bytes kind other text right k =
    let i : Parts = right.0 in
    let same : i ≡ k.0 = one_instance bytes i k.0 right.1 k.1 in
    let there : IsSynthesis i k.2.0 = subst (λ x. IsSynthesis x k.2.0) (sym same) k.2.1 in
    ap (λ a. status_of (Ok a)) (same_kind report_text i kind text k.2.0 right.2 there ∙ sym k.2.2)
one_kind log Near bytes kind other text (i, spells, tells) (j, others, (outcome, comes, kind_is)) =
    let same : i ≡ j = one_instance bytes i j spells.spells others.spells in
    let there : ComesNear i outcome = subst (λ x. ComesNear x outcome) (sym same) comes in
    ap (λ a. status_of (Ok a))
    (tells.kind_is ∙ ap near_answer_of (near_syntheses_one i tells.outcome outcome tells.valid tells.comes there) ∙ sym kind_is)
one_kind log Check bytes kind other text (i, report, spells, tells) (j, others, begins, (v, is, kind_is)) =
    let same : ◌≡◌ {A = Front} (i, report) (j, others) = one_front bytes i j report others spells begins in
    let there : IsVerdict i report v = subst (λ (f : Front). IsVerdict (f.0) (f.1) v) (sym same) is in
    ap (λ a. status_of (Ok a)) (tells.kind_is ∙ ap answer_of_verdict (verdict_is_one_lem i report tells.verdict v tells.valid tells.is_verdict there) ∙ sym kind_is)
one_kind log Edit bytes kind other text (i, scripts, spells, tells) (j, others, begins, (s, is, kind_is)) =
    let same : i ≡ j = ap (λ (p : Scripted). p.0) (one_scripted bytes i j scripts others spells begins) in
    let there : IsSynthesis (version_of i log.history) s = subst (λ x. IsSynthesis (version_of x log.history) s) (sym same) is in
    ap (λ a. status_of (Ok a)) (same_kind report_text (version_of i log.history) kind tells.told.report s tells.told.tells there ∙ sym kind_is)
one_kind log Replay bytes kind other text (i, asked, spells, tells) (j, others, begins, (s, is, kind_is)) =
    let same : ◌≡◌ {A = Parts × List ReplayStep} (j, others) (i, asked) = sym (one_replayed bytes i j asked others spells begins) in
    let there : IsSynthesis (version_at_end i asked) s = subst (λ (p : Parts × List ReplayStep). IsSynthesis (version_at_end p.0 p.1) s) same is in
    ap (λ a. status_of (Ok a)) (same_kind report_text (version_at_end i asked) kind tells.told.report s tells.told.tells there ∙ sym kind_is)
one_kind log (Make seed sinks) bytes kind other text right k = ap (λ a. status_of (Ok a)) (right.0 ∙ sym k)
one_kind log (Job seed sinks workers) bytes kind other text right k =
    ap (λ a. status_of (Ok a)) (same_kind summary_in (made_parts seed sinks) kind text k.0 right k.1 ∙ sym k.2)
one_kind log (Trunk step buffer) bytes kind other text (i, spells, tells) (j, others, (s, is, kind_is)) =
    let same : j ≡ i = one_instance bytes j i others spells in
    ap (λ a. status_of (Ok a))
    (trunk_kind_one i step buffer kind other text s tells (subst (λ x. IsSynthesis x s) same is)
    (subst (λ x. IsTrunkKind x step buffer s other) same kind_is))

-- an input with a right text can be read
readable : (log : Log) (form : Form) (bytes : List ℕ) (kind : Answer) (text : List ℕ) → IsRight log form bytes kind text
    → IsReadable (reads form) bytes
readable log (Synth workers) bytes kind text right = (right.0, right.1)
readable log Near bytes kind text right = (right.0, right.1)
readable log Check bytes kind text right = (right.0, right.1, right.2)
readable log Edit bytes kind text right = (right.0, right.1, right.2)
readable log Replay bytes kind text right = (right.0, right.1, right.2)
readable log (Make seed sinks) bytes kind text right = tt
readable log (Job seed sinks workers) bytes kind text right = tt
readable log (Trunk step buffer) bytes kind text right = (right.0, right.1)

readable_kind : (log : Log) (form : Form) (bytes : List ℕ) (kind : Answer) → IsRightKind log form bytes kind → IsReadable (reads form) bytes
readable_kind log (Synth workers) bytes kind right = (right.0, right.1)
readable_kind log Near bytes kind right = (right.0, right.1)
readable_kind log Check bytes kind right = (right.0, right.1, right.2)
readable_kind log Edit bytes kind right = (right.0, right.1, right.2)
readable_kind log Replay bytes kind right = (right.0, right.1, right.2)
readable_kind log (Make seed sinks) bytes kind right = tt
readable_kind log (Job seed sinks workers) bytes kind right = tt
readable_kind log (Trunk step buffer) bytes kind right = (right.0, right.1)

-- an input at which a run stops can't be read: it is too long ..
refused_too_long : (reading : Reading) (bytes : List ℕ) → Explains reading stop.TooLong bytes → RefusesInput reading bytes
refused_too_long whole bytes x = λ s. omega (arith, x, s.1.within)
refused_too_long few bytes x = λ s. omega (arith, x, s.1.spells.within)
refused_too_long front bytes x = λ s. omega (arith, x, s.2.within)
refused_too_long scripted bytes x = λ s. omega (arith, x, s.2.within)
refused_too_long replayed bytes x = λ s. omega (arith, x, s.2.within)
refused_too_long nothing bytes x = λ s. x

-- .. or it spells too many sinks ..
refused_many : (reading : Reading) (bytes : List ℕ) → Explains reading stop.Many bytes → RefusesInput reading bytes
refused_many whole bytes x = λ s. x
refused_many few bytes (i, spells, many) = λ s.
    let same : i ≡ s.0 = one_instance bytes i s.0 spells s.1.spells in
    let fits : length i.sinks ≤ max_near_sinks = subst (λ (p : Parts). length p.sinks ≤ max_near_sinks) (sym same) s.1.few in
    omega (arith, many, fits)
refused_many front bytes x = λ s. x
refused_many scripted bytes x = λ s. x
refused_many replayed bytes x = λ s. x
refused_many nothing bytes x = λ s. x

-- .. or a line of it offends
refused_line : (reading : Reading) (bytes : List ℕ) (line : ℕ) (cause : Cause) → Explains reading (stop.Refused line cause) bytes
    → RefusesInput reading bytes
refused_line whole bytes line cause x = λ s. refused_spells_none bytes s.0 (line, cause) x.1 s.1
refused_line few bytes line cause x = λ s. refused_spells_none bytes s.0 (line, cause) x.1 s.1.spells
refused_line front bytes line cause x = λ s. refused_begins_none bytes s.0 s.1 (line, cause) x.1 s.2
refused_line scripted bytes line cause x = λ s. refused_scripts_none bytes s.0 s.1 (line, cause) x.1 s.2
refused_line replayed bytes line cause x = λ s. refused_replay_none bytes s.0 s.1 (line, cause) x.1 s.2
refused_line nothing bytes line cause x = λ s. x

-- the answer whose status this is
abbrev answer_told : Status → Option Answer
answer_told status.Done = Some answer.Text
answer_told status.No = Some answer.No
answer_told status.NoTree = Some answer.NoTree
answer_told status.NoTrunk = Some answer.NoTrunk
answer_told _ = None

told_of : (kind : Answer) → answer_told (status_of (Ok kind)) ≡ Some kind
told_of answer.Text = refl
told_of answer.No = refl
told_of answer.NoTree = refl
told_of answer.NoTrunk = refl

told_none : (end : Stop) → answer_told (status_of (Err end)) ≡ None
told_none stop.Words = refl
told_none end = refl

-- the status of an answer is that of no failure
not_told : (kind : Answer) {s : Status} → status_of (Ok kind) ≡ s → answer_told s ≡ None → ⊥
not_told kind same none = let e : Some kind ≡ None = sym (told_of kind) ∙ ap answer_told same ∙ none in cc

pub refused_at : (reading : Reading) (ending : Result Answer Stop) (left : Option (List ℕ))
    → IfErr ending (λ stop. OfInput reading left (Explains reading stop)) → status_of ending ≡ status.Refused
    → OfInput reading left (RefusesInput reading)
refused_at reading (Ok kind) left x e = absurd (not_told kind e refl)
refused_at reading (Err stop.TooLong) left x e =
    on_input reading left (Explains reading stop.TooLong) (RefusesInput reading) (refused_too_long reading) x
refused_at reading (Err stop.Many) left x e =
    on_input reading left (Explains reading stop.Many) (RefusesInput reading) (refused_many reading) x
refused_at reading (Err (stop.Refused line cause)) left x e =
    on_input reading left (Explains reading (stop.Refused line cause)) (RefusesInput reading) (λ b. refused_line reading b line cause) x
refused_at reading (Err end) left x e = absurd cc

-- a run without a fault, by the kind of its right text
pub complete_at : (log : Log) (form : Form) (E : Type 0) (ending : Result Answer Stop) (left old new : Option (List ℕ))
    → IfOk ending (λ kind. E × OfInput (reads form) left (λ bytes. IsAnswered (IsRight log form bytes) kind old new))
    → IfErr ending (λ stop. OfInput (reads form) left (Explains (reads form) stop))
    → (IsErrOf ending stop.Words → ⊥) → (IsErrOf ending stop.ReadFault → ⊥) → (IsErrOf ending stop.WriteFault → ⊥)
    → OfInput (reads form) left (λ bytes. (kind : Answer) → IsRightKind log form bytes kind
    → (status_of ending ≡ status_of (Ok kind)) ⊎ (status_of ending ≡ status.NoMemory))
complete_at log form E (Ok kind) left old new d x w r k =
    on_input (reads form) left (λ bytes. IsAnswered (IsRight log form bytes) kind old new) _
    (λ bytes a other right. inl (one_kind log form bytes kind other a.0 a.1 right)) d.1
complete_at log form E (Err stop.Words) left old new d x w r k = absurd (w refl)
complete_at log form E (Err stop.TooLong) left old new d x w r k =
    on_input (reads form) left (Explains (reads form) stop.TooLong) _
    (λ bytes e kind right. absurd (refused_too_long (reads form) bytes e (readable_kind log form bytes kind right))) x
complete_at log form E (Err stop.Many) left old new d x w r k =
    on_input (reads form) left (Explains (reads form) stop.Many) _
    (λ bytes e kind right. absurd (refused_many (reads form) bytes e (readable_kind log form bytes kind right))) x
complete_at log form E (Err (stop.Refused line cause)) left old new d x w r k =
    on_input (reads form) left (Explains (reads form) (stop.Refused line cause)) _
    (λ bytes e kind right. absurd (refused_line (reads form) bytes line cause e (readable_kind log form bytes kind right))) x
complete_at log form E (Err stop.ReadFault) left old new d x w r k = absurd (r refl)
complete_at log form E (Err stop.WriteFault) left old new d x w r k = absurd (k refl)
complete_at log form E (Err stop.NoMemory) left old new d x w r k = of_all (reads form) left _ (λ bytes kind right. inr refl)

-- a run without a failed read whose input can't be read
pub refuses_at : (log : Log) (form : Form) (E F G : Type 0) (ending : Result Answer Stop) (left old new : Option (List ℕ))
    → IfOk ending (λ kind. E × OfInput (reads form) left (λ bytes. IsAnswered (IsRight log form bytes) kind old new))
    → (IsErrOf ending stop.Words → ⊥) → (IsErrOf ending stop.ReadFault → ⊥)
    → (IsErrOf ending stop.WriteFault → F × G × OfInput (reads form) left (λ bytes. IsAnsweredInPart (IsRight log form bytes) old new))
    → OfInput (reads form) left (λ bytes. RefusesInput (reads form) bytes
    → (status_of ending ≡ status.Refused) ⊎ (status_of ending ≡ status.NoMemory))
refuses_at log form E F G (Ok kind) left old new d w r k =
    on_input (reads form) left (λ bytes. IsAnswered (IsRight log form bytes) kind old new) _
    (λ bytes a n. absurd (n (readable log form bytes kind a.0 a.1))) d.1
refuses_at log form E F G (Err stop.Words) left old new d w r k = absurd (w refl)
refuses_at log form E F G (Err stop.TooLong) left old new d w r k = of_all (reads form) left _ (λ bytes n. inl refl)
refuses_at log form E F G (Err stop.Many) left old new d w r k = of_all (reads form) left _ (λ bytes n. inl refl)
refuses_at log form E F G (Err (stop.Refused line cause)) left old new d w r k = of_all (reads form) left _ (λ bytes n. inl refl)
refuses_at log form E F G (Err stop.ReadFault) left old new d w r k = absurd (r refl)
refuses_at log form E F G (Err stop.WriteFault) left old new d w r k =
    on_input (reads form) left (λ bytes. IsAnsweredInPart (IsRight log form bytes) old new) _
    (λ bytes a n. absurd (n (readable log form bytes a.0 a.1 a.3))) (k refl).2
refuses_at log form E F G (Err stop.NoMemory) left old new d w r k = of_all (reads form) left _ (λ bytes n. inr refl)

-- an answer that was written whole is the one that its status tells
pub answered_at : (P : Answer → Type 0) (ending : Result Answer Stop) (kind : Answer) → status_of ending ≡ status_of (Ok kind)
    → IfOk ending P → P kind
answered_at P (Ok told) kind s p =
    let e : Some told ≡ Some kind = sym (told_of told) ∙ ap answer_told s ∙ told_of kind in
    let same : told ≡ kind = cc in
    subst P same p
answered_at P (Err end) kind s p = absurd (let e : None ≡ Some kind = sym (told_none end) ∙ ap answer_told s ∙ told_of kind in cc)

-- the one ending of each status of a failure
pub words_stop : (ending : Result Answer Stop) → status_of ending ≡ status.Words → IsErrOf ending stop.Words
words_stop (Err stop.Words) s = refl
words_stop (Err end) s = absurd cc
words_stop (Ok kind) s = absurd (not_told kind s refl)

pub read_stop : (ending : Result Answer Stop) → status_of ending ≡ status.ReadFault → IsErrOf ending stop.ReadFault
read_stop (Err stop.ReadFault) s = refl
read_stop (Err end) s = absurd cc
read_stop (Ok kind) s = absurd (not_told kind s refl)

pub write_stop : (ending : Result Answer Stop) → status_of ending ≡ status.WriteFault → IsErrOf ending stop.WriteFault
write_stop (Err stop.WriteFault) s = refl
write_stop (Err end) s = absurd cc
write_stop (Ok kind) s = absurd (not_told kind s refl)

-- the note of an input that is refused, by how it is read
names_too_long : {A : Type 0} (read : List ℕ → Result A Refusal) (left : Option (List ℕ)) → IfSome left (ExplainsBy read stop.TooLong)
    → NamesRefusal read left too_long_note
names_too_long read None x = inl refl
names_too_long read (Some bytes) x = inl (x, refl)

names_line : {A : Type 0} (read : List ℕ → Result A Refusal) (left : Option (List ℕ)) (line : ℕ) (cause : Cause)
    → IfSome left (ExplainsBy read (stop.Refused line cause)) → NamesRefusal read left (refusal_note line cause)
names_line read None line cause x = inr (line, cause, refl)
names_line read (Some bytes) line cause x = inr (x.0, line, cause, x.1, refl)

note_too_long : (reading : Reading) (left : Option (List ℕ)) → OfInput reading left (Explains reading stop.TooLong)
    → IsRefusalNote reading left too_long_note
note_too_long whole left x = names_too_long input_of left x
note_too_long few left x = inl (names_too_long input_of left x)
note_too_long front left x = names_too_long front_of left x
note_too_long scripted left x = names_too_long scripted_of left x
note_too_long replayed left x = names_too_long replayed_of left x
note_too_long nothing left x = x

note_line : (reading : Reading) (left : Option (List ℕ)) (line : ℕ) (cause : Cause)
    → OfInput reading left (Explains reading (stop.Refused line cause)) → IsRefusalNote reading left (refusal_note line cause)
note_line whole left line cause x = names_line input_of left line cause x
note_line few left line cause x = inl (names_line input_of left line cause x)
note_line front left line cause x = names_line front_of left line cause x
note_line scripted left line cause x = names_line scripted_of left line cause x
note_line replayed left line cause x = names_line replayed_of left line cause x
note_line nothing left line cause x = x

-- too many sinks are the cause where few are asked for
note_many : (form : Form) → form ≡ Near → (left : Option (List ℕ)) → OfInput (reads form) left (Explains (reads form) stop.Many)
    → IsRefusalNote (reads form) left many_note
note_many form is left x =
    let spelled : OfInput few left (Explains few stop.Many) = subst (λ (f : Form). OfInput (reads f) left (Explains (reads f) stop.Many)) is x in
    subst (λ (f : Form). IsRefusalNote (reads f) left many_note) (sym is) (inr (spelled, refl))

-- the note of a run on the one form that words ask for
pub note_at : (form : Form) (Asks : Form → Type 0) → ((other : Form) → Asks other → form ≡ other) → (ending : Result Answer Stop)
    (left : Option (List ℕ)) → IfErr ending (λ stop. OfInput (reads form) left (Explains (reads form) stop))
    → (IsErrOf ending stop.Many → form ≡ Near) → IsNote Asks left (status_of ending) (note_of ending)
unfolding note_of stop_note
note_at form Asks one (Ok answer.Text) left x many = refl
note_at form Asks one (Ok answer.NoTree) left x many = refl
note_at form Asks one (Ok answer.NoTrunk) left x many = refl
note_at form Asks one (Ok answer.No) left x many = refl
note_at form Asks one (Err stop.Many) left x many = λ other asks.
    subst (λ f. IsRefusalNote (reads f) left many_note) (one other asks) (note_many form (many refl) left x)
note_at form Asks one (Err stop.TooLong) left x many = λ other asks.
    subst (λ f. IsRefusalNote (reads f) left too_long_note) (one other asks) (note_too_long (reads form) left x)
note_at form Asks one (Err (stop.Refused line cause)) left x many = λ other asks.
    subst (λ f. IsRefusalNote (reads f) left (refusal_note line cause)) (one other asks) (note_line (reads form) left line cause x)
note_at form Asks one (Err end) left x many = refl

-- a text that was written where no fault rose
pub whole_at : {S : Type 0} {held : S → Option (List ℕ)} {faults : S → ℕ} {old new : S} {text : List ℕ} (result : Result Unit WriteEnd)
    → Writes held faults old new text result → (Rose (faults old) (faults new) → ⊥) → Appends (held old) (held new) text
whole_at (Ok _) w n = w.ok
whole_at (Err e) w n = absurd (n w.write_fault)

-- and a front of it in any case
all_of : (old new : Option (List ℕ)) (text : List ℕ) → Appends old new text → (count : ℕ) × Appends old new (take count text)
all_of old new text a = (length text, subst (Appends old new) (sym (take-length text)) a)

pub front_at : {S : Type 0} {held : S → Option (List ℕ)} {faults : S → ℕ} {old new : S} (text : List ℕ) (result : Result Unit WriteEnd)
    → Writes held faults old new text result → (count : ℕ) × Appends (held old) (held new) (take count text)
front_at text (Ok _) w = all_of _ _ text w.ok
front_at text (Err e) w = (w.cut.count, w.cut.taken)
