-- What a run does, from how its words are answered and its notes written.
use Rattle.std.proofs.Common.{◌≡◌, ◌≢◌, ◌↔◌, inl, inr, Some, Result, Ok, Err, ◌≤◌, IfErr, IsErrOf, refl, sym, subst, arith}
use Rattle.cts_io.specs.Text.{Writes}
use Rattle.cts_io.specs.declared.write.WriteEnd.{WriteEnd}
use Rattle.cts_top.specs.declared.stop.Answer.{Answer}
use Rattle.cts_top.specs.declared.stop.Stop.{Stop}
use Rattle.cts_top.specs.declared.stop.Stop.TheVariants as stop
use Rattle.cts_notes.specs.declared.status.Status.TheVariants as status
use Rattle.cts_top.specs.declared.words.Form.{Form}
use Rattle.cts_top.specs.Kinds.{HasKind}
use Rattle.cts_top.specs.Log.{Log}
use Rattle.cts_top.specs.Notes.{note_of, stop_note}
use Rattle.cts_top.specs.Outcome.{Serves, status_of}
use Rattle.cts_top.specs.Reading.{HasRead, OfInput, reads}
use Rattle.cts_top.specs.Right.{IsRight}
use Rattle.cts_top.specs.Runs.{AnswersWords, Runs}
use Rattle.cts_top.specs.Streams.{IsUntouched, Stream, told_after, told_before}
use Rattle.cts_top.specs.Words.{IsAlone}
use Rattle.cts_top.specs.Written.{IsAnswered}
use Rattle.cts_top.proofs.Forms.{alone_or_not}
use Rattle.cts_top.proofs.Endings.{answered_at, complete_at, front_at, note_at, read_stop, refused_at, refuses_at, whole_at, words_stop, write_stop}

words_status : (ending : Result Answer Stop) → IsErrOf ending stop.Words → status_of ending ≡ status.Words
words_status (Ok kind) e = absurd cc
words_status (Err end) e = let same : end ≡ stop.Words = cc in rw same refl

-- at the statuses at which nothing is written the output is as it was
kept_at : (X : Type 0) (ending : Result Answer Stop) → IfErr ending (λ end. end ≢ stop.WriteFault → X)
    → ((kind : Answer) → status_of ending ≢ status_of (Ok kind)) → status_of ending ≢ status.WriteFault → X
kept_at X (Ok kind) k none write = absurd (none kind refl)
kept_at X (Err stop.WriteFault) k none write = absurd (write refl)
kept_at X (Err end) k none write = k (λ p. cc)

module _ {S K : Type 0} (Asks : Form → Type 0) (log : Log) (source : Stream S) (sink : Stream K) where
  pub runs : {N : Type 0} (notes : Stream N) (ending : Result Answer Stop) (written : Result Unit WriteEnd)
      → AnswersWords Asks log source sink ending
      → Writes notes.tells notes.faults notes.before notes.after (note_of ending) written
      → Runs Asks log source sink notes (status_of ending)
  runs notes ending written a w = record {
    words = (λ e. a.served.0 (words_stop ending e), λ none. words_status ending (a.served.1 none));
    untouched = λ e. a.untouched (words_stop ending e);
    others = λ form is. (a.serves form is).others;
    answered = λ form is kind s.
        answered_at (λ kind. HasRead (reads form) source × OfInput (reads form) (told_before source)
        (λ bytes. IsAnswered (IsRight log form bytes) kind (told_before sink) (told_after sink)))
        ending kind s (a.serves form is).done;
    kinds = λ form is kind s. answered_at (HasKind form) ending kind s (a.serves form is).kinds;
    refused = λ form is s. refused_at (reads form) ending (told_before source) (a.serves form is).explained s;
    read_fault = λ form is s. (a.serves form is).read_fault (read_stop ending s);
    write_fault = λ s. a.write_fault (write_stop ending s);
    in_part = λ form is s. let p = (a.serves form is).write_fault (write_stop ending s) in (p.0, p.2);
    sink_kept = kept_at (IsUntouched sink) ending a.kept;
    source_counted = a.source_counted;
    sink_counted = a.sink_counted;
    notes_counted = w.counted;
    complete = λ form is calm sound.
        let serves = a.serves form is in
        complete_at log form _ ending (told_before source) (told_before sink) (told_after sink) serves.done serves.explained
        (λ e. a.served.0 e form is) (λ e. calm (serves.read_fault e).0 (serves.read_fault e).1) (λ e. sound (serves.write_fault e).1);
    refuses = λ form is calm.
        let serves = a.serves form is in
        refuses_at log form _ _ _ ending (told_before source) (told_before sink) (told_after sink) serves.done
        (λ e. a.served.0 e form is) (λ e. calm (serves.read_fault e).0 (serves.read_fault e).1) serves.write_fault;
    note = (note_of ending, a.note, whole_at written w, front_at (note_of ending) written w);
  }

  -- words that ask for one form
  pub answers_form : (f : Form) (ending : Result Answer Stop) → ((form : Form) → (Some f ≡ Some form) ↔ Asks form)
      → Serves log f source sink ending → (IsErrOf ending stop.Words → ⊥) → AnswersWords Asks log source sink ending
  answers_form f ending is s served = record {
    served = (λ e. absurd (served e), λ none. absurd (none f ((is f).0 refl)));
    untouched = λ e. absurd (served e);
    serves = λ form asks.
        let e = (is form).1 asks in
        let same : f ≡ form = cc in
        subst (λ g. Serves log g source sink ending) same s;
    write_fault = λ e. (s.write_fault e).1;
    kept = s.kept;
    note = note_at f Asks (λ other asks. let e = (is other).1 asks in cc) ending (told_before source) s.explained s.many;
    source_counted = s.source_counted;
    sink_counted = s.sink_counted;
  }

  -- words that ask for none
  pub answers_none : (ending : Result Answer Stop) → IsErrOf ending stop.Words → IsUntouched source → IsUntouched sink
      → ((form : Form) → ¬ Asks form) → AnswersWords Asks log source sink ending
  unfolding note_of stop_note
  answers_none (Err stop.Words) words unread unwritten none = record {
    served = (λ e. none, λ none. refl);
    untouched = λ e. unread;
    serves = λ form asks. absurd (none form asks);
    write_fault = λ e. absurd cc;
    kept = λ n. unwritten;
    note = refl;
    source_counted = subst (λ s. source.faults source.before ≤ source.faults s) (sym unread) (omega arith);
    sink_counted = subst (λ s. sink.faults sink.before ≤ sink.faults s) (sym unwritten) (omega arith);
  }
  answers_none (Err end) words unread unwritten none = absurd cc
  answers_none (Ok kind) words unread unwritten none = absurd cc

-- words that ask for one form, where it is served if it asks for one thread
module _ {S K : Type 0} (Asks : Form → Type 0) (log : Log) (source : Stream S) (sink : Stream K) where
  pub answers_alone : (f : Form) (ending : Result Answer Stop) → ((form : Form) → (Some f ≡ Some form) ↔ Asks form)
      → (IsAlone f → Serves log f source sink ending) → IsErrOf ending stop.Words ↔ ¬ IsAlone f
      → (¬ IsAlone f → IsUntouched source) → (¬ IsAlone f → IsUntouched sink)
      → AnswersWords (λ form. Asks form × IsAlone form) log source sink ending
  answers_alone f ending is serves words unread unwritten = elim (alone_or_not f) [
    | inl alone ↦ answers_form (λ form. Asks form × IsAlone form) log source sink f ending
        (λ form. (
          λ e. let same : f ≡ form = cc in ((is form).0 e, subst IsAlone same alone),
          λ asks. (is form).1 asks.0,
        ))
        (serves alone) (λ e. words.0 e alone)
    | inr many ↦ answers_none (λ form. Asks form × IsAlone form) log source sink ending (words.1 many) (unread many) (unwritten many)
        (λ form asks. let e : Some f ≡ Some form = (is form).1 asks.0 in let same : form ≡ f = cc in many (subst IsAlone same asks.1))
  ]
