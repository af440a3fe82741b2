-- A line that says a step of any script asks for neither an undo nor a redo.
use Rattle.std.proofs.Common.{◌≡◌, ℕ, Bool, true, false, cond, List, [], ◌∷◌, Option, None, Some, Result, Ok, Err, refl, ap, codes}
use Rattle.std.specs.Str.{bytes_eq}
use Rattle.cts_num.proofs.CanonicalTexts.{texts_agree}
use Rattle.cts_read.specs.declared.stop.Cause.{Cause}
use Rattle.cts_read.specs.declared.stop.Cause.TheVariants.{NotAscii, Word, Count}
use Rattle.cts_read.specs.Lines.{is_printable, words_of}
use Rattle.cts_read.specs.Grammar.{◌>>=◌}
use Rattle.cts_script.specs.declared.step.ScriptLine.{ScriptLine}
use Rattle.cts_script.specs.declared.step.StepKind.{StepKind}
use Rattle.cts_script.specs.declared.replay.ReplayAct.{ReplayAct}
use Rattle.cts_script.specs.Steps.{counted, is_digits, kind_at, kind_of, line_of, said_by, step_of}
use Rattle.cts_script.specs.Replays.{moved_by, mover_of, replay_line, stepped}

undo_is_no_kind : (word : List ℕ) (kind : StepKind) → word ≡ codes "undo" → kind_of word ≡ Some kind → ⊥
unfolding kind_of
undo_is_no_kind word kind same named = let none : kind_of word ≡ None = ap kind_of same in cc

redo_is_no_kind : (word : List ℕ) (kind : StepKind) → word ≡ codes "redo" → kind_of word ≡ Some kind → ⊥
unfolding kind_of
redo_is_no_kind word kind same named = let none : kind_of word ≡ None = ap kind_of same in cc

no_undo : (word : List ℕ) (kind : StepKind) → kind_of word ≡ Some kind → bytes_eq word (codes "undo") ≡ false
no_undo word kind named = by_test (bytes_eq word (codes "undo")) refl
  where
    by_test : (test : Bool) → bytes_eq word (codes "undo") ≡ test → test ≡ false
    by_test true e = absurd (undo_is_no_kind word kind (texts_agree _ _ e) named)
    by_test false e = refl

no_redo : (word : List ℕ) (kind : StepKind) → kind_of word ≡ Some kind → bytes_eq word (codes "redo") ≡ false
no_redo word kind named = by_test (bytes_eq word (codes "redo")) refl
  where
    by_test : (test : Bool) → bytes_eq word (codes "redo") ≡ test → test ≡ false
    by_test true e = absurd (redo_is_no_kind word kind (texts_agree _ _ e) named)
    by_test false e = refl

kind_not_moved : (word : List ℕ) (kind : StepKind) → kind_of word ≡ Some kind → moved_by word ≡ None
unfolding moved_by
kind_not_moved word kind named = rw (no_undo word kind named, no_redo word kind named) refl

counted_not_moved : (word : List ℕ) (words : List (List ℕ)) (found : Option StepKind) (f : StepKind × List (List ℕ) → Result ScriptLine Cause) (said : ScriptLine)
    → kind_of word ≡ found → (counted found words >>= f) ≡ Ok said → moved_by word ≡ None
counted_not_moved word words None f said named e = cc
counted_not_moved word words (Some kind) f said named e = kind_not_moved word kind named

step_not_moved : (callers before : ℕ) (all : List (List ℕ)) (word : List ℕ) (words : List (List ℕ)) (said : ScriptLine)
    → step_of callers before all (word ∷ words) ≡ Ok said → moved_by word ≡ None
unfolding step_of kind_at
step_not_moved callers before all word words said e = counted_not_moved word words (kind_of word) _ said refl e

after_end : (test : Bool) (other : Result ScriptLine Cause) (said : ScriptLine) → cond test (Err Count) other ≡ Ok said → other ≡ Ok said
after_end true other said e = cc
after_end false other said e = e

by_digits : (test : Bool) (step : Result ScriptLine Cause) (said : ScriptLine) (moved : Option ReplayAct) → (step ≡ Ok said → moved ≡ None)
    → cond test step (Err Word) ≡ Ok said → cond test moved None ≡ None
by_digits true step said moved none e = none e
by_digits false step said moved none e = refl

said_not_moved : (callers before : ℕ) (words : List (List ℕ)) (said : ScriptLine) → said_by callers before words ≡ Ok said → mover_of words ≡ None
unfolding said_by mover_of
said_not_moved callers before [] said e = refl
said_not_moved callers before (caller ∷ []) said e = refl
said_not_moved callers before (caller ∷ word ∷ words) said e =
    by_digits (is_digits caller) _ said (moved_by word) (step_not_moved callers before (caller ∷ word ∷ words) word words said) (after_end _ _ said e)

by_printable : (test : Bool) (other : Result ScriptLine Cause) (said : ScriptLine) → cond test other (Err NotAscii) ≡ Ok said → (test ≡ true) × (other ≡ Ok said)
by_printable true other said e = (refl, e)
by_printable false other said e = absurd (cc)

printable_said : (callers before : ℕ) (line : List ℕ) (said : ScriptLine) → line_of callers before line ≡ Ok said
    → (is_printable line ≡ true) × (said_by callers before (words_of line) ≡ Ok said)
unfolding line_of
printable_said callers before line said e = by_printable (is_printable line) _ said e

-- a line that says this asks for the same in a replay
pub replay_of_step : (before : ℕ) (line : List ℕ) (said : ScriptLine) → line_of 1 before line ≡ Ok said → replay_line before line ≡ Ok (stepped said)
unfolding replay_line
replay_of_step before line said e =
    let parts = printable_said 1 before line said e in
    rw (parts.0, said_not_moved 1 before (words_of line) said parts.1) (ap (λ (r : Result ScriptLine Cause). r >>= λ s. Ok (stepped s)) e)
