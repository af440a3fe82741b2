-- A text on its way to a sink.
use Rattle.std.specs.Prelude.{◌≡◌, ℕ, ◌-◌, ◌^◌, ◌<◌, ◌≤◌, min, true, false, List, ◌++◌, length, take, Option, Result, OnOk, OnErr, IfErr}
use Rattle.std.specs.Io.KnownBytes.{Appends}
use Rattle.cts_io.specs.Faults.{Rose}
use Rattle.cts_io.specs.Pending.{Pending}
use Rattle.cts_io.specs.Written.{written_of}
use Rattle.cts_io.specs.declared.device.ByteSink.{Ghosts}
use Rattle.cts_io.specs.declared.write.WriteEnd.{WriteEnd}

-- The sink took exactly the first bytes of the text, as many as `written` says. That count stands still at 2^64 - 1.
pub record IsCut (old new : Option (List ℕ)) (text : List ℕ) (written : ℕ) : Type 0 where
  pub count : ℕ
  pub within : count ≤ length text
  pub told : written ≡ min count (2 ^ 64 - 1)
  pub taken : Appends old new (take count text)

-- a text of less than 2^64 bytes that was cut: the sink took exactly its first `written` bytes
abbrev pub CutIsExact : Type 0
CutIsExact = (old new : Option (List ℕ)) (text : List ℕ) (written : ℕ) → length text < 2 ^ 64 → IsCut old new text written
    → (written ≤ length text) × Appends old new (take written text)

-- What a call that writes a text has done: after Ok the sink has taken all of it. An error comes only where the sink's
-- count of faults rose in the call, and says how much of the text the sink has taken. The count never falls.
pub record Writes {S : Type 0} (held : S → Option (List ℕ)) (faults : S → ℕ) (old new : S) (text : List ℕ) (result : Result Unit WriteEnd) : Type 0 where
  pub ok : OnOk result (Appends (held old) (held new) text)
  pub cut : IfErr result (λ e. IsCut (held old) (held new) text (written_of e))
  pub write_fault : OnErr result (Rose (faults old) (faults new))
  pub counted : faults old ≤ faults new

-- Since the sink was as in `start`, this text was given to it and the buffer before it: a front of the text went to the
-- sink, and the rest waits in the buffer, or is lost where the sink failed.
pub record IsGiven {S : Type 0} (sink : Ghosts S) (start : S) (text : List ℕ) (now : S × Pending) : Type 0 where
  pub front : List ℕ
  pub rest : List ℕ
  pub whole : text ≡ front ++ rest
  pub taken : Appends (sink.held start) (sink.held now.0) front
  pub told : now.1.written ≡ min (length front) (2 ^ 64 - 1)
  pub waits : now.1.failed ≡ false → rest ≡ now.1.waiting
  pub rose : now.1.failed ≡ true → Rose (sink.faults start) (sink.faults now.0)
  pub counted : sink.faults start ≤ sink.faults now.0

-- From one state of a sink with its buffer to another: whatever text was given before, this piece was given after it.
pub record Puts {S : Type 0} (sink : Ghosts S) (old new : S × Pending) (piece : List ℕ) : Type 0 where
  pub extends : (start : S) (text : List ℕ) → IsGiven sink start text old → IsGiven sink start (text ++ piece) new

-- whatever text was given before, its writing came to its end
pub record Finishes {S : Type 0} (sink : Ghosts S) (old : S × Pending) (new : S) (result : Result Unit WriteEnd) : Type 0 where
  pub ends : (start : S) (text : List ℕ) → IsGiven sink start text old → Writes sink.held sink.faults start new text result
