-- An input, read as an instance and what follows it.
use Rattle.std.proofs.Common.{◌≡◌, ℕ, ◌≤◌, List, length, drop, take, ◌-◌, refl, Result, Ok, Err}
use Rattle.std.proofs.lemmas.List.{take_rest}
use Rattle.cts_io.specs.Lines.{lines_of}
use Rattle.cts_instance.specs.declared.parts.Parts.{Parts}
use Rattle.cts_read.specs.declared.stop.ReadStop.{ReadStop}
use Rattle.cts_read.specs.declared.stop.ReadStop.TheVariants.{Refused, NoMemory}
use Rattle.cts_read.specs.Grammar.{Left, Refusal, Refuses, content, left_in, left_of}
use Rattle.cts_read.specs.Whole.{Rests, instance_of, place_at, rest_of}
use Rattle.cts_script.specs.declared.script.ScriptStep.{ScriptStep}
use Rattle.cts_script.specs.Scripts.{script_at}
use Rattle.cts_notes.specs.Front.{input_limit}
use Rattle.cts_top.specs.Input.{input_of, scripted_of}
use Rattle.cts_top.specs.Outcome.{stop_of_text}
use Rattle.cts_top.specs.Reading.{ExplainsBy}

-- the lines after so many bytes, in the form of a slice
pub left_at : (bytes : List ℕ) (used line : ℕ) → (left_of (place_at bytes used line)).lines ≡ content line (lines_of (take (length bytes - used) (drop used bytes)))
unfolding left_of
left_at bytes used line = rw (take_rest bytes used) refl

pub whole_read : (bytes : List ℕ) (x : Parts × ℕ) (left : Left) → instance_of bytes ≡ Ok (x, left) → rest_of left.lines ≡ Ok tt → input_of bytes ≡ Ok x.0
unfolding input_of
whole_read bytes x left e f = rw (e, f) refl

pub front_refused : (bytes : List ℕ) (stop : ReadStop) → Refuses stop (instance_of bytes) → Refuses stop (input_of bytes)
unfolding input_of
front_refused bytes (Refused line cause) e = rw e refl
front_refused bytes NoMemory e = tt

pub rest_refused : (bytes : List ℕ) (x : Parts × ℕ) (left : Left) (stop : ReadStop) → instance_of bytes ≡ Ok (x, left)
    → Rests (Err stop) (rest_of left.lines) → Refuses stop (input_of bytes)
unfolding input_of
rest_refused bytes x left (Refused line cause) e f = rw (e, f) refl
rest_refused bytes x left NoMemory e f = tt

-- the lines left after the instance at the front, in the form of a slice
pub scripts_left : (bytes : List ℕ) (used line : ℕ)
    → left_of (place_at bytes used line) ≡ left_in (record { rest = take (length bytes - used) (drop used bytes); line = line })
unfolding left_of
scripts_left bytes used line = rw (take_rest bytes used) refl

pub scripts_read : (bytes : List ℕ) (x : Parts × ℕ) (left : Left) (scripts : List (List ScriptStep)) → instance_of bytes ≡ Ok (x, left)
    → script_at left ≡ Ok scripts → scripted_of bytes ≡ Ok (x.0, scripts)
unfolding scripted_of
scripts_read bytes x left scripts e f = rw (e, f) refl

pub front_of_scripts_refused : (bytes : List ℕ) (stop : ReadStop) → Refuses stop (instance_of bytes) → Refuses stop (scripted_of bytes)
unfolding scripted_of
front_of_scripts_refused bytes (Refused line cause) e = rw e refl
front_of_scripts_refused bytes NoMemory e = tt

pub scripts_refused : (bytes : List ℕ) (x : Parts × ℕ) (left : Left) (stop : ReadStop) → instance_of bytes ≡ Ok (x, left)
    → Refuses stop (script_at left) → Refuses stop (scripted_of bytes)
unfolding scripted_of
scripts_refused bytes x left (Refused line cause) e f = rw (e, f) refl
scripts_refused bytes x left NoMemory e f = tt

-- a stop of reading explains a stop of the run
pub refuses_explains : {A : Type 0} (reading : List ℕ → Result A Refusal) (bytes : List ℕ) (stop : ReadStop) → length bytes ≤ input_limit
    → Refuses stop (reading bytes) → ExplainsBy reading (stop_of_text stop) bytes
refuses_explains reading bytes (Refused line cause) h e = (h, e)
refuses_explains reading bytes NoMemory h e = tt
