-- What a run does to a stream: to its input, its output or its notes.
use Rattle.std.specs.Prelude.{◌≡◌, ◌≤◌, ℕ, List, Option, take}
use Rattle.std.specs.Io.KnownBytes.{Appends, IsAtEnd}
use Rattle.cts_io.specs.Faults.{Rose}

-- A stream before a run and after it, with what it tells: the bytes that are left in it, or that it holds, and the count of
-- its faults.
pub record Stream (T : Type 0) : Type 0 where
  pub tells : T → Option (List ℕ)
  pub faults : T → ℕ
  pub before : T
  pub after : T

-- what it told before the run, and what it tells after it
abbrev pub told_before : {T : Type 0} → Stream T → Option (List ℕ)
told_before stream = stream.tells stream.before

abbrev pub told_after : {T : Type 0} → Stream T → Option (List ℕ)
told_after stream = stream.tells stream.after

-- it is as it was
abbrev pub IsUntouched : {T : Type 0} → Stream T → Type 0
IsUntouched stream = stream.after ≡ stream.before

-- it was read to its end
abbrev pub IsReadWhole : {T : Type 0} → Stream T → Type 0
IsReadWhole stream = IsAtEnd (told_after stream)

-- these bytes were added to it, and no others
abbrev pub Grew : {T : Type 0} → Stream T → List ℕ → Type 0
Grew stream bytes = Appends (told_before stream) (told_after stream) bytes

-- a front of these bytes was added to it, and nothing else
abbrev pub GrewBy : {T : Type 0} → Stream T → List ℕ → Type 0
GrewBy stream bytes = (count : ℕ) × Appends (told_before stream) (told_after stream) (take count bytes)

-- it failed
abbrev pub Failed : {T : Type 0} → Stream T → Type 0
Failed stream = Rose (stream.faults stream.before) (stream.faults stream.after)

-- it forgot no fault
abbrev pub KeepsCount : {T : Type 0} → Stream T → Type 0
KeepsCount stream = stream.faults stream.before ≤ stream.faults stream.after
