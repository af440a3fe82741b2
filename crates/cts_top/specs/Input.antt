-- What an input spells: an instance and nothing after it, or an instance and then scripts.
use Rattle.std.specs.Prelude.{◌≡◌, ℕ, ◌<◌, ◌≤◌, List, length, Result, Ok}
use Rattle.cts_instance.specs.declared.parts.Parts.{Parts}
use Rattle.cts_near.specs.Ends.{max_near_sinks}
use Rattle.cts_read.specs.Grammar.{◌>>=◌, Refusal}
use Rattle.cts_read.specs.Whole.{instance_of, rest_of}
use Rattle.cts_notes.specs.Front.{input_limit}
use Rattle.cts_script.specs.declared.script.ScriptStep.{ScriptStep}
use Rattle.cts_script.specs.Scripts.{script_at}

-- the instance that a text spells, or the first line that offends and its first cause
unfoldable pub input_of : List ℕ → Result Parts Refusal
input_of bytes = do
  taken ← instance_of bytes
  _ ← rest_of taken.1.lines
  Ok (taken.0.0)

-- The input is not too long, and spells this instance.
pub record Spells (bytes : List ℕ) (i : Parts) : Type 0 where
  pub within : length bytes ≤ input_limit
  pub read : input_of bytes ≡ Ok i

-- The input spells this instance, and it has few enough sinks for a nearest-pair topology.
pub record SpellsFew (bytes : List ℕ) (i : Parts) : Type 0 where
  pub spells : Spells bytes i
  pub few : length i.sinks ≤ max_near_sinks

-- the input spells an instance, and that has too many sinks for it
abbrev pub SpellsMany : List ℕ → Type 0
SpellsMany bytes = (i : Parts) × Spells bytes i × (max_near_sinks < length i.sinks)

-- the instance at the front of a text and the scripts of all callers, which are all that follows it; or the first line that
-- offends and its first cause
unfoldable pub scripted_of : List ℕ → Result (Parts × List (List ScriptStep)) Refusal
scripted_of bytes = do
  taken ← instance_of bytes
  scripts ← script_at taken.1
  Ok (taken.0.0, scripts)

-- The input is not too long, and spells this instance and then these scripts.
pub record SpellsScripts (bytes : List ℕ) (i : Parts) (scripts : List (List ScriptStep)) : Type 0 where
  pub within : length bytes ≤ input_limit
  pub read : scripted_of bytes ≡ Ok (i, scripts)
