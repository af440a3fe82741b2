-- The words that are served, and what they ask for.
use Rattle.std.specs.Prelude.{◌≡◌, ℕ, ◌<◌, ◌≤◌, ◌^◌, List, [], ◌∷◌, map, codes, String, string_bytes, Ok}
use Rattle.std.specs.Global.{Global}
use Rattle.cts_num.specs.Reading.{reading_of}
use Rattle.cts_top.specs.declared.words.Form.{Form}
use Rattle.cts_top.specs.declared.words.Form.TheVariants.{Synth, Check, Edit, Make, Job, Trunk, Near, Replay}
use Rattle.cts_top.specs.TrunkWords.{IsBufferIndex, IsStep}

-- a word is this number, with no decimal places
abbrev pub IsNumber : List ℕ → ℕ → Type 0
IsNumber word number = reading_of word 0 ≡ Ok number

-- two words are a seed and a number of sinks, each within its limits
pub record AreMade (seed_word sinks_word : List ℕ) (seed sinks : ℕ) : Type 0 where
  pub seed_is : IsNumber seed_word seed
  pub seed_within : seed < 2 ^ 31
  pub sinks_is : IsNumber sinks_word sinks
  pub some_sink : 1 ≤ sinks
  pub sinks_within : sinks ≤ 65536

-- a word is a number of workers
abbrev pub IsWorkers : List ℕ → ℕ → Type 0
IsWorkers word workers = IsNumber word workers × (1 ≤ workers) × (workers ≤ 64)

-- what words of these bytes ask for: `synth W`, `check`, `edit`, `make SEED N`, `job SEED N W`, `trunk STEP J`, `near` or
-- `replay`
abbrev pub AsksFor : List (List ℕ) → Form → Type 0
AsksFor words (Synth workers) = (w : List ℕ) × (words ≡ codes "synth" ∷ w ∷ []) × IsWorkers w workers
AsksFor words Check = words ≡ codes "check" ∷ []
AsksFor words Edit = words ≡ codes "edit" ∷ []
AsksFor words Near = words ≡ codes "near" ∷ []
AsksFor words Replay = words ≡ codes "replay" ∷ []
AsksFor words (Make seed sinks) =
    (s : List ℕ) × (n : List ℕ) × (words ≡ codes "make" ∷ s ∷ n ∷ []) × AreMade s n seed sinks
AsksFor words (Job seed sinks workers) =
    (s : List ℕ) × (n : List ℕ) × (w : List ℕ) × (words ≡ codes "job" ∷ s ∷ n ∷ w ∷ [])
    × AreMade s n seed sinks × IsWorkers w workers
AsksFor words (Trunk step buffer) =
    (s : List ℕ) × (j : List ℕ) × (words ≡ codes "trunk" ∷ s ∷ j ∷ []) × IsStep s step × IsBufferIndex j buffer

-- what some words ask for
abbrev pub IsForm : List (String Global) → Form → Type 0
IsForm words form = AsksFor (map string_bytes words) form

-- a form that is served without more than one worker or caller
abbrev pub IsAlone : Form → Type 0
IsAlone (Synth workers) = workers ≡ 1
IsAlone Check = Unit
IsAlone Edit = ⊥
IsAlone Near = Unit
IsAlone Replay = Unit
IsAlone (Make seed sinks) = Unit
IsAlone (Job seed sinks workers) = workers ≡ 1
IsAlone (Trunk step buffer) = Unit

-- what some words ask for, where it is such a form: `synth 1`, `check`, `make SEED N`, `job SEED N 1`, `trunk STEP J`, `near` or
-- `replay`
abbrev pub IsFormAlone : List (String Global) → Form → Type 0
IsFormAlone words form = IsForm words form × IsAlone form

-- the numbers of a form are within their limits
abbrev pub IsWithinLimits : Form → Type 0
IsWithinLimits (Synth workers) = (1 ≤ workers) × (workers ≤ 64)
IsWithinLimits Check = Unit
IsWithinLimits Edit = Unit
IsWithinLimits Near = Unit
IsWithinLimits Replay = Unit
IsWithinLimits (Make seed sinks) = (seed < 2 ^ 31) × (1 ≤ sinks) × (sinks ≤ 65536)
IsWithinLimits (Job seed sinks workers) = (seed < 2 ^ 31) × (1 ≤ sinks) × (sinks ≤ 65536) × (1 ≤ workers) × (workers ≤ 64)
IsWithinLimits (Trunk step buffer) = (1 ≤ step) × (step < 2 ^ 31) × (buffer ≤ 15)
