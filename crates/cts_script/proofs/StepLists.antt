-- The steps of a script, line by line.
use Rattle.std.proofs.Common.{◌≡◌, ℕ, ◌<◌, List, [], ◌∷◌, ◌++◌, length, Option, None, Some, Result, Ok, Err, refl, sym, ap, ◌∙◌, arith}
use Rattle.cts_read.specs.declared.stop.Cause.{Cause}
use Rattle.cts_read.specs.declared.stop.ReadStop.{ReadStop}
use Rattle.cts_read.specs.declared.stop.ReadStop.TheVariants.{Refused, NoMemory}
use Rattle.cts_read.specs.Grammar.{◌>>=◌, Left, Refusal, Refuses, at_line, line_at}
use Rattle.cts_script.specs.declared.step.Asked.{Asked}
use Rattle.cts_script.specs.declared.step.ScriptLine.{ScriptLine}
use Rattle.cts_script.specs.Steps.{line_of}
use Rattle.cts_script.specs.Scripts.{asked_at, go_on, step_at, steps_at, steps_in}

-- what the steps are after the next line was read
abbrev after_step : ℕ → List Asked → Option Asked × Left → Result (List Asked × Left) Refusal
after_step callers before x = go_on x.0 (Ok (before, x.1)) (λ asked. steps_at callers (before ++ asked ∷ []) x.1)

first_said : (callers : ℕ) (before : List Asked) (number : ℕ) (left : Left) (said : Result ScriptLine Cause)
    → (at_line number said >>= λ s. after_step callers before (asked_at number s, left))
    ≡ ((at_line number said >>= λ s. Ok (asked_at number s, left)) >>= after_step callers before)
first_said callers before number left (Ok said) = refl
first_said callers before number left (Err cause) = refl

first_in : (callers : ℕ) (before : List Asked) (lines : List (ℕ × List ℕ)) (missing : ℕ)
    → steps_in callers before lines missing
    ≡ (step_at callers (length before) (record { lines = lines; missing = missing }) >>= after_step callers before)
unfolding steps_in step_at line_at
first_in callers before [] missing = refl
first_in callers before (next ∷ later) missing =
    first_said callers before next.0 (record { lines = later; missing = missing }) (line_of callers (length before) next.1)

module _ (callers : ℕ) (before : List Asked) (many : ℕ) (left : Left) (all : many ≡ length before) where
  first_of_steps : steps_at callers before left ≡ (step_at callers many left >>= after_step callers before)
  first_of_steps =
      first_in callers before left.lines left.missing ∙ ap (λ n. step_at callers n left >>= after_step callers before) (sym all)

  -- the next line is one step more
  pub steps_more : (asked : Asked) (after : Left) → step_at callers many left ≡ Ok (Some asked, after)
      → steps_at callers before left ≡ steps_at callers (before ++ asked ∷ []) after
  steps_more asked after e =
      first_of_steps ∙ ap (λ (r : Result (Option Asked × Left) Refusal). r >>= after_step callers before) e

  -- the next line is the end
  pub steps_end : (after : Left) → step_at callers many left ≡ Ok (None, after) → steps_at callers before left ≡ Ok (before, after)
  steps_end after e =
      first_of_steps ∙ ap (λ (r : Result (Option Asked × Left) Refusal). r >>= after_step callers before) e

  -- the next line is refused
  pub steps_refused : (stop : ReadStop) → Refuses stop (step_at callers many left) → Refuses stop (steps_at callers before left)
  steps_refused NoMemory e = tt
  steps_refused (Refused line cause) e =
      first_of_steps ∙ ap (λ (r : Result (Option Asked × Left) Refusal). r >>= after_step callers before) e

fewer_said : (number : ℕ) (left after : Left) (said : Result ScriptLine Cause) (found : Option Asked)
    → ◌>>=◌ {B = Option Asked × Left} (at_line number said) (λ s. Ok (asked_at number s, left)) ≡ Ok (found, after) → left ≡ after
fewer_said number left after (Ok said) found e =
    let whole : ◌≡◌ {A = Option Asked × Left} (asked_at number said, left) (found, after) = cc in
    ap (λ (x : Option Asked × Left). x.1) whole
fewer_said number left after (Err cause) found e = cc

fewer_in : (callers many : ℕ) (lines : List (ℕ × List ℕ)) (missing : ℕ) (found : Option Asked) (after : Left)
    → step_at callers many (record { lines = lines; missing = missing }) ≡ Ok (found, after) → length after.lines < length lines
unfolding step_at line_at
fewer_in callers many [] missing found after e = cc
fewer_in callers many (next ∷ later) missing found after e =
    let same : ◌≡◌ {A = Left} (record { lines = later; missing = missing }) after = fewer_said next.0 _ after (line_of callers many next.1) found e in
    omega (arith, ap (λ (left : Left). length left.lines) same)

-- fewer lines are left after a step
pub fewer_lines : (callers many : ℕ) (left : Left) (found : Option Asked) (after : Left)
    → step_at callers many left ≡ Ok (found, after) → length after.lines < length left.lines
fewer_lines callers many left found after e = fewer_in callers many left.lines left.missing found after e
