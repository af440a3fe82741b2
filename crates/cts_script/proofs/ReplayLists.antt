-- The steps of a replay, line by line.
use Rattle.std.proofs.Common.{◌≡◌, ℕ, ◌<◌, List, [], ◌∷◌, ◌++◌, length, Option, None, Some, Result, Ok, Err, refl, sym, ap, ◌∙◌, arith}
use Rattle.cts_read.specs.declared.stop.Cause.{Cause}
use Rattle.cts_read.specs.declared.stop.ReadStop.{ReadStop}
use Rattle.cts_read.specs.declared.stop.ReadStop.TheVariants.{Refused, NoMemory}
use Rattle.cts_read.specs.Grammar.{◌>>=◌, Left, Refusal, Refuses, at_line, line_at}
use Rattle.cts_script.specs.declared.replay.ReplayAct.{ReplayAct}
use Rattle.cts_script.specs.declared.replay.ReplayStep.{ReplayStep}
use Rattle.cts_script.specs.Replays.{with_line, replay_line, replay_on, replay_step_at, replay_steps_at, replay_steps_in}

-- what the steps are after the next line was read
abbrev after_step : List ReplayStep → Option ReplayStep × Left → Result (List ReplayStep × Left) Refusal
after_step before x = replay_on x.0 (Ok (before, x.1)) (λ step. replay_steps_at (before ++ step ∷ []) x.1)

first_said : (before : List ReplayStep) (number : ℕ) (left : Left) (said : Result (Option ReplayAct) Cause)
    → (at_line number said >>= λ s. after_step before (with_line number s, left))
    ≡ ((at_line number said >>= λ s. Ok (with_line number s, left)) >>= after_step before)
first_said before number left (Ok said) = refl
first_said before number left (Err cause) = refl

first_in : (before : List ReplayStep) (lines : List (ℕ × List ℕ)) (missing : ℕ)
    → replay_steps_in before lines missing
    ≡ (replay_step_at (length before) (record { lines = lines; missing = missing }) >>= after_step before)
unfolding replay_steps_in replay_step_at line_at
first_in before [] missing = refl
first_in before (next ∷ later) missing =
    first_said before next.0 (record { lines = later; missing = missing }) (replay_line (length before) next.1)

module _ (before : List ReplayStep) (many : ℕ) (left : Left) (all : many ≡ length before) where
  first_of_steps : replay_steps_at before left ≡ (replay_step_at many left >>= after_step before)
  first_of_steps =
      first_in before left.lines left.missing ∙ ap (λ n. replay_step_at n left >>= after_step before) (sym all)

  -- the next line is one step more
  pub steps_more : (step : ReplayStep) (after : Left) → replay_step_at many left ≡ Ok (Some step, after)
      → replay_steps_at before left ≡ replay_steps_at (before ++ step ∷ []) after
  steps_more step after e =
      first_of_steps ∙ ap (λ (r : Result (Option ReplayStep × Left) Refusal). r >>= after_step before) e

  -- the next line is the end
  pub steps_end : (after : Left) → replay_step_at many left ≡ Ok (None, after) → replay_steps_at before left ≡ Ok (before, after)
  steps_end after e =
      first_of_steps ∙ ap (λ (r : Result (Option ReplayStep × Left) Refusal). r >>= after_step before) e

  -- the next line is refused
  pub steps_refused : (stop : ReadStop) → Refuses stop (replay_step_at many left) → Refuses stop (replay_steps_at before left)
  steps_refused NoMemory e = tt
  steps_refused (Refused line cause) e =
      first_of_steps ∙ ap (λ (r : Result (Option ReplayStep × Left) Refusal). r >>= after_step before) e

fewer_said : (number : ℕ) (left after : Left) (said : Result (Option ReplayAct) Cause) (found : Option ReplayStep)
    → ◌>>=◌ {B = Option ReplayStep × Left} (at_line number said) (λ s. Ok (with_line number s, left)) ≡ Ok (found, after) → left ≡ after
fewer_said number left after (Ok said) found e =
    let whole : ◌≡◌ {A = Option ReplayStep × Left} (with_line number said, left) (found, after) = cc in
    ap (λ (x : Option ReplayStep × Left). x.1) whole
fewer_said number left after (Err cause) found e = cc

fewer_in : (many : ℕ) (lines : List (ℕ × List ℕ)) (missing : ℕ) (found : Option ReplayStep) (after : Left)
    → replay_step_at many (record { lines = lines; missing = missing }) ≡ Ok (found, after) → length after.lines < length lines
unfolding replay_step_at line_at
fewer_in many [] missing found after e = cc
fewer_in many (next ∷ later) missing found after e =
    let same : ◌≡◌ {A = Left} (record { lines = later; missing = missing }) after = fewer_said next.0 _ after (replay_line many next.1) found e in
    omega (arith, ap (λ (left : Left). length left.lines) same)

-- fewer lines are left after a step
pub fewer_lines : (many : ℕ) (left : Left) (found : Option ReplayStep) (after : Left)
    → replay_step_at many left ≡ Ok (found, after) → length after.lines < length left.lines
fewer_lines many left found after e = fewer_in many left.lines left.missing found after e
