-- Lines of a list, one after another.
use Rattle.std.proofs.Common.{◌≡◌, ℕ, ◌+◌, ◌-◌, ◌<◌, suc, List, [], ◌∷◌, ◌++◌, Option, None, Result, Ok, refl, sym, ap, ◌∙◌, arith}
use Rattle.cts_instance.specs.FirstFault.{first_of}
use Rattle.cts_instance.specs.declared.fault.Fault.{Fault}
use Rattle.cts_instance.proofs.FirstFaultLemmas.{first_of-nil, first_of-cons, first_of-append}
use Rattle.cts_read.specs.declared.stop.Cause.{Cause}
use Rattle.cts_read.specs.declared.stop.ReadStop.{ReadStop}
use Rattle.cts_read.specs.declared.stop.ReadStop.TheVariants.{Refused, NoMemory}
use Rattle.cts_read.specs.Grammar.{◌>>=◌, Left, Refusal, Refuses, item_at}
use Rattle.cts_read.specs.Items.{list_at}

one_fewer : (count k : ℕ) → k < count → count - k ≡ suc (count - (k + 1))
one_fewer count k h = omega arith

module _ {A : Type 0} (read : List A → List ℕ → Result A Cause) where
  -- the next line is the next item
  pub list_step : (count k : ℕ) (before : List A) (left : Left) (item : A) (after : Left) → k < count → item_at (read before) left ≡ Ok (item, after)
      → list_at read (count - (k + 1)) (before ++ item ∷ []) after ≡ list_at read (count - k) before left
  unfolding list_at
  list_step count k before left item after h e =
      sym (ap (λ n. list_at read n before left) (one_fewer count k h)
      ∙ ap (λ (r : Result (A × Left) Refusal). r >>= λ x. list_at read (count - (k + 1)) (before ++ x.0 ∷ []) x.1) e)

  -- the next line is refused
  pub list_refused : (stop : ReadStop) (count k : ℕ) (before : List A) (left : Left) → k < count → Refuses stop (item_at (read before) left)
      → Refuses stop (list_at read (count - k) before left)
  unfolding list_at
  list_refused NoMemory count k before left h e = tt
  list_refused (Refused line cause) count k before left h e =
      ap (λ n. list_at read n before left) (one_fewer count k h)
      ∙ ap (λ (r : Result (A × Left) Refusal). r >>= λ x. list_at read (count - (k + 1)) (before ++ x.0 ∷ []) x.1) e

  -- all items are there
  pub list_done : (count k : ℕ) (before : List A) (left : Left) → k ≡ count → list_at read (count - k) before left ≡ Ok (before, left)
  unfolding list_at
  list_done count k before left e =
      let none : count - k ≡ 0 = omega arith in
      ap (λ n. list_at read n before left) none

-- one more line without a fault
pub sound_push : {A : Type 0} (ask : List A → A → Option Fault) (lines : List A) (line : A) → first_of ask [] lines ≡ None → ask lines line ≡ None
    → first_of ask [] (lines ++ line ∷ []) ≡ None
sound_push ask lines line e f =
    rw (first_of-append, e, first_of-cons, f, first_of-nil) refl
