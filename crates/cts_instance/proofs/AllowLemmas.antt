-- What there is no fault exactly where a fact holds, from one rule of a line to all lines of an instance.
use Rattle.std.proofs.Common.{◌≡◌, ℕ, zero, suc, ◌+◌, ◌<◌, ◌≤◌, Bool, true, false, cond, List, [], ◌∷◌, ◌++◌, length, get_or, take, Option, None, Some, Decides, All, AllPairs, count_by, refl, sym, subst, ◌∙◌, append_assoc, arith}
use Rattle.std.proofs.lemmas.Bool.{false≢true}
use Rattle.std.proofs.lemmas.Option.{none-some}
use Rattle.std.proofs.lemmas.List.{append-nil, length-take-le, get_or-take, get_or_default}
use Rattle.std.proofs.lemmas.List.Sums.{sum_by_push, count_by_more_yes, sum_by-take-le}
use Rattle.std.specs.Option.{option_or}
use Rattle.cts_instance.specs.declared.fault.Fault.{Fault}
use Rattle.cts_instance.specs.FirstFault.{unless, first_of}
use Rattle.cts_instance.proofs.FirstFaultLemmas.{first_of-cons, first_of-nil}

-- there is no fault exactly where the fact holds
abbrev pub Allows : Option Fault → Type 0 → Type 0
Allows fault P = (fault ≡ None → P) × (P → fault ≡ None)

pub Allows-None : Allows None (Unit {0})
Allows-None = (λ _. tt, λ _. refl)

pub Allows-like : {P Q : Type 0} (fault : Option Fault) → (P → Q) → (Q → P) → Allows fault P → Allows fault Q
Allows-like fault to from h = (λ e. to (h.0 e), λ q. h.1 (from q))

pub Allows-unless : {P Q : Type 0} (holds : Bool) (fault : Fault) (later : Option Fault)
    → Decides holds P → Allows later Q → Allows (unless holds fault later) (P × Q)
Allows-unless true fault later d h = (λ e. (d.0 refl, h.0 e), λ q. h.1 q.1)
Allows-unless false fault later d h = (λ e. absurd (none-some fault (sym e)), λ q. absurd (false≢true (d.1 q.0)))

pub Allows-last : {P : Type 0} (holds : Bool) (fault : Fault) → Decides holds P → Allows (unless holds fault None) P
Allows-last holds fault d = Allows-like _ (λ h. h.0) (λ p. (p, tt)) (Allows-unless holds fault None d Allows-None)

pub Allows-or : {P Q : Type 0} (first later : Option Fault) → Allows first P → Allows later Q → Allows (option_or first later) (P × Q)
Allows-or None later h k = (λ e. (h.0 refl, k.0 e), λ q. k.1 q.1)
Allows-or (Some fault) later h k = (λ e. absurd (none-some fault (sym e)), λ q. absurd (none-some fault (sym (h.1 q.0))))

module _ {A : Type 0} (R : List A → A → Type 0) where
  -- each line of a list obeys its rules, given the lines before it
  abbrev pub EachLine : List A → List A → Type 0
  EachLine before lines = (k : ℕ) (d : A) → k < length lines → R (before ++ take k lines) (get_or lines k d)

  pub EachLine-cons : (before : List A) (line : A) (lines : List A)
      → R before line × EachLine (before ++ line ∷ []) lines → EachLine before (line ∷ lines)
  EachLine-cons before line lines h zero d inside = subst (λ b. R b line) (sym (append-nil before)) h.0
  EachLine-cons before line lines h (suc k) d inside =
      subst (λ b. R b (get_or lines k d)) (append_assoc before (line ∷ []) (take k lines)) (h.1 k d (omega arith))

  pub EachLine-parts : (before : List A) (line : A) (lines : List A)
      → EachLine before (line ∷ lines) → R before line × EachLine (before ++ line ∷ []) lines
  EachLine-parts before line lines h = (
    subst (λ b. R b line) (append-nil before) (h 0 line (omega arith)),
    λ k d inside. subst (λ b. R b (get_or lines k d)) (sym (append_assoc before (line ∷ []) (take k lines))) (h (suc k) d (omega arith)),
  )

module _ {A : Type 0} (ask : List A → A → Option Fault) (R : List A → A → Type 0) where
  pub Allows-first_of : ((before : List A) (line : A) → Allows (ask before line) (R before line))
      → (before lines : List A) → Allows (first_of ask before lines) (EachLine R before lines)
  Allows-first_of each before [] = (λ _ k d inside. absurd (omega arith), λ _. first_of-nil ask before)
  Allows-first_of each before (line ∷ lines) =
      let rest = Allows-first_of each (before ++ line ∷ []) lines in
      let whole = Allows-or (ask before line) (first_of ask (before ++ line ∷ []) lines) (each before line) rest in (
        λ e. EachLine-cons R before line lines (whole.0 (sym (first_of-cons ask before line lines) ∙ e)),
        λ h. first_of-cons ask before line lines ∙ whole.1 (EachLine-parts R before line lines h),
      )

-- each line differs from those before it exactly where any two differ
pub pairs_from_lines : {A : Type 0} (R : A → A → Type 0) (lines : List A)
    → ((k : ℕ) (d : A) → k < length lines → All (λ earlier. R earlier (get_or lines k d)) (take k lines)) → AllPairs R lines
pairs_from_lines R lines h i j d below inside =
    let earlier = h j d inside i d (rw (length-take-le j lines (omega arith)) below) in
    subst (λ x. R x (get_or lines j d)) (get_or-take j lines i d below) earlier

pub lines_from_pairs : {A : Type 0} (R : A → A → Type 0) (lines : List A)
    → AllPairs R lines → (k : ℕ) (d : A) → k < length lines → All (λ earlier. R earlier (get_or lines k d)) (take k lines)
lines_from_pairs R lines h k d inside i e below =
    let before : i < k = subst (λ n. i < n) (length-take-le k lines (omega arith)) below in
    subst (λ x. R x (get_or lines k d)) (sym (get_or-take k lines i e before))
    (subst (λ y. R (get_or lines i e) y) (get_or_default lines k e d inside) (h i k e before inside))

-- each line of a kind finds room for it exactly where there are no more of its kind than the room allows
module _ {A : Type 0} (p : A → Bool) (room : ℕ) where
  abbrev pub FindsRoom : List A → A → Type 0
  FindsRoom before line = p line ≡ true → count_by p before < room

  after_one : (before : List A) (line : A) → count_by p before ≤ room → FindsRoom before line → count_by p (before ++ line ∷ []) ≤ room
  after_one before line low finds = by (p line) refl
    where
      by : (b : Bool) → p line ≡ b → count_by p (before ++ line ∷ []) ≤ room
      by true e = rw (sum_by_push (λ x. cond (p x) 1 0) before line, e) (omega (arith, finds e))
      by false e = rw (sum_by_push (λ x. cond (p x) 1 0) before line, e) (omega (arith, low))

  count_after : (before lines : List A) → count_by p before ≤ room → EachLine FindsRoom before lines → count_by p (before ++ lines) ≤ room
  count_after before [] low h = rw append-nil low
  count_after before (line ∷ lines) low h =
      let parts = EachLine-parts FindsRoom before line lines h in
      subst (λ all. count_by p all ≤ room) (append_assoc before (line ∷ []) lines)
      (count_after (before ++ line ∷ []) lines (after_one before line low parts.0) parts.1)

  pub count_from_lines : (lines : List A) → EachLine FindsRoom [] lines → count_by p lines ≤ room
  count_from_lines lines h = count_after [] lines (omega arith) h

  pub lines_from_count : (lines : List A) → count_by p lines ≤ room → EachLine FindsRoom [] lines
  lines_from_count lines h k d inside is =
      omega (arith, count_by_more_yes p lines k d inside is, sum_by-take-le (λ x. cond (p x) 1 0) lines (k + 1))
