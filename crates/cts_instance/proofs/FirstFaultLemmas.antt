-- The first fault of a list of lines, and the lines one at a time.
use Rattle.std.proofs.Common.{◌≡◌, ℕ, ◌+◌, ◌<◌, ◌≤◌, List, [], ◌∷◌, ◌++◌, length, get_or, take, drop, Option, None, Some, refl, sym, ◌∙◌, append_assoc}
use Rattle.std.proofs.lemmas.List.{append-nil, take_more, drop_more, drop_all}
use Rattle.std.specs.Option.{option_or}
use Rattle.cts_instance.specs.declared.fault.Fault.{Fault}
use Rattle.cts_instance.specs.FirstFault.{◌or◌, first_of}

-- where the first line has no fault, the later lines decide; where it has one, that is the answer
pub or-later : (first later : Option Fault) → first ≡ None → (first or later) ≡ later
or-later first later none = rw none refl

pub or-first : (first later : Option Fault) (fault : Fault) → first ≡ Some fault → (first or later) ≡ Some fault
or-first first later fault some = rw some refl

-- the first of three
pub or_assoc : (a b c : Option Fault) → option_or a (option_or b c) ≡ option_or (option_or a b) c
or_assoc None b c = refl
or_assoc (Some x) b c = refl

module _ {A : Type 0} (ask : List A → A → Option Fault) where
  pub first_of-nil : (before : List A) → first_of ask before [] ≡ None
  unfolding first_of
  first_of-nil before = refl

  pub first_of-cons : (before : List A) (line : A) (later : List A)
      → first_of ask before (line ∷ later) ≡ option_or (ask before line) (first_of ask (before ++ line ∷ []) later)
  unfolding first_of
  first_of-cons before line later = refl

  -- the line at a place decides, and else the lines after it
  pub first_of-turn : (lines : List A) (place : ℕ) (d : A) → place < length lines
      → first_of ask (take place lines) (drop place lines)
      ≡ option_or (ask (take place lines) (get_or lines place d)) (first_of ask (take (place + 1) lines) (drop (place + 1) lines))
  first_of-turn lines place d inside =
      rw (drop_more lines place d inside, take_more lines place d inside, first_of-cons) refl

  -- a loop over the lines, which asks each in turn, ends at a fault ..
  pub found : (whole : Option Fault) (lines : List A) (place : ℕ) (d : A) (fault : Fault)
      → whole ≡ first_of ask (take place lines) (drop place lines)
      → place < length lines → Some fault ≡ ask (take place lines) (get_or lines place d) → Some fault ≡ whole
  found whole lines place d fault left inside at =
      sym (left ∙ rw (first_of-turn lines place d inside, ← at) refl)

  -- .. goes on where the line has none ..
  pub passed : (whole : Option Fault) (lines : List A) (place : ℕ) (d : A)
      → whole ≡ first_of ask (take place lines) (drop place lines)
      → place < length lines → None ≡ ask (take place lines) (get_or lines place d)
      → whole ≡ first_of ask (take (place + 1) lines) (drop (place + 1) lines)
  passed whole lines place d left inside at = left ∙ rw (first_of-turn lines place d inside, ← at) refl

  -- .. and ends without one after the last line
  pub ended : (whole : Option Fault) (lines : List A) (place : ℕ)
      → whole ≡ first_of ask (take place lines) (drop place lines) → length lines ≤ place → None ≡ whole
  ended whole lines place left end = sym (left ∙ rw (drop_all place lines end) (first_of-nil (take place lines)))

  -- the lines of two lists, one list after the other
  pub first_of-append : (before lines later : List A)
      → first_of ask before (lines ++ later) ≡ option_or (first_of ask before lines) (first_of ask (before ++ lines) later)
  first_of-append before [] later = rw (first_of-nil, append-nil) refl
  first_of-append before (line ∷ lines) later =
      rw (first_of-cons before line (lines ++ later), first_of-cons before line lines, first_of-append (before ++ line ∷ []) lines later, append_assoc)
      (or_assoc (ask before line) (first_of ask (before ++ line ∷ []) lines) (first_of ask (before ++ line ∷ lines) later))
