-- The bytes that follow the instance at the front of an input.
use Rattle.std.proofs.Common.{◌≡◌, ℕ, zero, suc, ◌+◌, ◌≤◌, ◌==◌, Bool, true, false, inl, inr, List, [], ◌∷◌, ◌++◌, length, length-drop, drop, Ok, refl, sym, ap, ◌∙◌, append_assoc, arith}
use Rattle.std.specs.Prelude.{if◌then◌else◌}
use Rattle.std.specs.List.{onto_first}
use Rattle.std.proofs.lemmas.List.{length-map}
use Rattle.cts_io.specs.Lines.{pieces_of, lines_of, IsLineEnd}
use Rattle.cts_instance.specs.declared.parts.Parts.{Parts}
use Rattle.cts_read.specs.Grammar.{Left}
use Rattle.cts_read.specs.Place.{IsAfterLine}
use Rattle.cts_read.specs.Whole.{instance_of}
use Rattle.cts_read.specs.declared.stop.ReadStop.{ReadStop}
use Rattle.cts_read.specs.declared.stop.ReadStop.TheVariants.{Refused, NoMemory}
use Rattle.cts_read.specs.Grammar.{Refuses}
use Rattle.cts_notes.specs.Front.{after_line, after_lines, front_of}

-- how many lines are ended by LF in some bytes
lfs : List ℕ → ℕ
lfs [] = 0
lfs (b ∷ bs) = if b == 10 then suc (lfs bs) else lfs bs

-- after an LF, and the lines before it
after_lf : (front rest : List ℕ) → after_lines (suc (lfs front)) (front ++ 10 ∷ rest) ≡ rest
unfolding after_line after_lines lfs
after_lf [] rest = refl
after_lf (b ∷ front) rest = by (b == 10) refl (after_lf front rest)
  where
    by : (t : Bool) → (b == 10) ≡ t → after_lines (suc (lfs front)) (front ++ 10 ∷ rest) ≡ rest
        → after_lines (suc (if t then suc (lfs front) else lfs front)) ((b ∷ front) ++ 10 ∷ rest) ≡ rest
    by true e more =
        ap (λ t. after_lines (suc (lfs front)) (if t then front ++ 10 ∷ rest else after_line (front ++ 10 ∷ rest))) e ∙ more
    by false e more =
        ap (λ t. after_lines (lfs front) (if t then front ++ 10 ∷ rest else after_line (front ++ 10 ∷ rest))) e ∙ more

some_onto : (b : ℕ) (ps : List (List ℕ)) → 1 ≤ length ps → length (onto_first b ps) ≡ length ps
some_onto b [] h = absurd (omega (arith, h))
some_onto b (p ∷ ps) h = refl

none_onto : (b : ℕ) (ps : List (List ℕ)) → 1 ≤ length (onto_first b ps)
none_onto b [] = omega arith
none_onto b (p ∷ ps) = omega arith

at_least_onto : (b : ℕ) (ps : List (List ℕ)) → length ps ≤ length (onto_first b ps)
at_least_onto b [] = omega arith
at_least_onto b (p ∷ ps) = omega arith

-- so many lines are there
lines_before : (front rest : List ℕ) → length (pieces_of (front ++ 10 ∷ rest)) ≡ suc (lfs front) + length (pieces_of rest)
unfolding lfs
lines_before [] rest = omega arith
lines_before (b ∷ front) rest = by (b == 10) (lines_before front rest)
  where
    by : (t : Bool) → length (pieces_of (front ++ 10 ∷ rest)) ≡ suc (lfs front) + length (pieces_of rest)
        → length (if t then [] ∷ pieces_of (front ++ 10 ∷ rest) else onto_first b (pieces_of (front ++ 10 ∷ rest)))
        ≡ suc (if t then suc (lfs front) else lfs front) + length (pieces_of rest)
    by true more = omega (arith, more)
    by false more = some_onto b (pieces_of (front ++ 10 ∷ rest)) (omega (arith, more)) ∙ more

-- after a line there is one fewer
one_fewer : (b : ℕ) (bs : List ℕ) → length (pieces_of (after_line (b ∷ bs))) + 1 ≤ length (pieces_of (b ∷ bs))
unfolding after_line
one_fewer b [] = by (b == 10)
  where
    by : (t : Bool) → length (pieces_of (if t then [] else [])) + 1 ≤ length (if t then [] ∷ [] else onto_first b [])
    by true = omega arith
    by false = omega arith
one_fewer b (c ∷ bs) = by (b == 10) (one_fewer c bs)
  where
    by : (t : Bool) → length (pieces_of (after_line (c ∷ bs))) + 1 ≤ length (pieces_of (c ∷ bs))
        → length (pieces_of (if t then c ∷ bs else after_line (c ∷ bs))) + 1
        ≤ length (if t then [] ∷ pieces_of (c ∷ bs) else onto_first b (pieces_of (c ∷ bs)))
    by true more = omega arith
    by false more = omega (arith, more, at_least_onto b (pieces_of (c ∷ bs)))

after_nothing : (count : ℕ) → after_lines count [] ≡ []
unfolding after_line after_lines
after_nothing zero = refl
after_nothing (suc count) = after_nothing count

some_piece : (b : ℕ) (bs : List ℕ) → 1 ≤ length (pieces_of (b ∷ bs))
some_piece b bs = by (b == 10)
  where
    by : (t : Bool) → 1 ≤ length (if t then [] ∷ pieces_of bs else onto_first b (pieces_of bs))
    by true = omega arith
    by false = none_onto b (pieces_of bs)

-- past the last line there is nothing
after_all : (count : ℕ) (text : List ℕ) → length (pieces_of text) ≤ count → after_lines count text ≡ []
unfolding after_lines
after_all count [] h = after_nothing count
after_all zero (b ∷ bs) h = absurd (omega (arith, h, some_piece b bs))
after_all (suc count) (b ∷ bs) h = after_all count (after_line (b ∷ bs)) (omega (arith, h, one_fewer b bs))

lines_are_pieces : (text : List ℕ) → length (lines_of text) ≡ length (pieces_of text)
lines_are_pieces text = length-map (pieces_of text) _

-- what comes right after the end of a line, with so many lines before it
pub rest_after : (text rest : List ℕ) (count : ℕ) → IsAfterLine text rest → lines_of rest ≡ drop count (lines_of text)
    → count ≤ length (lines_of text) → after_lines count text ≡ rest
rest_after text rest count (front, end, ends, is) left within = by ends is
  where
    counted : length (pieces_of rest) + count ≡ length (pieces_of text)
    counted =
        omega (
          arith,
          sym (lines_are_pieces rest) ∙ ap length left ∙ length-drop count (lines_of text),
          lines_are_pieces text,
          within,
        )

    after_lf_end : (before : List ℕ) → text ≡ before ++ 10 ∷ rest → after_lines count text ≡ rest
    after_lf_end before e =
        let same : suc (lfs before) ≡ count =
        omega (arith, ap (λ t. length (pieces_of t)) e ∙ lines_before before rest, counted) in
        ap (λ t. after_lines count t) e ∙ ap (λ n. after_lines n (before ++ 10 ∷ rest)) (sym same) ∙ after_lf before rest

    by : IsLineEnd end rest → text ≡ front ++ end ++ rest → after_lines count text ≡ rest
    by (inl lf) e = after_lf_end front (e ∙ ap (λ x. front ++ x ++ rest) lf ∙ append_assoc front (10 ∷ []) rest)
    by (inr (inl crlf)) e = after_lf_end (front ++ 13 ∷ []) (e ∙ ap (λ x. front ++ x ++ rest) crlf ∙ simp append_assoc refl)
    by (inr (inr (none, last))) e =
        after_all count text (omega (arith, counted, ap (λ r. length (pieces_of r)) none)) ∙ sym none

pub front_read : (bytes : List ℕ) (i : Parts) (lines : ℕ) (left : Left) (rest : List ℕ) → instance_of bytes ≡ Ok ((i, lines), left)
    → after_lines lines bytes ≡ rest → front_of bytes ≡ Ok (i, rest)
unfolding front_of
front_read bytes i lines left rest e f = rw (e, f) refl

pub front_refused : (bytes : List ℕ) (stop : ReadStop) → Refuses stop (instance_of bytes) → Refuses stop (front_of bytes)
unfolding front_of
front_refused bytes (Refused line cause) e = rw e refl
front_refused bytes NoMemory e = tt
