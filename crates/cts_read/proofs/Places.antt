-- A place in a text, after one more line.
use Rattle.std.proofs.Common.{◌≡◌, ℕ, ◌+◌, ◌-◌, ◌<◌, ◌≤◌, ◌⊎◌, inl, inr, List, [], ◌∷◌, ◌++◌, length, drop, take, refl, sym, ap, ◌∙◌, arith, length-append, length-drop, append_assoc}
use Rattle.std.proofs.lemmas.List.{drop-drop, take-append-drop}
use Rattle.std.proofs.lemmas.List.Prefix.{front_rest}
use Rattle.cts_io.specs.Lines.{IsLineEnd, lines_of}
use Rattle.cts_read.specs.Place.{IsAfterLine, IsPlace, Place}

pub place_at_start : (text : List ℕ) → IsPlace (record { text = text; rest = text; line = 0 })
place_at_start text = record {
  within = omega arith;
  rest = ap (λ n. drop n text) (let none : length text - length text ≡ 0 = omega arith in none);
  lines = refl;
  passed = omega arith;
  after = inl refl;
}

-- the end of a list, after more of its front
drop_front : {A : Type 0} (text front rest : List A) (k n : ℕ) → drop k text ≡ front ++ rest → n ≡ k + length front → drop n text ≡ rest
drop_front text front rest k n e m =
    rw m (sym (drop-drop (length front) k text) ∙ ap (drop (length front)) e ∙ front_rest (front ++ rest) front rest refl)

further : (text rest front more : ℕ) → rest ≤ text → rest ≡ front + more → text - more ≡ text - rest + front
further text rest front more h e = omega arith

-- an item after so many others is one more
one_more : {A : Type 0} (items rest : List A) (item : A) (n n' : ℕ) → drop n items ≡ item ∷ rest → n' ≡ n + 1 → n' ≤ length items
one_more items rest item n n' e next =
    let left : length items - n ≡ length (item ∷ rest) = sym (length-drop n items) ∙ ap length e in
    omega (arith, left, next)

-- a text, cut after one more line
split_after : (text rest l end rest' : List ℕ) (n : ℕ) → drop n text ≡ rest → rest ≡ l ++ end ++ rest' → text ≡ take n text ++ l ++ end ++ rest'
split_after text rest l end rest' n p e =
    sym (take-append-drop n text) ∙ ap (λ r. take n text ++ r) (p ∙ e) ∙ simp append_assoc refl

no_line_is_none : (line : ℕ) → 0 < line → line ≡ 0 → ⊥
no_line_is_none line some none = omega (arith, some, none)

-- where a line was passed
pub passed_some : (line : ℕ) (text rest : List ℕ) → 0 < line → (line ≡ 0) ⊎ IsAfterLine text rest → IsAfterLine text rest
passed_some line text rest some (inl none) = absurd (no_line_is_none line some none)
passed_some line text rest some (inr after) = after

-- the place after one more line
pub place_after : (text rest : List ℕ) (line : ℕ) (l end rest' : List ℕ) (line' : ℕ) → IsPlace (record { text = text; rest = rest; line = line })
    → IsLineEnd end rest' → rest ≡ l ++ end ++ rest' → lines_of rest ≡ l ∷ lines_of rest' → line' ≡ line + 1 → IsPlace (record { text = text; rest = rest'; line = line' })
place_after text rest line l end rest' line' p ends e first next =
    let parts : length rest ≡ length (l ++ end) + length rest' = ap length e ∙ length-append (l ++ end) rest' in
    record {
      within = omega (arith, p.within);
      rest = drop_front text (l ++ end) rest' (length text - length rest) (length text - length rest') (p.rest ∙ e)
          (further (length text) (length rest) (length (l ++ end)) (length rest') p.within parts);
      lines = sym (drop_front (lines_of text) (l ∷ []) (lines_of rest') line line' (sym p.lines ∙ first) next);
      passed = one_more (lines_of text) (lines_of rest') l line line' (sym p.lines ∙ first) next;
      after = inr (take (length text - length rest) text ++ l, end, ends, split_after text rest l end rest' (length text - length rest) p.rest e);
    }

pub place_same : (p q : Place) → q ≡ p → IsPlace p → IsPlace q
place_same p q e h = rw e h
