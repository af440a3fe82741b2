-- Lines that are skipped, and the next one that is not.
use Rattle.std.proofs.Common.{◌≡◌, ℕ, ◌+◌, Bool, true, false, List, [], ◌∷◌, length, Ok, Err, refl, sym, ap, ◌∙◌, arith, cond}
use Rattle.cts_io.specs.Lines.{lines_of}
use Rattle.cts_read.specs.Place.{Place}
use Rattle.cts_read.specs.Lines.{is_skipped, is_printable}
use Rattle.cts_read.specs.declared.stop.Cause.TheVariants.{NotAscii, Word}
use Rattle.cts_read.specs.Whole.{rest_of}
use Rattle.cts_read.specs.Grammar.{Left, content, first_line, left_of, line_at}

pub content_skip : (n : ℕ) (l : List ℕ) (ls : List (List ℕ)) → is_skipped l ≡ true → content n (l ∷ ls) ≡ content (n + 1) ls
unfolding content
content_skip n l ls h = rw h refl

pub content_keep : (n : ℕ) (l : List ℕ) (ls : List (List ℕ)) → is_skipped l ≡ false → content n (l ∷ ls) ≡ (n + 1, l) ∷ content (n + 1) ls
unfolding content
content_keep n l ls h = rw h refl

missing_next : (n m k : ℕ) → m ≡ k + 1 → n + m + 1 ≡ n + 1 + k + 1
missing_next n m k e = omega arith

-- a line that is skipped leaves the same lines
pub left_skip : (s t : Place) (l : List ℕ) → lines_of s.rest ≡ l ∷ lines_of t.rest → t.line ≡ s.line + 1 → is_skipped l ≡ true → left_of t ≡ left_of s
unfolding left_of
left_skip s t l e n h =
    let lines : content t.line (lines_of t.rest) ≡ content s.line (lines_of s.rest) =
    ap (λ k. content k (lines_of t.rest)) n ∙ sym (ap (content s.line) e ∙ content_skip s.line l (lines_of t.rest) h) in
    let missing : t.line + length (lines_of t.rest) + 1 ≡ s.line + length (lines_of s.rest) + 1 =
    omega (arith, ap length e) in
    cc

-- a line that is not is the next
pub left_next : (s t : Place) (l : List ℕ) → lines_of s.rest ≡ l ∷ lines_of t.rest → t.line ≡ s.line + 1 → is_skipped l ≡ false
    → line_at (left_of s) ≡ Ok ((t.line, l), left_of t)
unfolding left_of line_at
left_next s t l e n h =
    let lines : content s.line (lines_of s.rest) ≡ (s.line + 1, l) ∷ content (s.line + 1) (lines_of t.rest) =
    ap (content s.line) e ∙ content_keep s.line l (lines_of t.rest) h in
    let missing : s.line + length (lines_of s.rest) + 1 ≡ s.line + 1 + length (lines_of t.rest) + 1 =
    omega (arith, ap length e) in
    rw (lines, missing, n) refl

-- no line is left
pub left_none : (s : Place) → lines_of s.rest ≡ [] → (left_of s).lines ≡ []
unfolding left_of content
left_none s e = rw e refl

pub missing_none : (s : Place) → lines_of s.rest ≡ [] → (left_of s).missing ≡ s.line + 1
unfolding left_of
missing_none s e = omega (arith, ap length e)

-- what is left begins with a line that may not follow
rest_by : (lines : List (ℕ × List ℕ)) (missing : ℕ) (next : ℕ × List ℕ) (after : Left) (printable : Bool)
    → first_line lines missing ≡ Ok (next, after) → is_printable next.1 ≡ printable
    → rest_of lines ≡ Err (next.0, cond printable Word NotAscii)
unfolding rest_of
rest_by [] missing next after printable e p = cc
rest_by (l ∷ ls) missing next after printable e p =
    let whole : ◌≡◌ {A = (ℕ × List ℕ) × Left} (l, record { lines = ls; missing = missing }) (next, after) = cc in
    let same : l ≡ next = ap (λ (x : (ℕ × List ℕ) × Left). x.0) whole in
    rw (same, p) refl

pub rest_refused : (left : Left) (next : ℕ × List ℕ) (after : Left) (printable : Bool) → line_at left ≡ Ok (next, after)
    → is_printable next.1 ≡ printable → rest_of left.lines ≡ Err (next.0, cond printable Word NotAscii)
unfolding line_at
rest_refused left next after printable e p = rest_by left.lines left.missing next after printable e p

pub rest_none : (left : Left) → left.lines ≡ [] → rest_of left.lines ≡ Ok tt
unfolding rest_of
rest_none left e = rw e refl
