-- The text that is written is read back, line by line.
use Rattle.std.proofs.Common.{◌≡◌, ◌≢◌, ℕ, suc, ◌+◌, ◌-◌, ◌<◌, ◌≤◌, false, List, [], ◌∷◌, ◌++◌, length, get_or, map, All, Ok, Result, None, Some, Option, refl, sym, ap, ◌∙◌, arith, append_assoc, append-nil}
use Rattle.std.specs.List.{concat, flat_map}
use Rattle.std.proofs.lemmas.Option.{none-some}
use Rattle.std.proofs.lemmas.List.Elements.{All-head, All-tail}
use Rattle.cts_io.specs.Lines.{lines_of}
use Rattle.cts_io.proofs.Pieces.{line_comes_back}
use Rattle.cts_instance.specs.declared.fault.Fault.{Fault}
use Rattle.cts_instance.specs.FirstFault.{◌or◌, first_of}
use Rattle.cts_read.specs.declared.stop.Cause.{Cause}
use Rattle.cts_read.specs.Place.{Place}
use Rattle.cts_read.specs.Lines.{is_skipped}
use Rattle.cts_read.specs.Grammar.{at_line, item_at, left_of, line_at}
use Rattle.cts_read.specs.Items.{list_at}
use Rattle.cts_read.proofs.Contents.{left_next}
use Rattle.cts_script.specs.Text.{after_space, line_of}
use Rattle.cts_script.proofs.WrittenWords.{AreWords, IsLineByte, IsWord, body_of, line-body}
use Rattle.cts_script.proofs.WrittenLines.{found}

-- the line of some words, without its end
pub record IsBody (body : List ℕ) : Type 0 where
  pub some : 0 < length body
  pub each : All IsLineByte body
  pub shown : is_skipped body ≡ false

length-append-le : (xs ys : List ℕ) → length xs ≤ length (xs ++ ys)
length-append-le [] ys = omega arith
length-append-le (x ∷ xs) ys = let rest = length-append-le xs ys in omega arith

pub is_body : (key : List ℕ) (words : List (List ℕ)) → IsWord key → AreWords words → is_skipped (body_of key words) ≡ false → IsBody (body_of key words)
is_body key words k h shown = record {
  some = omega (arith, k.some, length-append-le key (flat_map after_space words));
  each = line-body key words k h;
  shown = shown;
}

-- a line and what comes after it
pub line-then : (key : List ℕ) (words : List (List ℕ)) (rest : List ℕ) → line_of key words ++ rest ≡ body_of key words ++ 10 ∷ rest
unfolding line_of
line-then key words rest = append_assoc (body_of key words) (10 ∷ []) rest

-- reading stands before these bytes of a text
abbrev pub at : List ℕ → List ℕ → ℕ → Place
at text rest line = record { text = text; rest = rest; line = line }

pub line_back : (text body rest : List ℕ) (n : ℕ) → IsBody body
    → line_at (left_of (at text (body ++ 10 ∷ rest) n)) ≡ Ok ((n + 1, body), left_of (at text rest (n + 1)))
line_back text body rest n b =
    let last : get_or body (length body - 1) 0 ≢ 13 =
    λ e. omega (arith, (b.each (length body - 1) 0 (omega (arith, b.some))).low, e) in
    let lines : lines_of (body ++ 10 ∷ rest) ≡ body ∷ lines_of rest =
    line_comes_back body rest (λ i d inside e. omega (arith, (b.each i d inside).low, e)) last in
    left_next (at text (body ++ 10 ∷ rest) n) (at text rest (n + 1)) body lines refl b.shown

-- one line, read as what it was written from
pub item_back : {A : Type 0} (read : List ℕ → Result A Cause) (item : A) (text body rest : List ℕ) (n : ℕ) → IsBody body → read body ≡ Ok item
    → item_at read (left_of (at text (body ++ 10 ∷ rest) n)) ≡ Ok (item, left_of (at text rest (n + 1)))
unfolding item_at
item_back read item text body rest n b h =
    found _ _ _ _ (line_back text body rest n b) (found _ _ item _ (ap (at_line (n + 1)) h) refl)

pub or_none : (a b : Option Fault) → (a or b) ≡ None → (a ≡ None) × (b ≡ None)
or_none None b h = (refl, h)
or_none (Some x) b h = absurd (none-some x (sym h))

-- the lines of a list, read as what they were written from
pub list_back : {A : Type 0} (read : List A → List ℕ → Result A Cause) (ask : List A → A → Option Fault) (line body : A → List ℕ) (P : A → Type 0)
    → ((item : A) (rest : List ℕ) → line item ++ rest ≡ body item ++ 10 ∷ rest)
    → ((item : A) → P item → IsBody (body item))
    → ((before : List A) (item : A) → P item → ask before item ≡ None → read before (body item) ≡ Ok item)
    → (items before : List A) (text rest : List ℕ) (n : ℕ) → All P items → first_of ask before items ≡ None
    → list_at read (length items) before (left_of (at text (concat (map line items) ++ rest) n))
    ≡ Ok (before ++ items, left_of (at text rest (n + length items)))
unfolding list_at first_of
list_back read ask line body P ends bodies back [] before text rest n each sound =
    ap (λ b. Ok (b, left_of (at text rest n))) (sym (append-nil before))
    ∙ ap (λ k. Ok (before ++ [], left_of (at text rest k))) (omega arith)
list_back read ask line body P ends bodies back (item ∷ items) before text rest n each sound =
    let parts = or_none (ask before item) (first_of ask (before ++ item ∷ []) items) sound in
    let mine = All-head P item items each in
    let front : concat (map line (item ∷ items)) ++ rest ≡ body item ++ 10 ∷ (concat (map line items) ++ rest) =
    append_assoc (line item) (concat (map line items)) rest ∙ ends item (concat (map line items) ++ rest) in
    let this = item_back (read before) item text (body item) (concat (map line items) ++ rest) n (bodies item mine) (back before item mine parts.0) in
    let others = list_back read ask line body P ends bodies back items (before ++ item ∷ []) text rest (n + 1) (All-tail P item items each) parts.1 in
    ap (λ t. list_at read (suc (length items)) before (left_of (at text t n))) front
    ∙ found _ _ _ _ this
    (others
    ∙ ap (λ b. Ok (b, left_of (at text rest (n + 1 + length items)))) (append_assoc before (item ∷ []) items)
    ∙ ap (λ k. Ok (before ++ item ∷ items, left_of (at text rest k))) (omega arith))

-- a line of a kind, read as what it was written from
pub item_line : {A : Type 0} (read : List ℕ → Result A Cause) (item : A) (text key : List ℕ) (words : List (List ℕ)) (rest : List ℕ) (n : ℕ)
    → IsBody (body_of key words) → read (body_of key words) ≡ Ok item
    → item_at read (left_of (at text (line_of key words ++ rest) n)) ≡ Ok (item, left_of (at text rest (n + 1)))
item_line read item text key words rest n b h =
    ap (λ t. item_at read (left_of (at text t n))) (line-then key words rest) ∙ item_back read item text (body_of key words) rest n b h
