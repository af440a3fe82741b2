-- The first piece of a text, and the end of its line.
use Rattle.std.proofs.lemmas.List.{length-map}
use Rattle.std.proofs.Common.{◌≡◌, ℕ, suc, zero, ◌+◌, ◌-◌, ◌<◌, ◌≤◌, ◌⊎◌, inl, inr, Bool, true, false, cond, eqb, List, [], ◌∷◌, ◌++◌, length, get_or, take, drop, Some, None, refl, sym, ap, ◌∙◌, append_assoc, append-nil, add-one, arith, ltb, position, ◌≢◌, All}
use Rattle.std.proofs.lemmas.List.Quantifiers.{position-Some}
use Rattle.std.proofs.lemmas.List.Sums.{fails_before_first}
use Rattle.std.proofs.lemmas.Bool.{eqb-true, lt-ltb, cases_lt, ne_eqb}
use Rattle.std.proofs.Math.Seq.{split_at}
use Rattle.std.proofs.Math.ListN.{drop_of_length-le}
use Rattle.std.specs.List.{position_or_len}
use Rattle.std.specs.List.{onto_first}
use Rattle.std.specs.Str.Lines.{strip_carriage_return}
use Rattle.std.proofs.lemmas.List.Elements.{All-head, All-tail}
use Rattle.cts_io.specs.Lines.{pieces_of, lines_of, IsLineEnd}

-- an LF at i, and none before it
pub pieces_of-first : (xs : List ℕ) (i : ℕ) → i < length xs → eqb (get_or xs i 0) 10 ≡ true → ((k : ℕ) → k < i → eqb (get_or xs k 0) 10 ≡ false)
    → pieces_of xs ≡ take i xs ∷ pieces_of (drop (suc i) xs)
pieces_of-first [] i l h none = absurd (omega arith)
pieces_of-first (x ∷ xs) zero l h none = rw h refl
pieces_of-first (x ∷ xs) (suc i) l h none =
    let here : eqb x 10 ≡ false = none 0 (omega arith) in
    let rest = pieces_of-first xs i (omega arith) h (λ k m. none (suc k) (omega arith)) in
    rw (here, rest) refl

-- no LF at all
pub pieces_of-last : (xs : List ℕ) → 0 < length xs → ((k : ℕ) → k < length xs → eqb (get_or xs k 0) 10 ≡ false) → pieces_of xs ≡ xs ∷ []
pieces_of-last [] l none = absurd (omega arith)
pieces_of-last (x ∷ []) l none =
    let here : eqb x 10 ≡ false = none 0 (omega arith) in rw here refl
pieces_of-last (x ∷ y ∷ ys) l none =
    let here : eqb x 10 ≡ false = none 0 (omega arith) in
    let rest = pieces_of-last (y ∷ ys) (omega arith) (λ k m. none (suc k) (omega arith)) in
    rw (here, rest) refl

-- a list whose last byte is known
last_byte : (xs : List ℕ) (i x : ℕ) → length xs ≡ suc i → get_or xs i 0 ≡ x → xs ≡ take i xs ++ x ∷ []
last_byte xs i x l e =
    let none : drop (suc i) xs ≡ [] = drop_of_length-le xs {i = suc i} (omega arith) in
    split_at xs i 0 (omega arith) ∙ rw (e, none) refl

-- a piece is its line, and the CR that it may end with
cr_end : (b : Bool) (piece : List ℕ) → eqb (get_or piece (length piece - 1) 0) 13 ≡ b → (piece ≡ strip_carriage_return piece) ⊎ (piece ≡ strip_carriage_return piece ++ (13 ∷ []))
cr_end false piece e = inl (rw e refl)
cr_end true [] e = cc
cr_end true (x ∷ xs) e =
    let one : suc (length xs) - 1 ≡ length xs = omega arith in
    let last : get_or (x ∷ xs) (length xs) 0 ≡ 13 = rw one at (eqb-true _ _ e) in
    inr (rw e (rw one (last_byte (x ∷ xs) (length xs) 13 refl last)))

pub cr_or_none : (piece : List ℕ) → (piece ≡ strip_carriage_return piece) ⊎ (piece ≡ strip_carriage_return piece ++ (13 ∷ []))
cr_or_none piece = cr_end (eqb (get_or piece (length piece - 1) 0) 13) piece refl

none_below : (m n : ℕ) → None ≡ cond (ltb m n) (Some m) None → n ≤ m
none_below m n e = elim (cases_lt m n) [ inl l ↦ absurd (let yes' : ltb m n ≡ true = lt-ltb m n l in let e' : None ≡ Some m = rw yes' at e in cc) | inr h ↦ h ]

-- the first line of a text with an LF at i
pub lines_of-first : (text line : List ℕ) (i : ℕ) → Some i ≡ position (λ byte. eqb byte 10) text → line ≡ strip_carriage_return (take i text) → lines_of text ≡ line ∷ lines_of (drop (i + 1) text)
lines_of-first text line i p w =
    let found = position-Some (λ byte. eqb byte 10) text i 0 (sym p) in
    rw (pieces_of-first text i found.0 found.1 found.2, w, add-one) refl

-- the only line of a text without LF
pub lines_of-last : (text line : List ℕ) → 0 < length text → None ≡ position (λ byte. eqb byte 10) text → line ≡ strip_carriage_return text → lines_of text ≡ line ∷ []
lines_of-last text line l p w =
    let end : length text ≤ position_or_len (λ byte. eqb byte 10) text = none_below _ _ p in
    let none : (k : ℕ) → k < length text → eqb (get_or text k 0) 10 ≡ false = λ k h. fails_before_first (λ byte. eqb byte 10) text k 0 (omega arith) in
    rw (pieces_of-last text l none, w) refl

-- what of the text the first line and its end are
pub taken-first : (text line : List ℕ) (i : ℕ) → Some i ≡ position (λ byte. eqb byte 10) text → line ≡ strip_carriage_return (take i text)
    → (end : List ℕ) × IsLineEnd end (drop (i + 1) text) × (text ≡ line ++ end ++ drop (i + 1) text)
taken-first text line i p w =
    let found = position-Some (λ byte. eqb byte 10) text i 0 (sym p) in
    let lf : get_or text i 0 ≡ 10 = eqb-true _ _ found.1 in
    let whole : text ≡ take i text ++ 10 ∷ drop (i + 1) text = split_at text i 0 found.0 ∙ rw (lf, add-one) refl in
    elim (cr_or_none (take i text)) [
      | inl e ↦ (10 ∷ [], inl refl, whole ∙ rw (w, ← e, append_assoc) refl)
      | inr e ↦ (13 ∷ 10 ∷ [], inr (inl refl), whole ∙ ap (λ l. l ++ 10 ∷ drop (i + 1) text) e ∙ rw (w, append_assoc, append_assoc) refl)
    ]

pub taken-last : (text line : List ℕ) → line ≡ strip_carriage_return text → (end : List ℕ) × IsLineEnd end [] × (text ≡ line ++ end ++ [])
taken-last text line w =
    elim (cr_or_none text) [
      | inl e ↦ ([], inr (inr (refl, inr refl)), e ∙ rw w (sym (append-nil (strip_carriage_return text ++ []) ∙ append-nil (strip_carriage_return text))))
      | inr e ↦ (13 ∷ [], inr (inr (refl, inl refl)), e ∙ rw (w, append-nil) refl)
    ]

-- an LF behind a piece without LF
pieces_of-append : (piece rest : List ℕ) → All (λ b. b ≢ 10) piece → pieces_of (piece ++ 10 ∷ rest) ≡ piece ∷ pieces_of rest
pieces_of-append [] rest h = refl
pieces_of-append (b ∷ bs) rest h =
    let here : eqb b 10 ≡ false = ne_eqb b 10 (All-head (λ (x : ℕ). x ≢ 10) b bs h) in
    let after = pieces_of-append bs rest (All-tail (λ (x : ℕ). x ≢ 10) b bs h) in
    rw (here, after) refl

pub line_comes_back : (line rest : List ℕ) → All (λ b. b ≢ 10) line → get_or line (length line - 1) 0 ≢ 13
    → lines_of (line ++ 10 ∷ rest) ≡ line ∷ lines_of rest
line_comes_back line rest h n =
    let last : eqb (get_or line (length line - 1) 0) 13 ≡ false = ne_eqb _ 13 n in
    let after = pieces_of-append line rest h in
    rw (after, last) refl

length-onto_first : (b : ℕ) (pieces : List (List ℕ)) (n : ℕ) → length pieces ≤ n → length (onto_first b pieces) ≤ suc n
length-onto_first b [] n h = omega arith
length-onto_first b (piece ∷ pieces) n h = omega arith

-- either way of one more byte
cond_pieces : (c : Bool) (b : ℕ) (bs : List ℕ) → length (pieces_of bs) ≤ length bs → length (cond c ([] ∷ pieces_of bs) (onto_first b (pieces_of bs))) ≤ suc (length bs)
cond_pieces true b bs h = omega arith
cond_pieces false b bs h = length-onto_first b (pieces_of bs) (length bs) h

length-pieces_of : (text : List ℕ) → length (pieces_of text) ≤ length text
length-pieces_of [] = omega arith
length-pieces_of (b ∷ bs) =
    let rest = length-pieces_of bs in
    cond_pieces (eqb b 10) b bs rest

pub length-lines_of : (text : List ℕ) → length (lines_of text) ≤ length text
length-lines_of text = rw length-map (length-pieces_of text)
