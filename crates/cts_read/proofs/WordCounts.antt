-- The words of a line, counted by the bytes at which they begin.
use Rattle.std.proofs.Common.{◌≡◌, ℕ, suc, ◌+◌, ◌<◌, Bool, true, false, cond, not, ◌&&◌, List, [], ◌∷◌, length, drop, get_or, refl, sym, ap, ◌∙◌, arith, drop-cons, zero-add, add-one, subst}
use Rattle.std.proofs.lemmas.List.{drop_all}
use Rattle.std.specs.List.{filter, onto_first, slice_split}
use Rattle.std.proofs.lemmas.List.Splits.{slice_split-cons_no}
use Rattle.cts_read.specs.Lines.{is_blank, is_some_word, words_of}
use Rattle.cts_read.proofs.WordLists.{words_of_blank, words_of_empty, words_of_last, words_of_next}

-- how many words begin, where what comes before is a blank or the front of the line, or else is not
abbrev pub begun : Bool → List ℕ → ℕ
begun after [] = 0
begun after (b ∷ bs) = cond (after && not (is_blank b)) 1 0 + begun (is_blank b) bs

-- whether a line begins with a word
abbrev starts : List ℕ → ℕ
starts [] = 0
starts (b ∷ bs) = cond (is_blank b) 0 1

-- a longer first word
longer : (b c : ℕ) (parts : List (List ℕ))
    → length (filter is_some_word (onto_first b (onto_first c parts))) ≡ length (filter is_some_word (onto_first c parts))
longer b c [] = refl
longer b c (w ∷ ws) = refl

-- two bytes of one word
same_words : (b c : ℕ) (cs : List ℕ) → is_blank b ≡ false → is_blank c ≡ false
    → length (words_of (b ∷ c ∷ cs)) ≡ length (words_of (c ∷ cs))
unfolding words_of
same_words b c cs first second =
    let here : slice_split is_blank (c ∷ cs) ≡ onto_first c (slice_split is_blank cs) =
    slice_split-cons_no is_blank c cs second in
    let there : slice_split is_blank (b ∷ c ∷ cs) ≡ onto_first b (onto_first c (slice_split is_blank cs)) =
    slice_split-cons_no is_blank b (c ∷ cs) first ∙ ap (onto_first b) here in
    ap (λ parts. length (filter is_some_word parts)) there ∙ longer b c (slice_split is_blank cs)
    ∙ ap (λ parts. length (filter is_some_word parts)) (sym here)

-- a word of one byte, and then nothing or a blank
alone : (b : ℕ) → is_blank b ≡ false → (k d : ℕ) → k < 1 → is_blank (get_or (b ∷ []) k d) ≡ false
alone b first k d h = let zeroth : k ≡ 0 = omega arith in rw zeroth first

-- a byte that is no blank, before the rest of a line
one_more : (b : ℕ) (bs : List ℕ) → is_blank b ≡ false → length (words_of (b ∷ bs)) + starts bs ≡ 1 + length (words_of bs)
one_more b [] first =
    omega (arith, ap length (words_of_last (b ∷ []) (omega arith) (alone b first)), ap length (words_of_empty [] refl))
one_more b (c ∷ cs) first = by_next (is_blank c) refl
  where
    by_next : (next : Bool) → is_blank c ≡ next
        → length (words_of (b ∷ c ∷ cs)) + starts (c ∷ cs) ≡ 1 + length (words_of (c ∷ cs))
    by_next true second =
        let none : starts (c ∷ cs) ≡ 0 = ap (λ blank. cond blank 0 1) second in
        omega (arith, none, ap length (words_of_next (b ∷ []) c cs (omega arith) (alone b first) second))
    by_next false second =
        let some : starts (c ∷ cs) ≡ 1 = ap (λ blank. cond blank 0 1) second in
        omega (arith, some, same_words b c cs first second)

counts : (s : List ℕ) → (begun true s ≡ length (words_of s)) × (begun false s + starts s ≡ length (words_of s))
counts [] = let none : length (words_of []) ≡ 0 = ap length (words_of_empty [] refl) in (omega arith, omega arith)
counts (b ∷ bs) = by_first (counts bs) (is_blank b) refl
  where
    by_first : (begun true bs ≡ length (words_of bs)) × (begun false bs + starts bs ≡ length (words_of bs))
        → (first : Bool) → is_blank b ≡ first
        → (begun true (b ∷ bs) ≡ length (words_of (b ∷ bs)))
        × (begun false (b ∷ bs) + starts (b ∷ bs) ≡ length (words_of (b ∷ bs)))
    by_first rest true first =
        let same : length (words_of (b ∷ bs)) ≡ length (words_of bs) = ap length (words_of_blank b bs first) in
        let after : begun true (b ∷ bs) ≡ begun true bs = ap (λ blank. cond (not blank) 1 0 + begun blank bs) first ∙ zero-add _ in
        let within : begun false (b ∷ bs) ≡ begun true bs = ap (λ blank. 0 + begun blank bs) first ∙ zero-add _ in
        let none : starts (b ∷ bs) ≡ 0 = ap (λ blank. cond blank 0 1) first in
        (omega (arith, same, after, rest.0), omega (arith, same, within, none, rest.0))
    by_first rest false first =
        let more : length (words_of (b ∷ bs)) + starts bs ≡ 1 + length (words_of bs) = one_more b bs first in
        let after : begun true (b ∷ bs) ≡ 1 + begun false bs = ap (λ blank. cond (not blank) 1 0 + begun blank bs) first in
        let within : begun false (b ∷ bs) ≡ begun false bs = ap (λ blank. 0 + begun blank bs) first ∙ zero-add _ in
        let some : starts (b ∷ bs) ≡ 1 = ap (λ blank. cond blank 0 1) first in
        (omega (arith, more, after, rest.1), omega (arith, more, within, some, rest.1))

-- as many words begin as there are
pub begun_all : (s : List ℕ) → begun true s ≡ length (words_of s)
begun_all s = (counts s).0

-- one byte further
pub begun_next : (after blank : Bool) (s : List ℕ) (i d count more whole : ℕ) → i < length s → blank ≡ is_blank (get_or s i d)
    → more ≡ count + cond (after && not blank) 1 0 → count + begun after (drop i s) ≡ whole
    → more + begun blank (drop (i + 1) s) ≡ whole
begun_next after blank s i d count more whole h is added so_far =
    let here : begun after (drop i s)
    ≡ cond (after && not (is_blank (get_or s i d))) 1 0 + begun (is_blank (get_or s i d)) (drop (suc i) s) =
    ap (begun after) (drop-cons s i d h) in
    rw (add-one, is) (omega (arith, here, subst (λ b. more ≡ count + cond (after && not b) 1 0) is added, so_far))

-- past the end no word begins
pub begun_past : (after : Bool) (s : List ℕ) (i : ℕ) → i ≡ length s → begun after (drop i s) ≡ 0
begun_past after s i past = ap (begun after) (drop_all i s (omega arith))
