-- The words of a line, from its front.
use Rattle.std.proofs.Common.{◌≡◌, ℕ, ◌+◌, ◌<◌, ◌≤◌, true, false, List, [], ◌∷◌, ◌++◌, length, take, drop, get_or, refl, sym, ap, ◌∙◌, arith, take-append-drop, subst, append-nil, drop-cons, add-one, add-zero, ◌==◌}
use Rattle.std.specs.List.{All}
use Rattle.std.proofs.lemmas.List.{length-take, length-drop, get_or-take, get_or-drop, get_or_default, drop_all}
use Rattle.std.proofs.lemmas.List.Splits.{slice_split-cons_yes, slice_split_none, slice_split_at}
use Rattle.cts_read.specs.Lines.{is_blank, is_skipped, words_of}

-- a blank before the words changes nothing
pub words_of_blank : (b : ℕ) (bs : List ℕ) → is_blank b ≡ true → words_of (b ∷ bs) ≡ words_of bs
unfolding words_of
words_of_blank b bs h = rw (slice_split-cons_yes is_blank b bs h) refl

-- a word that the end of the line ends
pub words_of_last : (w : List ℕ) → 0 < length w → All (λ x. is_blank x ≡ false) w → words_of w ≡ w ∷ []
unfolding words_of
words_of_last [] h a = absurd (omega (arith, h))
words_of_last (x ∷ xs) h a = rw (slice_split_none is_blank (x ∷ xs) a) refl

-- a word that a blank ends
pub words_of_next : (w : List ℕ) (y : ℕ) (ys : List ℕ) → 0 < length w → All (λ x. is_blank x ≡ false) w → is_blank y ≡ true
    → words_of (w ++ y ∷ ys) ≡ w ∷ words_of (y ∷ ys)
unfolding words_of
words_of_next [] y ys h a b = absurd (omega (arith, h))
words_of_next (x ∷ xs) y ys h a b =
    rw (slice_split_at is_blank (x ∷ xs) y ys a b, slice_split-cons_yes is_blank y ys b) refl

-- a word, and then nothing or a blank
words_of_parts : (w rest : List ℕ) → 0 < length w → All (λ x. is_blank x ≡ false) w → (0 < length rest → is_blank (get_or rest 0 0) ≡ true)
    → words_of (w ++ rest) ≡ w ∷ words_of rest
unfolding words_of
words_of_parts w [] h a b = ap words_of (append-nil w) ∙ words_of_last w h a
words_of_parts w (y ∷ ys) h a b = words_of_next w y ys h a (b (omega arith))

get_or_any : (s : List ℕ) (k d e : ℕ) → k < length s → is_blank (get_or s k e) ≡ false → is_blank (get_or s k d) ≡ false
get_or_any s k d e h f = let same : get_or s k d ≡ get_or s k e = get_or_default s k d e h in rw same f

-- what is no blank begins a word, or a comment
pub skipped_here : (s : List ℕ) (i : ℕ) → i < length s → is_blank (get_or s i 0) ≡ false → is_skipped (drop i s) ≡ (get_or s i 0 == 35)
unfolding is_skipped
skipped_here s i h b = ap is_skipped (drop-cons s i 0 h) ∙ rw b refl

pub skipped_none : (s : List ℕ) → is_skipped (drop (length s) s) ≡ true
unfolding is_skipped
skipped_none s = let all : length s ≤ length s = omega arith in rw drop_all refl

-- the first word, by how many bytes come before a blank
pub words_of_front : (s : List ℕ) (n : ℕ) → 0 < n → n ≤ length s → ((k : ℕ) → k < n → is_blank (get_or s k 0) ≡ false)
    → (n < length s → is_blank (get_or s n 0) ≡ true) → words_of s ≡ take n s ∷ words_of (drop n s)
words_of_front s n pos within word stop =
    let whole : words_of s ≡ words_of (take n s ++ drop n s) = ap words_of (sym (take-append-drop n s)) in
    whole ∙ words_of_parts (take n s) (drop n s)
    (simp length-take (omega arith))
    (λ k d h. let m : k < n = omega (arith, length-take n s) in rw get_or-take (get_or_any s k d 0 (omega arith) (word k m)))
    (λ h. let m : n < length s = omega (arith, length-drop n s) in rw (get_or-drop, add-zero) (stop m))

-- a blank at a place changes nothing for what comes before and after it
pub words_of_drop : (s : List ℕ) (i : ℕ) → i < length s → is_blank (get_or s i 0) ≡ true → words_of (drop (i + 1) s) ≡ words_of (drop i s)
words_of_drop s i h b = rw add-one (sym (ap words_of (drop-cons s i 0 h) ∙ words_of_blank _ _ b))

pub skipped_drop : (s : List ℕ) (i : ℕ) → i < length s → is_blank (get_or s i 0) ≡ true → is_skipped (drop (i + 1) s) ≡ is_skipped (drop i s)
unfolding is_skipped
skipped_drop s i h b = rw add-one (sym (ap is_skipped (drop-cons s i 0 h) ∙ rw b refl))

-- no byte, no word
pub words_of_empty : (s : List ℕ) → length s ≡ 0 → words_of s ≡ []
unfolding words_of
words_of_empty [] h = refl
words_of_empty (x ∷ xs) h = absurd (omega (arith, h))

-- no word begins at a blank, and no blank stands at the front
pub no_word : (s : List ℕ) (n : ℕ) → n ≡ 0 → (0 < length s → is_blank (get_or s 0 0) ≡ false) → (n < length s → is_blank (get_or s n 0) ≡ true) → words_of s ≡ []
no_word [] n e start stop = words_of_empty [] refl
no_word (x ∷ xs) n e start stop =
    let a : is_blank x ≡ false = start (omega arith) in
    let b : is_blank (get_or (x ∷ xs) n 0) ≡ true = stop (omega arith) in
    let c : is_blank x ≡ true = subst (λ i. is_blank (get_or (x ∷ xs) i 0) ≡ true) e b in
    cc
