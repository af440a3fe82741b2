-- Words one space apart, and the line of a sink that is made of them.
use Rattle.std.proofs.Common.{◌≡◌, ℕ, zero, suc, ◌-◌, ◌^◌, ◌<◌, ◌≤◌, min, pos, true, false, List, [], ◌∷◌, ◌++◌, codes, length, get_or, take, drop, refl, sym, ap, ◌∙◌, inl, inr, ⊎_elim, arith, subst, length-take, length-drop, take-append-drop, Ok, leb}
use Rattle.std.proofs.lemmas.Bool.{ne_eqb}
use Rattle.std.proofs.lemmas.Bool.Decides.{leb_tells}
use Rattle.std.proofs.lemmas.List.{get_or_default, get_or-take, get_or-drop}
use Rattle.std.proofs.lemmas.List.Folds.{list_all-append}
use Rattle.std.proofs.lemmas.List.Sums.{list_all-from_AllPass}
use Rattle.std.specs.List.{list_all}
use Rattle.cts_num.specs.Reading.{IsDecimal, IsReading, reading_of}
use Rattle.cts_num.proofs.Computed.{reading_of_is}
use Rattle.cts_num.proofs.Fronts.{byte_at_point}
use Rattle.cts_read.specs.Lines.{is_blank, is_printable, is_printable_byte, words_of}
use Rattle.cts_read.specs.Grammar.{fields_of, number_of}
use Rattle.cts_instance.specs.declared.version.Version.{Version}
use Rattle.cts_instance.specs.declared.version.Version.TheVariants.{One, Two}
use Rattle.cts_read.specs.Items.{offset_of, sink_numbers}
use Rattle.cts_read.specs.Plain.{IsPlainEnd, IsPlainNumber, IsPlainOffset}
use Rattle.cts_read.proofs.WordLists.{words_of_blank, words_of_empty, words_of_front, words_of_next}

-- a byte that may stand within a word
record IsWordByte (b : ℕ) : Type 0 where
  blank : is_blank b ≡ false
  printable : is_printable_byte b ≡ true

digit_in_word : (b : ℕ) → 48 ≤ b → b ≤ 57 → IsWordByte b
digit_in_word b lo hi =
    let low : leb 32 b ≡ true = elim (leb_tells 32 b) [ inl p ↦ p.0 | inr p ↦ absurd (omega (arith, p.1)) ] in
    let high : leb b 126 ≡ true = elim (leb_tells b 126) [ inl p ↦ p.0 | inr p ↦ absurd (omega (arith, p.1)) ] in
    let space = ne_eqb b 32 (λ e. omega (arith, e)) in
    let tab = ne_eqb b 9 (λ e. omega (arith, e)) in
    record { blank = rw (space, tab) refl; printable = rw (tab, low, high) refl }

-- a number that was read has no other bytes
number_in_word : (text : List ℕ) (places value k : ℕ) → IsDecimal text places value → k < length text → IsWordByte (get_or text k 0)
number_in_word text places value k h lt =
    ⊎_elim (λ d. digit_in_word (get_or text k 0) d.0 d.1)
    (λ e. let point : get_or text k 0 ≡ 46 = ap (λ i. get_or text i 0) e ∙ byte_at_point text (omega (arith, e, lt)) in
    rw point (record { blank = refl; printable = refl }))
    (h.good k lt)

pub number_below : (text : List ℕ) (places value : ℕ) → reading_of text places ≡ Ok value → value < 10 ^ 18
number_below text places value e = let is : IsReading text places (Ok value) = subst (IsReading text places) e (reading_of_is text places) in is.1

decimal_of : (text : List ℕ) (places value : ℕ) → reading_of text places ≡ Ok value → IsDecimal text places value
decimal_of text places value e = let is : IsReading text places (Ok value) = subst (IsReading text places) e (reading_of_is text places) in is.0

-- what follows a word has the same words and is as printable as what follows its space
words_after_end : (bytes rest : List ℕ) → IsPlainEnd bytes rest → words_of bytes ≡ words_of rest
words_after_end bytes rest e = ⊎_elim (λ p. ap words_of (p.0 ∙ sym p.1)) (λ p. ap words_of p ∙ words_of_blank 32 rest refl) e

printable_after_end : (bytes rest : List ℕ) → IsPlainEnd bytes rest → is_printable bytes ≡ is_printable rest
printable_after_end bytes rest e = ⊎_elim (λ p. ap is_printable (p.0 ∙ sym p.1)) (λ p. ap is_printable p) e

blank_at_end : (bytes rest : List ℕ) → IsPlainEnd bytes rest → 0 < length bytes → is_blank (get_or bytes 0 0) ≡ true
blank_at_end bytes rest e some = ⊎_elim (λ p. absurd (omega (arith, ap length p.0, some))) (λ p. rw p refl) e

-- the number in front, where it is a word
pub number_is_plain : (bytes : List ℕ) (places size value : ℕ) (rest : List ℕ) → size ≤ length bytes → reading_of (take size bytes) places ≡ Ok value
    → IsPlainEnd (drop size bytes) rest → IsPlainNumber places bytes value rest
number_is_plain bytes places size value rest within reading end =
    let word = take size bytes in
    let decimal = decimal_of word places value reading in
    let some : 0 < size = omega (arith, decimal.some_digit.1, length-take size bytes) in
    let byte : (k : ℕ) → k < size → IsWordByte (get_or bytes k 0) =
    λ k lt. subst IsWordByte (get_or-take size bytes k 0 lt) (number_in_word word places value k decimal (omega (arith, length-take size bytes))) in
    let front = words_of_front bytes size some within (λ k lt. (byte k lt).blank)
    (λ lt. ap (λ i. is_blank (get_or bytes i 0)) (omega arith) ∙ ap is_blank (sym (get_or-drop size bytes 0 0)) ∙ blank_at_end (drop size bytes) rest end (omega (arith, length-drop size bytes))) in
    let all : list_all is_printable_byte word ≡ true =
    list_all-from_AllPass is_printable_byte word (λ k d lt. ap is_printable_byte (get_or_default word k d 0 lt) ∙ (number_in_word word places value k decimal lt).printable) in
    let printable : is_printable bytes ≡ is_printable (drop size bytes) =
    ap is_printable (sym (take-append-drop size bytes)) ∙ list_all-append is_printable_byte word (drop size bytes)
    ∙ rw all refl in
    record {
      word = word;
      words = front ∙ ap (λ ws. word ∷ ws) (words_after_end (drop size bytes) rest end);
      reading = reading;
      printable = printable ∙ printable_after_end (drop size bytes) rest end;
    }

-- such a number, by the words of its line
pub plain_number_of : (places : ℕ) (bytes : List ℕ) (value : ℕ) (rest : List ℕ) → IsPlainNumber places bytes value rest
    → number_of places (words_of bytes) ≡ Ok (value, words_of rest)
unfolding number_of
plain_number_of places bytes value rest number = rw (number.words, number.reading) refl

key_in_word : (k d : ℕ) → k < 4 → is_blank (get_or (codes "sink") k d) ≡ false
key_in_word zero d lt = refl
key_in_word (suc zero) d lt = refl
key_in_word (suc (suc zero)) d lt = refl
key_in_word (suc (suc (suc zero))) d lt = refl
key_in_word (suc (suc (suc (suc k)))) d lt = absurd (omega (arith, lt))

pub printable_empty : (bytes : List ℕ) → length bytes ≡ 0 → is_printable bytes ≡ true
printable_empty [] none = refl
printable_empty (b ∷ bs) none = absurd (omega (arith, none))

-- a sink's line whose first words are four such numbers
module _ (line rest₀ rest₁ rest₂ rest₃ rest₄ : List ℕ) (id x y cap : ℕ) (e : line ≡ codes "sink " ++ rest₀) (a : IsPlainNumber 0 rest₀ id rest₁)
    (b : IsPlainNumber 3 rest₁ x rest₂) (c : IsPlainNumber 3 rest₂ y rest₃) (d : IsPlainNumber 6 rest₃ cap rest₄) where
  words_before : words_of line ≡ codes "sink" ∷ a.word ∷ b.word ∷ c.word ∷ d.word ∷ words_of rest₄
  words_before =
      ap words_of e ∙ words_of_next (codes "sink") 32 rest₀ (omega arith) key_in_word refl
      ∙ ap (λ ws. codes "sink" ∷ ws) (words_of_blank 32 rest₀ refl ∙ a.words ∙ ap (λ ws. a.word ∷ ws) (b.words ∙ ap (λ ws. b.word ∷ ws)
      (c.words ∙ ap (λ ws. c.word ∷ ws) d.words)))

  printable_before : is_printable line ≡ is_printable rest₄
  printable_before = ap is_printable e ∙ a.printable ∙ b.printable ∙ c.printable ∙ d.printable

  -- where no other word follows
  first_line_of : length rest₄ ≡ 0
      → sink_numbers One line ≡ Ok (record { id = min id (2 ^ 32 - 1); x = pos x; y = pos y; cap = cap; offset = 0 })
  unfolding sink_numbers fields_of number_of offset_of
  first_line_of none =
      rw (printable_before ∙ printable_empty rest₄ none, words_before, words_of_empty rest₄ none, a.reading, b.reading, c.reading, d.reading) refl

  -- where an offset follows
  second_line_of : (offset : ℕ) (rest₅ : List ℕ) → IsPlainNumber 15 rest₄ offset rest₅ → length rest₅ ≡ 0
      → sink_numbers Two line ≡ Ok (record { id = min id (2 ^ 32 - 1); x = pos x; y = pos y; cap = cap; offset = offset })
  unfolding sink_numbers fields_of number_of offset_of
  second_line_of offset rest₅ o none =
      rw (printable_before ∙ o.printable ∙ printable_empty rest₅ none, words_before, o.words, words_of_empty rest₅ none, a.reading, b.reading, c.reading, d.reading, o.reading) refl

  -- a sink's line of such words
  pub plain_line : (version : Version) (offset : ℕ) (rest₅ : List ℕ) → IsPlainOffset version rest₄ offset rest₅ → length rest₅ ≡ 0
      → sink_numbers version line ≡ Ok (record { id = min id (2 ^ 32 - 1); x = pos x; y = pos y; cap = cap; offset = offset })
  plain_line One offset rest₅ o none = rw o.0 (first_line_of (ap length (sym o.1) ∙ none))
  plain_line Two offset rest₅ o none = second_line_of offset rest₅ o none
