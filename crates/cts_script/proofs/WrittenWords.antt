-- Words that are written come back from their line.
use Rattle.std.proofs.Common.{◌≡◌, ℕ, zero, suc, ◌^◌, ◌<◌, ◌≤◌, inl, inr, Bool, true, false, not, nat_le, nat_eq, eqb, ◌&&◌, List, [], ◌∷◌, ◌++◌, length, get_or, All, Ok, refl, sym, subst, ap, ◌∙◌, arith, append-nil}
use Rattle.std.specs.List.{flat_map, list_all}
use Rattle.std.proofs.lemmas.Bool.{false≢true, le-leb, leb-true, ne_eqb}
use Rattle.std.proofs.lemmas.Bool.Decides.{eqb_tells}
use Rattle.std.proofs.lemmas.List.{get_or_default}
use Rattle.std.proofs.lemmas.List.Elements.{All-append}
use Rattle.std.proofs.lemmas.List.Sums.{AllPass-from_list_all, list_all-from_AllPass, prefix_len_stops}
use Rattle.std.specs.Str.{bytes_eq}
use Rattle.cts_num.specs.Decimal.{decimal_text}
use Rattle.cts_num.specs.Reading.{IsDecimal, is_point, point_place, reading_of}
use Rattle.cts_num.proofs.Computed.{reading_of_is}
use Rattle.cts_num.proofs.Readings.{reading_is_unique}
use Rattle.cts_num.proofs.Spelling.{decimal_is_read_back}
use Rattle.cts_read.specs.Lines.{is_blank, is_printable, is_printable_byte, words_of}
use Rattle.cts_read.specs.Grammar.{fields_of, number_of}
use Rattle.cts_read.proofs.WordLists.{words_of_last, words_of_next, words_of_blank}
use Rattle.cts_script.specs.Text.{after_space}

-- a byte of a word
pub record IsWordByte (b : ℕ) : Type 0 where
  pub low : 33 ≤ b
  pub high : b ≤ 126

-- a word that can be told from its neighbours
pub record IsWord (word : List ℕ) : Type 0 where
  pub some : 0 < length word
  pub each : All IsWordByte word

-- words of a line
abbrev pub AreWords : List (List ℕ) → Type 0
AreWords [] = Unit {0}
AreWords (w ∷ ws) = IsWord w × AreWords ws

-- a byte of a line
pub record IsLineByte (b : ℕ) : Type 0 where
  pub low : 32 ≤ b
  pub high : b ≤ 126

-- the line of these words, without its end
abbrev pub body_of : List ℕ → List (List ℕ) → List ℕ
body_of key words = key ++ flat_map after_space words

word_not_blank : (b : ℕ) → IsWordByte b → is_blank b ≡ false
word_not_blank b h =
    let space : eqb b 32 ≡ false = ne_eqb b 32 (λ e. omega (arith, h.low, e)) in
    let tab : eqb b 9 ≡ false = ne_eqb b 9 (λ e. omega (arith, h.low, e)) in
    rw (space, tab) refl

pub words_not_blank : (w : List ℕ) → IsWord w → All (λ x. is_blank x ≡ false) w
words_not_blank w h i d inside = word_not_blank _ (h.each i d inside)

pub words_of-body : (key : List ℕ) (words : List (List ℕ)) → IsWord key → AreWords words → words_of (body_of key words) ≡ key ∷ words
words_of-body key [] k h = ap words_of (append-nil key) ∙ words_of_last key k.some (words_not_blank key k)
words_of-body key (w ∷ ws) k h =
    words_of_next key 32 (w ++ flat_map after_space ws) k.some (words_not_blank key k) refl
    ∙ ap (λ rest. key ∷ rest) (words_of_blank 32 (w ++ flat_map after_space ws) refl ∙ words_of-body w ws h.0 h.1)

word_line : (w : List ℕ) → IsWord w → All IsLineByte w
word_line w h i d inside = record { low = omega (arith, (h.each i d inside).low); high = (h.each i d inside).high }

space_line : All IsLineByte (32 ∷ [])
space_line zero d inside = record { low = omega arith; high = omega arith }
space_line (suc i) d inside = absurd (omega (arith, inside))

pub line-body : (key : List ℕ) (words : List (List ℕ)) → IsWord key → AreWords words → All IsLineByte (body_of key words)
line-body key [] k h = subst (All IsLineByte) (sym (append-nil key)) (word_line key k)
line-body key (w ∷ ws) k h =
    All-append IsLineByte key (32 ∷ w ++ flat_map after_space ws) (word_line key k)
    (All-append IsLineByte (32 ∷ []) (w ++ flat_map after_space ws)
    space_line
    (line-body w ws h.0 h.1))

printable_byte : (b : ℕ) → IsLineByte b → is_printable_byte b ≡ true
printable_byte b h =
    let tab : eqb b 9 ≡ false = ne_eqb b 9 (λ e. omega (arith, h.low, e)) in
    let low : nat_le 32 b ≡ true = le-leb 32 b h.low in
    let high : nat_le b 126 ≡ true = le-leb b 126 h.high in
    rw (tab, low, high) refl

pub printable : (line : List ℕ) → All IsLineByte line → is_printable line ≡ true
printable line h = list_all-from_AllPass is_printable_byte line (λ i d inside. printable_byte _ (h i d inside))

pub fields_back : (key : List ℕ) (words : List (List ℕ)) (count : ℕ) → IsWord key → AreWords words → bytes_eq key key ≡ true → nat_eq (length words) count ≡ true
    → fields_of key count (body_of key words) ≡ Ok words
unfolding fields_of
fields_back key words count k h same n =
    rw (printable (body_of key words) (line-body key words k h), words_of-body key words k h, same, n) refl

pub number_back : (places value : ℕ) (words : List (List ℕ)) → value < 10 ^ 18
    → number_of places (decimal_text places value ∷ words) ≡ Ok (value, words)
unfolding number_of
number_back places value words less =
    let text = decimal_text places value in
    let read : reading_of text places ≡ Ok value =
    reading_is_unique text places (reading_of text places) (Ok value) (reading_of_is text places) (decimal_is_read_back places value, less) in
    rw read refl

point_byte : (text : List ℕ) → point_place text < length text → get_or text (point_place text) 0 ≡ 46
point_byte text inside =
    let stop : not (eqb (get_or text (point_place text) 0) 46) ≡ false = prefix_len_stops (λ b. not (is_point b)) text 0 inside in
    elim (eqb_tells (get_or text (point_place text) 0) 46) [
      | inl e ↦ e.1
      | inr e ↦ absurd (false≢true (sym (rw e.0 at stop)))
    ]

point_is_word : (b : ℕ) → b ≡ 46 → IsWordByte b
point_is_word b e = record { low = omega (arith, e); high = omega (arith, e) }

pub decimal_word : (places value : ℕ) → IsWord (decimal_text places value)
decimal_word places value =
    let text : List ℕ = decimal_text places value in
    let d : IsDecimal text places value = decimal_is_read_back places value in
    record {
      some = omega (arith, d.some_digit.1);
      each = λ i e inside.
          subst IsWordByte (get_or_default text i 0 e inside)
          (elim (d.good i inside) [
            | inl digit ↦ record { low = omega (arith, digit.0); high = omega (arith, digit.1) }
            | inr at ↦ point_is_word (get_or text i 0) (ap (λ k. get_or text k 0) at ∙ point_byte text (subst (λ k. k < length text) at inside))
          ]);
    }

both : (a b : Bool) → (a && b) ≡ true → (a ≡ true) × (b ≡ true)
both true b h = (refl, h)
both false b h = absurd (false≢true h)

-- a word that is spelled out
pub literal : (word : List ℕ) → 0 < length word → list_all (λ b. nat_le 33 b && nat_le b 126) word ≡ true → IsWord word
literal word some h = record {
  some = some;
  each = λ i d inside.
      let b = both _ _ (AllPass-from_list_all (λ b. nat_le 33 b && nat_le b 126) word h i d inside) in
      record { low = leb-true 33 _ b.0; high = leb-true _ 126 b.1 };
}
