-- Words and numbers.
use Rattle.std.proofs.Common.{◌≡◌, ℕ, ◌-◌, ◌^◌, ◌<◌, ◌≤◌, Bool, true, false, eqb, leb, List, [], ◌∷◌, ◌++◌, take, drop, length, get_or, Option, Some, None, refl, sym, ap, ap₂, ◌∙◌, inl, inr, arith, length-append}
use Rattle.std.specs.List.{prefix_len}
use Rattle.std.proofs.lemmas.Bool.Decides.{eqb_tells, leb_tells}
use Rattle.std.proofs.lemmas.List.{take-append-drop, get_or_append_left, get_or-append_right}
use Rattle.std.proofs.lemmas.List.Sums.{prefix_len_is}
use Rattle.std.specs.Borrow.{Bor}
use Rattle.std.specs.Str.{bytes_eq}
use Rattle.std.proofs.Math.Seq.{take-append_seam, drop-append_seam}
use Rattle.cts_num.specs.Canonical.{canonical_of}
use Rattle.cts_num.specs.Decimal.{decimal_text}
use Rattle.cts_num.proofs.CanonicalTexts.{canonical_is_written, decimal-bytes, texts_agree, texts_same}
use Rattle.cts_num.proofs.Fronts.{digit_passes}
use Rattle.cts_num.proofs.Spelling.{decimal_is_read_back}
use Rattle.cts_report.specs.Lines.{labelled}
use Rattle.cts_report_reader.specs.Reader.{is_number_byte, IsStop, IsAny, IsPart}
use Rattle.cts_report_reader.specs.Words.{◌>>=◌, Finds, word_at, number_at, labelled_at, bounded_at}
use Rattle.cts_report_reader.proofs.Parts.{some_is, none_is, bind_some, bind_part_again, bind_part, kept_part, same_part}

true_false : ◌≡◌ {A = Bool} true false → ⊥
true_false e = cc

eqb_same : (n : ℕ) → eqb n n ≡ true
eqb_same n = elim (eqb_tells n n) [ inl p ↦ p.0 | inr p ↦ absurd (p.1 refl) ]

pub word_again : (word rest : List ℕ) → word_at word (word ++ rest) ≡ Some (tt, rest)
unfolding word_at
word_again [] rest = refl
word_again (letter ∷ word) rest = rw (eqb_same letter) (word_again word rest)

pub word_takes : (word bytes : List ℕ) (x : Unit {0}) (rest : List ℕ) → word_at word bytes ≡ Some (x, rest) → bytes ≡ word ++ rest
unfolding word_at
word_takes [] bytes x rest e = ap (λ (p : Unit {0} × List ℕ). p.1) (some_is e)
word_takes (letter ∷ word) [] x rest e = absurd (none_is e)
word_takes (letter ∷ word) (byte ∷ bytes) x rest e =
    elim (eqb_tells letter byte) [
      | inl p ↦ ap₂ (λ b bs. b ∷ bs) (sym p.1) (word_takes word bytes x rest (rw p.0 at e))
      | inr p ↦ absurd (none_is (rw p.0 at e))
    ]

pub word_part : (word : List ℕ) → IsPart IsAny (λ (_ : Unit {0}). Unit {0}) (λ _. word) (word_at word)
word_part word = record {
  takes = λ bytes value rest e. (tt, word_takes word bytes value rest e);
  again = λ value rest fits ends. word_again word rest;
}

-- numbers

number_byte : (places number k : ℕ) → k < length (decimal_text places number) → is_number_byte (get_or (decimal_text places number) k 0) ≡ true
number_byte places number k lt =
    elim (decimal-bytes places number k lt) [
      | inl digit ↦ rw (digit_passes (get_or (decimal_text places number) k 0) digit) refl
      | inr point ↦ rw point refl
    ]

stop_byte : (rest : List ℕ) → IsStop rest → 0 < length rest → is_number_byte (get_or rest 0 0) ≡ false
stop_byte [] stop some = absurd (omega (arith, some))
stop_byte (byte ∷ rest) stop some = stop

byte_behind : (text rest : List ℕ) → get_or (text ++ rest) (length text) 0 ≡ get_or rest 0 0
byte_behind text rest =
    let at : length text - length text ≡ 0 = omega arith in
    get_or-append_right text rest (length text) (length text) 0 refl (omega arith) ∙ ap (λ i. get_or rest i 0) at

number_size : (places number : ℕ) (rest : List ℕ) → IsStop rest
    → prefix_len is_number_byte (decimal_text places number ++ rest) ≡ length (decimal_text places number)
number_size places number rest stop =
    let text = decimal_text places number in
    let long = length-append text rest in
    prefix_len_is is_number_byte (text ++ rest) (length text) 0 (omega (arith, long))
    (λ k lt. ap is_number_byte (get_or_append_left text rest 0 k lt) ∙ number_byte places number k lt)
    (λ more. ap is_number_byte (byte_behind text rest) ∙ stop_byte rest stop (omega (arith, more, long)))

number_takes : (places : ℕ) (bytes : List ℕ) (number : ℕ) (rest : List ℕ) → number_at places bytes ≡ Some (number, rest)
    → (number < 10 ^ 38) × (bytes ≡ decimal_text places number ++ rest)
unfolding number_at
number_takes places bytes number rest e =
    let size = prefix_len is_number_byte bytes in
    bind_some (canonical_of places (take size bytes)) (λ n. Some (n, drop size bytes)) (number, rest) e (λ n found f.
    let w = (canonical_is_written places n (take size bytes)).0 found in
    let p = some_is f in
    let number_is : n ≡ number = ap (λ (x : ℕ × List ℕ). x.0) p in
    let rest_is : drop size bytes ≡ rest = ap (λ (x : ℕ × List ℕ). x.1) p in (
      omega (arith, w.1, number_is),
      sym (take-append-drop size bytes) ∙ ap₂ (λ a b. a ++ b) (w.0 ∙ ap (decimal_text places) number_is) rest_is,
    ))

number_again : (places number : ℕ) (rest : List ℕ) → number < 10 ^ 38 → IsStop rest
    → number_at places (decimal_text places number ++ rest) ≡ Some (number, rest)
unfolding number_at
number_again places number rest small stop =
    let text = decimal_text places number in
    let size = number_size places number rest stop in
    let front = ap (λ n. take n (text ++ rest)) size ∙ take-append_seam text rest in
    let back = ap (λ n. drop n (text ++ rest)) size ∙ drop-append_seam text rest in
    bind_part_again (canonical_of places (take (prefix_len is_number_byte (text ++ rest)) (text ++ rest))) (λ n. Some (n, drop (prefix_len is_number_byte (text ++ rest)) (text ++ rest))) number (Some (number, rest))
    (ap (canonical_of places) front ∙ (canonical_is_written places number text).1 (refl, small))
    (ap (λ b. Some (number, b)) back)

pub number_part : (places : ℕ) → IsPart IsStop (λ number. number < 10 ^ 38) (decimal_text places) (number_at places)
number_part places = record { takes = number_takes places; again = number_again places }

-- a label and a number
pub labelled_part : (label : List ℕ) (places : ℕ) → IsPart IsStop (λ number. number < 10 ^ 38) (labelled label places) (labelled_at label places)
unfolding labelled labelled_at
labelled_part label places =
    bind_part IsAny (λ (_ : Unit {0}). Unit {0}) (λ _. label) (word_at label) IsStop (λ number. number < 10 ^ 38) (labelled label places)
    (λ _ number. number < 10 ^ 38) (decimal_text places) (λ _. number_at places) (λ _. tt)
    (word_part label) (λ _ _. number_part places) (λ a c _ fits. (fits, refl)) (λ c fits. (tt, fits)) (λ c rest fits ends. tt)

pub le_bound : (number bound : ℕ) → number ≤ bound → leb number bound ≡ true
le_bound number bound le = elim (leb_tells number bound) [ inl p ↦ p.0 | inr p ↦ absurd (omega (arith, p.1, le)) ]

pub bound_le : (number bound : ℕ) → leb number bound ≡ true → number ≤ bound
bound_le number bound e = elim (leb_tells number bound) [ inl p ↦ p.1 | inr p ↦ absurd (true_false (sym e ∙ p.0)) ]

pub bounded_part : (label : List ℕ) (places bound : ℕ) → bound < 10 ^ 38
    → IsPart IsStop (λ number. number ≤ bound) (labelled label places) (bounded_at label places bound)
unfolding bounded_at
bounded_part label places bound few =
    same_part IsStop (λ number. (number < 10 ^ 38) × (leb number bound ≡ true)) (λ number. number ≤ bound) (labelled label places) (bounded_at label places bound)
    (kept_part IsStop (λ number. number < 10 ^ 38) (labelled label places) (labelled_at label places) (λ number. leb number bound) (labelled_part label places))
    (λ number fits. bound_le number bound fits.1)
    (λ number le. (omega (arith, le, few), le_bound number bound le))

-- a word, as the code strips it
word_taken_by : (word bytes : List ℕ) → bytes_eq (take (length word) bytes) word ≡ true → word_at word bytes ≡ Some (tt, drop (length word) bytes)
word_taken_by word bytes e =
    let front = texts_agree (take (length word) bytes) word e in
    let text : bytes ≡ word ++ drop (length word) bytes = sym (take-append-drop (length word) bytes) ∙ ap (λ w. w ++ drop (length word) bytes) front in
    ap (word_at word) text ∙ word_again word (drop (length word) bytes)

word_refused_by : (word bytes : List ℕ) (o : Option (Unit {0} × List ℕ)) → word_at word bytes ≡ o → bytes_eq (take (length word) bytes) word ≡ false → o ≡ None
word_refused_by word bytes None e other = refl
word_refused_by word bytes (Some x) e other =
    let text = word_takes word bytes x.0 x.1 e in
    let front : take (length word) bytes ≡ word = ap (take (length word)) text ∙ take-append_seam word x.1 in
    absurd (true_false (sym (texts_same (take (length word) bytes) word front) ∙ other))

pub word_taken : (word bytes : List ℕ) → bytes_eq (take (length word) bytes) word ≡ true → word_at word bytes ≡ Some (tt, drop (length word) bytes)
word_taken = word_taken_by

pub word_refused : (word bytes : List ℕ) → bytes_eq (take (length word) bytes) word ≡ false → word_at word bytes ≡ None
word_refused word bytes other = word_refused_by word bytes (word_at word bytes) refl other

-- what the code found, by equations
pub finds_none : {T A : Type 0} (view : T → A) (found : Option (T × Bor (List ℕ))) (right : Option (A × List ℕ))
    → found ≡ None → right ≡ None → Finds view found right
finds_none view found right e f = rw (e, f) tt

pub finds_some : {T A : Type 0} (view : T → A) (value : T) (left : Bor (List ℕ)) (right : Option (A × List ℕ)) (rest : List ℕ)
    → right ≡ Some (view value, rest) → left.now ≡ rest → Finds view (Some (value, left)) right
finds_some view value left right rest f e = rw f (refl, e)

-- the longest run of digits and points, as the code counts it
pub size_stopped : (bytes : List ℕ) (size : ℕ) → size ≤ length bytes → ((k : ℕ) → k < size → is_number_byte (get_or bytes k 0) ≡ true)
    → (size < length bytes → is_number_byte (get_or bytes size 0) ≡ false) → size ≡ prefix_len is_number_byte bytes
size_stopped bytes size inside passed stop = sym (prefix_len_is is_number_byte bytes size 0 inside passed stop)

pub number_none : (places : ℕ) (bytes text : List ℕ) (size : ℕ) → size ≡ prefix_len is_number_byte bytes → text ≡ take size bytes
    → canonical_of places text ≡ None → number_at places bytes ≡ None
unfolding number_at
number_none places bytes text size size_is text_is none =
    let e : canonical_of places (take (prefix_len is_number_byte bytes) bytes) ≡ None =
    ap (λ n. canonical_of places (take n bytes)) (sym size_is) ∙ ap (canonical_of places) (sym text_is) ∙ none in
    ap (λ (o : Option ℕ). o >>= λ n. Some (n, drop (prefix_len is_number_byte bytes) bytes)) e

pub number_some : (places : ℕ) (bytes text : List ℕ) (size number : ℕ) → size ≡ prefix_len is_number_byte bytes → text ≡ take size bytes
    → canonical_of places text ≡ Some number → number_at places bytes ≡ Some (number, drop size bytes)
unfolding number_at
number_some places bytes text size number size_is text_is some =
    let e : canonical_of places (take (prefix_len is_number_byte bytes) bytes) ≡ Some number =
    ap (λ n. canonical_of places (take n bytes)) (sym size_is) ∙ ap (canonical_of places) (sym text_is) ∙ some in
    ap (λ (o : Option ℕ). o >>= λ n. Some (n, drop (prefix_len is_number_byte bytes) bytes)) e
    ∙ ap (λ n. Some (number, drop n bytes)) (sym size_is)

pub number_small : (places : ℕ) (text : List ℕ) (number : ℕ) → canonical_of places text ≡ Some number → number < 10 ^ 38
number_small places text number e = ((canonical_is_written places number text).0 e).1

-- a number begins with no letter

other_first : (letter : ℕ) (word text rest : List ℕ) → is_number_byte letter ≡ false → 0 < length text → is_number_byte (get_or text 0 0) ≡ true
    → word_at (letter ∷ word) (text ++ rest) ≡ None
unfolding word_at
other_first letter word [] rest other some first = absurd (omega (arith, some))
other_first letter word (byte ∷ text) rest other some first =
    elim (eqb_tells letter byte) [
      | inl p ↦ absurd (true_false (sym first ∙ ap is_number_byte (sym p.1) ∙ other))
      | inr p ↦ rw p.0 refl
    ]

pub some_byte : (places number : ℕ) → 0 < length (decimal_text places number)
some_byte places number = let w = (decimal_is_read_back places number).some_digit in omega (arith, w.1)

pub not_letter : (places number letter : ℕ) (word rest : List ℕ) → is_number_byte letter ≡ false
    → word_at (letter ∷ word) (decimal_text places number ++ rest) ≡ None
not_letter places number letter word rest other =
    let some = some_byte places number in
    other_first letter word (decimal_text places number) rest other some (number_byte places number 0 some)
