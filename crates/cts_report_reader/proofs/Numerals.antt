-- Digits in front of a text, and the canonical text of the number that they write.
use Rattle.std.proofs.Common.{◌≡◌, ◌≢◌, ℕ, zero, suc, ◌+◌, ◌-◌, ◌*◌, ◌/◌, ◌%◌, ◌^◌, ◌<◌, ◌≤◌, List, [], ◌∷◌, ◌++◌, length, get_or, take, drop, Some, sym, ap, ap₂, ◌∙◌, arith, append_assoc, length-drop, pow-suc}
use Rattle.std.proofs.Math.Nat.{pow-zero}
use Rattle.std.proofs.lemmas.List.{take_more, take_all, take-append-drop}
use Rattle.std.proofs.lemmas.Nat.{mod-mul-add}
use Rattle.std.specs.Char.{IsAsciiDigit}
use Rattle.cts_num.specs.Decimal.{glyph, whole_text, padded_text, fraction_text, decimal_text}
use Rattle.cts_num.specs.Number.{digit_number}
use Rattle.cts_num.proofs.Fronts.{digit_number-none, digit_number_more}
use Rattle.cts_num.proofs.Texts.{whole_text_one, whole_text_step, padded_text-zero, padded_text_step, fraction_text-some, decimal_text-parts}
use Rattle.cts_report_reader.specs.Reader.{IsStop}
use Rattle.cts_report_reader.specs.Words.{number_at}
use Rattle.cts_report_reader.proofs.Labels.{number_part}

-- so many digits stand in front
abbrev pub HasDigits : List ℕ → ℕ → Type 0
HasDigits text count = (k : ℕ) → k < count → IsAsciiDigit (get_or text k 0)

-- The number of a front, by its last digit.
record IsPushed (text : List ℕ) (k : ℕ) : Type 0 where
  front : digit_number (take (k + 1) text) / 10 ≡ digit_number (take k text)
  last : glyph (digit_number (take (k + 1) text) % 10) ≡ get_or text k 0

pushed : (text : List ℕ) (k : ℕ) → k < length text → IsAsciiDigit (get_or text k 0) → IsPushed text k
pushed text k lt d =
    let more = digit_number_more text k lt d in
    record { front = omega (arith, more, d.0, d.1); last = omega (arith, more, d.0, d.1) }

pub digits_padded : (text : List ℕ) (k : ℕ) → k ≤ length text → HasDigits text k → padded_text k (digit_number (take k text)) ≡ take k text
digits_padded text zero le h = padded_text-zero (digit_number (take 0 text)) (omega (arith, digit_number-none text))
digits_padded text (suc k) le h =
    let e : suc k ≡ k + 1 = omega arith in
    let p = pushed text k (omega (arith, le)) (h k (omega arith)) in
    let front = digits_padded text k (omega (arith, le)) (λ j lt. h j (omega (arith, lt))) in
    rw e
    (padded_text_step k (digit_number (take (k + 1) text)) ∙ ap₂ (λ n b. padded_text k n ++ b ∷ []) p.front p.last
    ∙ ap (λ t. t ++ get_or text k 0 ∷ []) front ∙ sym (take_more text k 0 (omega (arith, le))))

pub digits_below : (text : List ℕ) (k : ℕ) → k ≤ length text → HasDigits text k → digit_number (take k text) < 10 ^ k
digits_below text zero le h = omega (arith, digit_number-none text, pow-zero 10)
digits_below text (suc k) le h =
    let e : suc k ≡ k + 1 = omega arith in
    let d = h k (omega arith) in
    let more = digit_number_more text k (omega (arith, le)) d in
    let front = digits_below text k (omega (arith, le)) (λ j lt. h j (omega (arith, lt))) in
    omega (arith, ap (λ n. digit_number (take n text)) e, more, front, d.1, pow-suc 10 k)

-- with another digit than 0 in front the number is not 0
digits_above : (text : List ℕ) (k : ℕ) → k < length text → HasDigits text (suc k) → get_or text 0 0 ≢ 48 → 0 < digit_number (take (k + 1) text)
digits_above text zero lt h first =
    let d = h 0 (omega arith) in
    let more = digit_number_more text 0 lt d in
    omega (arith, more, first, d.0)
digits_above text (suc k) lt h first =
    let e : suc k ≡ k + 1 = omega arith in
    let d = h (suc k) (omega arith) in
    let more = digit_number_more text (suc k) lt d in
    let front = digits_above text k (omega (arith, lt)) (λ j less. h j (omega (arith, less))) first in
    omega (arith, more, front, ap (λ n. digit_number (take n text)) e)

-- without a leading zero they are the text of their number
pub digits_whole : (text : List ℕ) (k : ℕ) → k < length text → HasDigits text (suc k) → (0 < k → get_or text 0 0 ≢ 48)
    → whole_text (digit_number (take (k + 1) text)) ≡ take (k + 1) text
digits_whole text zero lt h first =
    let d = h 0 (omega arith) in
    let more = digit_number_more text 0 lt d in
    let none = digit_number-none text in
    let n = digit_number (take (0 + 1) text) in
    let byte : glyph n ≡ get_or text 0 0 = omega (arith, more, none, d.0) in
    whole_text_one n (omega (arith, more, none, d.1)) ∙ ap (λ b. b ∷ []) byte ∙ sym (take_more text 0 0 lt)
digits_whole text (suc k) lt h first =
    let e : suc k ≡ k + 1 = omega arith in
    let p = pushed text (suc k) lt (h (suc k) (omega arith)) in
    let some = digits_above text k (omega (arith, lt)) (λ j less. h j (omega (arith, less))) (first (omega arith)) in
    let front : whole_text (digit_number (take (suc k) text)) ≡ take (suc k) text =
    rw e (digits_whole text k (omega (arith, lt)) (λ j less. h j (omega (arith, less))) (λ more. first (omega arith))) in
    let large : 10 ≤ digit_number (take (suc k + 1) text) = omega (arith, p.front, some, ap (λ n. digit_number (take n text)) e) in
    whole_text_step (digit_number (take (suc k + 1) text)) large ∙ ap₂ (λ n b. whole_text n ++ b ∷ []) p.front p.last
    ∙ ap (λ t. t ++ get_or text (suc k) 0 ∷ []) front ∙ sym (take_more text (suc k) 0 lt)

-- a value by its whole part and its fraction

pub fraction_is : (places whole fraction : ℕ) → 0 < places → fraction < 10 ^ places
    → fraction_text places (whole * 10 ^ places + fraction) ≡ 46 ∷ padded_text places fraction
fraction_is places whole fraction some less =
    fraction_text-some places (whole * 10 ^ places + fraction) some ∙ ap (λ n. 46 ∷ padded_text places n) (mod-mul-add whole (10 ^ places) fraction less)

-- what a range of a slice leaves
pub left_behind : (text : List ℕ) (size : ℕ) → take (length text - size) (drop size text) ≡ drop size text
left_behind text size = take_all (length text - size) (drop size text) (omega (arith, length-drop size text))

pub front_is_whole : (text : List ℕ) (size number : ℕ) → 0 < size → size ≤ length text → HasDigits text size → (1 < size → get_or text 0 0 ≢ 48)
    → number ≡ digit_number (take size text) → text ≡ whole_text number ++ take (length text - size) (drop size text)
front_is_whole text size number some inside digits first number_is =
    let k = size - 1 in
    let e : k + 1 ≡ size = omega (arith, some) in
    let whole = digits_whole text k (omega (arith, some, inside)) (λ j lt. digits j (omega (arith, lt, some))) (λ more. first (omega (arith, more))) in
    let front : whole_text number ≡ take size text =
    ap whole_text number_is ∙ ap (λ n. whole_text (digit_number (take n text))) (sym e) ∙ whole ∙ ap (λ n. take n text) e in
    sym (ap₂ (λ a b. a ++ b) front (left_behind text size) ∙ take-append-drop size text)

-- a point and so many digits
pub point_and_digits : (places whole fraction unit : ℕ) (text front back : List ℕ) → 0 < places → length front ≡ places → HasDigits front (length front)
    → unit ≡ 10 ^ places → fraction ≡ digit_number front → text ≡ 46 ∷ (front ++ back)
    → text ≡ fraction_text places (whole * unit + fraction) ++ back
point_and_digits places whole fraction unit text front back some long digits unit_is number_is text_is =
    let each : HasDigits front places = λ k lt. digits k (omega (arith, lt, long)) in
    let all = take_all places front (omega (arith, long)) in
    let less = digits_below front places (omega (arith, long)) each in
    let value : whole * unit + fraction ≡ whole * 10 ^ places + digit_number (take places front) =
    ap₂ (λ u f. whole * u + f) unit_is (number_is ∙ ap digit_number (sym all)) in
    let fraction_text_is : fraction_text places (whole * unit + fraction) ≡ 46 ∷ front =
    ap (fraction_text places) value ∙ fraction_is places whole (digit_number (take places front)) some less
    ∙ ap (λ t. 46 ∷ t) (digits_padded front places (omega (arith, long)) each ∙ all) in
    text_is ∙ sym (ap (λ t. t ++ back) fraction_text_is)

-- both parts are a number, where none goes on
pub parts_are_number : (places value : ℕ) (bytes middle rest : List ℕ) → bytes ≡ whole_text (value / 10 ^ places) ++ middle
    → middle ≡ fraction_text places value ++ rest → value < 10 ^ 38 → IsStop rest → number_at places bytes ≡ Some (value, rest)
parts_are_number places value bytes middle rest whole fraction small stop =
    let text : bytes ≡ decimal_text places value ++ rest =
    whole ∙ ap (λ t. whole_text (value / 10 ^ places) ++ t) fraction
    ∙ sym (ap (λ t. t ++ rest) (decimal_text-parts places value) ∙ append_assoc (whole_text (value / 10 ^ places)) (fraction_text places value) rest) in
    ap (number_at places) text ∙ (number_part places).again value rest small stop
