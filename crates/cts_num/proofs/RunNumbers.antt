-- Runs of digits in the lanes of vectors.
use Rattle.std.proofs.Common.{◌≡◌, ℕ, zero, suc, ◌+◌, ◌-◌, ◌*◌, ◌/◌, ◌%◌, ◌^◌, ◌<◌, ◌≤◌, cond, leb, List, [], ◌∷◌, ◌++◌, length, map, get_or, take, refl, sym, ap, ◌∙◌, inl, inr, ⊎_elim, arith, subst, min, mul-le-mul_right, pow-suc, replicate, append_assoc}
use Rattle.std.proofs.Math.Nat.{pow-zero, pow-le-pow_right}
use Rattle.std.proofs.lemmas.Bool.{cases_lt}
use Rattle.std.proofs.lemmas.Bool.Decides.{leb_tells}
use Rattle.std.proofs.lemmas.List.{drop_more}
use Rattle.std.proofs.lemmas.Nat.{pow-add, div-mul-add}
use Rattle.std.specs.Char.{IsAsciiDigit}
use Rattle.std.specs.Int.Digits.{AllBelowBase, number_from_digits, number_from_digits_after}
use lib.Lanes.{chunk, mask_l, top, number_l, digits_l}
use Rattle.cts_num.specs.Number.{digit_number}
use Rattle.cts_num.specs.Runs.{coupled}
use Rattle.cts_num.proofs.Fronts.{AllDigitsIn, digit_number_more, digit_number_rest}

-- ---- neighbours in one lane

pub length-coupled : (n unit : ℕ) (xs : List ℕ) → length xs ≡ 2 * n → length (coupled unit xs) ≡ n
length-coupled zero unit [] l = refl
length-coupled zero unit (x ∷ xs) l = absurd (omega arith)
length-coupled (suc n) unit [] l = absurd (omega arith)
length-coupled (suc n) unit (x ∷ []) l = absurd (omega arith)
length-coupled (suc n) unit (x ∷ y ∷ xs) l = omega (arith, length-coupled n unit xs (omega arith))

pub coupled_tens : (xs : List ℕ) → AllBelowBase 10 xs → AllBelowBase 100 (coupled 10 xs)
coupled_tens [] h = tt
coupled_tens (x ∷ []) h = tt
coupled_tens (x ∷ y ∷ xs) h = (omega (arith, h.0, h.1.0), coupled_tens xs h.1.1)

pub coupled_hundreds : (xs : List ℕ) → AllBelowBase 100 xs → AllBelowBase 10000 (coupled 100 xs)
coupled_hundreds [] h = tt
coupled_hundreds (x ∷ []) h = tt
coupled_hundreds (x ∷ y ∷ xs) h = (omega (arith, h.0, h.1.0), coupled_hundreds xs h.1.1)

pub pairs_are : (n : ℕ) (xs : List ℕ) → length xs ≡ 2 * n → AllBelowBase 10 xs
    → map (λ lane. lane * 2561 % 65536 / 256) (digits_l 65536 n (number_l 256 xs)) ≡ coupled 10 xs
pairs_are zero [] l h = refl
pairs_are zero (x ∷ xs) l h = absurd (omega arith)
pairs_are (suc n) [] l h = absurd (omega arith)
pairs_are (suc n) (x ∷ []) l h = absurd (omega arith)
pairs_are (suc n) (x ∷ y ∷ xs) l h =
    let rest = number_l 256 xs in
    let here : (x + 256 * (y + 256 * rest)) % 65536 * 2561 % 65536 / 256 ≡ x * 10 + y =
    let lane : (x + 256 * (y + 256 * rest)) % 65536 ≡ x + 256 * y = omega (arith, h.0, h.1.0) in
    rw lane (omega (arith, h.0, h.1.0)) in
    let on : (x + 256 * (y + 256 * rest)) / 65536 ≡ rest = omega (arith, h.0, h.1.0) in
    (λ i. here i ∷ map (λ lane. lane * 2561 % 65536 / 256) (digits_l 65536 n (on i))) ∙ ap (λ more. (x * 10 + y) ∷ more) (pairs_are n xs (omega arith) h.1.1)

pub fours_are : (n : ℕ) (xs : List ℕ) → length xs ≡ 2 * n → AllBelowBase 100 xs
    → map (λ lane. lane * 6553601 % 2 ^ 32 / 65536) (digits_l (2 ^ 32) n (number_l 65536 xs)) ≡ coupled 100 xs
fours_are zero [] l h = refl
fours_are zero (x ∷ xs) l h = absurd (omega arith)
fours_are (suc n) [] l h = absurd (omega arith)
fours_are (suc n) (x ∷ []) l h = absurd (omega arith)
fours_are (suc n) (x ∷ y ∷ xs) l h =
    let rest = number_l 65536 xs in
    let here : (x + 65536 * (y + 65536 * rest)) % 2 ^ 32 * 6553601 % 2 ^ 32 / 65536 ≡ x * 100 + y =
    let lane : (x + 65536 * (y + 65536 * rest)) % 2 ^ 32 ≡ x + 65536 * y = omega (arith, h.0, h.1.0) in
    rw lane (omega (arith, h.0, h.1.0)) in
    let on : (x + 65536 * (y + 65536 * rest)) / 2 ^ 32 ≡ rest = omega (arith, h.0, h.1.0) in
    (λ i. here i ∷ map (λ lane. lane * 6553601 % 2 ^ 32 / 65536) (digits_l (2 ^ 32) n (on i))) ∙ ap (λ more. (x * 100 + y) ∷ more) (fours_are n xs (omega arith) h.1.1)

-- ---- bytes of a text

-- the bytes from i on
abbrev pub bytes_from : List ℕ → ℕ → ℕ → List ℕ
bytes_from text i zero = []
bytes_from text i (suc n) = get_or text i 0 ∷ bytes_from text (i + 1) n

pub chunk_is : (text : List ℕ) (i n : ℕ) → i + n ≤ length text → chunk i n text ≡ bytes_from text i n
chunk_is text i zero le = refl
chunk_is text i (suc n) le = ap (take (suc n)) (drop_more text i 0 (omega arith)) ∙ ap (λ more. get_or text i 0 ∷ more) (chunk_is text (i + 1) n (omega arith))

-- what a byte is worth as a digit
abbrev pub worth : ℕ → ℕ
worth byte = (byte + 208) % 256

worth_is : (byte : ℕ) → byte < 256 → worth byte < 10 → IsAsciiDigit byte × (worth byte ≡ byte - 48)
worth_is byte b w = ((omega arith, omega arith), omega arith)

-- n bytes that are worth digits
pub record IsRun (text : List ℕ) (i n : ℕ) : Type 0 where
  pub digits : AllDigitsIn text i (i + n)
  pub number : digit_number (take (i + n) text) ≡ number_from_digits_after 10 (digit_number (take i text)) (map worth (bytes_from text i n))

pub run_of : (text : List ℕ) (i n : ℕ) → ((k : ℕ) → get_or text k 0 < 256) → i + n ≤ length text → AllBelowBase 10 (map worth (bytes_from text i n)) → IsRun text i n
run_of text i zero bytes le h =
    let e : i + 0 ≡ i = omega arith in
    record { digits = record { each = λ k lo hi. absurd (omega arith) }; number = ap (λ k. digit_number (take k text)) e }
run_of text i (suc n) bytes le h =
    let one = worth_is (get_or text i 0) (bytes i) h.0 in
    let rest = run_of text (i + 1) n bytes (omega arith) h.1 in
    let e : i + suc n ≡ i + 1 + n = omega arith in
    record {
      digits = record { each = λ k lo hi. ⊎_elim (λ lt. let same : i ≡ k = omega arith in subst (λ j. IsAsciiDigit (get_or text j 0)) same one.0) (λ ge. rest.digits.each k ge (omega arith)) (cases_lt k (i + 1)) };
      number = ap (λ k. digit_number (take k text)) e ∙ rest.number
          ∙ ap (λ front. number_from_digits_after 10 front (map worth (bytes_from text (i + 1) n))) (digit_number_more text i (omega arith) one.0 ∙ ap (λ d. digit_number (take i text) * 10 + d) (sym one.1));
    }

-- the number of eight values
abbrev pub eight_number : List ℕ → ℕ
eight_number values = number_from_digits 10 values

after_eight : (n a b c d e f g h : ℕ) → number_from_digits_after 10 n (a ∷ b ∷ c ∷ d ∷ e ∷ f ∷ g ∷ h ∷ []) ≡ n * 10 ^ 8 + number_from_digits 10 (a ∷ b ∷ c ∷ d ∷ e ∷ f ∷ g ∷ h ∷ [])
after_eight n a b c d e f g h = omega arith

after_four : (n a b c d : ℕ) → number_from_digits_after 10 n (a ∷ b ∷ c ∷ d ∷ []) ≡ n * 10 ^ 4 + ((a * 10 + b) * 100 + (c * 10 + d))
after_four n a b c d = omega arith

couples : (a b c d e f g h : ℕ) → ((a * 10 + b) * 100 + (c * 10 + d)) * 10000 + ((e * 10 + f) * 100 + (g * 10 + h)) ≡ number_from_digits 10 (a ∷ b ∷ c ∷ d ∷ e ∷ f ∷ g ∷ h ∷ [])
couples a b c d e f g h = omega arith

-- a number of w digits, which stand from i on
pub record IsPart (text : List ℕ) (i w number : ℕ) : Type 0 where
  pub digits : AllDigitsIn text i (i + w)
  pub number_is : digit_number (take (i + w) text) ≡ digit_number (take i text) * 10 ^ w + number
  pub bound : number < 10 ^ w

-- a number below a power of ten, which the digits from i to before j write
pub record IsRunNumber (text : List ℕ) (i j number : ℕ) : Type 0 where
  pub digits : AllDigitsIn text i j
  pub number_is : digit_number (take j text) ≡ digit_number (take i text) * 10 ^ (j - i) + number
  pub bound : number < 10 ^ (j - i)

all_between : (text : List ℕ) (i j w : ℕ) → i + w ≤ j → j ≤ i + 2 * w → AllDigitsIn text i (i + w) → AllDigitsIn text (j - w) (j - w + w) → AllDigitsIn text i j
all_between text i j w far near front back = record {
  each = λ k lo hi. ⊎_elim (λ lt. front.each k lo lt) (λ ge. back.each k (omega arith) (omega arith)) (cases_lt k (i + w));
}

whole_from_parts : (n p q r a b first : ℕ) → r ≡ p * q → n * r + first ≡ (n * p + a) * q + b → first ≡ a * q + b
whole_from_parts n p q r a b first powers e = omega (arith, e, ap (λ x. n * x) powers)

below_product : (a p r last : ℕ) → a < p → last < r → a * r + last < p * r
below_product a p r last h l =
    let more : (a + 1) * r ≤ p * r = mul-le-mul_right {m = a + 1} {n = p} r (omega arith) in
    omega (arith, more)

-- what of the first w digits stands before the last w, and then those
pub run_is : (w : ℕ) (text : List ℕ) (i j first last : ℕ) → i + w ≤ j → j ≤ i + 2 * w → j ≤ length text → IsPart text i w first → IsPart text (j - w) w last
    → IsRunNumber text i j (first / 10 ^ (2 * w - (j - i)) * 10 ^ w + last)
run_is w text i j first last far near le front back =
    let k = j - w - i in
    let rest = 2 * w - (j - i) in
    let n = digit_number (take i text) in
    let middle : i + k ≡ j - w = omega arith in
    let over : j - w + rest ≡ i + w = omega arith in
    let end : j - w + w ≡ j = omega arith in
    let all = all_between text i j w far near front.digits back.digits in
    let a = digit_number_rest text i k (omega arith) (record { each = λ m lo hi. all.each m lo (omega arith) }) in
    let b = digit_number_rest text (j - w) rest (omega arith) (record { each = λ m lo hi. all.each m (omega arith) (omega arith) }) in
    let powers : 10 ^ w ≡ 10 ^ k * 10 ^ rest = ap (λ m. 10 ^ m) {x = w} {y = k + rest} (omega arith) ∙ pow-add 10 k rest in
    let at_middle : digit_number (take (j - w) text) ≡ n * 10 ^ k + a.rest = ap (λ m. digit_number (take m text)) (sym middle) ∙ a.sum in
    let at_over : digit_number (take (i + w) text) ≡ (n * 10 ^ k + a.rest) * 10 ^ rest + b.rest =
    ap (λ m. digit_number (take m text)) (sym over) ∙ b.sum ∙ ap (λ m. m * 10 ^ rest + b.rest) at_middle in
    let first_is : first ≡ a.rest * 10 ^ rest + b.rest = whole_from_parts n (10 ^ k) (10 ^ rest) (10 ^ w) a.rest b.rest first powers (sym front.number_is ∙ at_over) in
    let leading : first / 10 ^ rest ≡ a.rest = ap (λ m. m / 10 ^ rest) first_is ∙ div-mul-add a.rest (10 ^ rest) b.rest b.less in
    let power : 10 ^ (j - i) ≡ 10 ^ k * 10 ^ w = ap (λ m. 10 ^ m) {x = j - i} {y = k + w} (omega arith) ∙ pow-add 10 k w in
    let at_end : digit_number (take j text) ≡ (n * 10 ^ k + a.rest) * 10 ^ w + last =
    ap (λ m. digit_number (take m text)) (sym end) ∙ back.number_is ∙ ap (λ m. m * 10 ^ w + last) at_middle in
    record {
      digits = all;
      number_is = rw (power, leading) (omega (arith, at_end));
      bound = rw (power, leading) (below_product a.rest (10 ^ k) (10 ^ w) last a.less back.bound);
    }

below_at : (p : ℕ) (xs : List ℕ) (i : ℕ) → 0 < p → AllBelowBase p xs → get_or xs i 0 < p
below_at p [] i pos h = pos
below_at p (x ∷ xs) zero pos h = h.0
below_at p (x ∷ xs) (suc i) pos h = below_at p xs i pos h.1

pub lane_below : (xs : List ℕ) (i : ℕ) → AllBelowBase 10000 xs → get_or xs i 0 < 10000
lane_below xs i h = below_at 10000 xs i (omega arith) h

pub eights_are : (xs : List ℕ) → length xs ≡ 4 → (get_or xs 0 0 * 10000 + get_or xs 1 0) ∷ (get_or xs 2 0 * 10000 + get_or xs 3 0) ∷ [] ≡ coupled 10000 xs
eights_are [] l = absurd (omega arith)
eights_are (a ∷ []) l = absurd (omega arith)
eights_are (a ∷ b ∷ []) l = absurd (omega arith)
eights_are (a ∷ b ∷ c ∷ []) l = absurd (omega arith)
eights_are (a ∷ b ∷ c ∷ d ∷ []) l = refl
eights_are (a ∷ b ∷ c ∷ d ∷ e ∷ xs) l = absurd (omega arith)

-- ---- a vector's bytes, and its lanes from them

back : (n x : ℕ) → x < 256 ^ n → number_l 256 (digits_l 256 n x) ≡ x
back zero x h = omega (arith, pow-zero 256)
back (suc n) x h = omega (arith, back n (x / 256) (omega (arith, pow-suc 256 n)))

pairs_fit : (n : ℕ) (xs : List ℕ) → length xs ≡ n → AllBelowBase 100 xs → number_l 65536 xs < 65536 ^ n
pairs_fit zero [] l h = omega (arith, pow-zero 65536)
pairs_fit zero (x ∷ xs) l h = absurd (omega arith)
pairs_fit (suc n) [] l h = absurd (omega arith)
pairs_fit (suc n) (x ∷ xs) l h = omega (arith, h.0, pairs_fit n xs (omega arith) h.1, pow-suc 65536 n)

pub pair_bytes : (xs : List ℕ) → length xs ≡ 8 → AllBelowBase 100 xs → number_l 256 (digits_l 256 16 (number_l 65536 xs)) ≡ number_l 65536 xs
pair_bytes xs l h = back 16 (number_l 65536 xs) (pairs_fit 8 xs l h)

-- ---- four bytes as a word

pub four_bytes : (text : List ℕ) (i : ℕ) → i + 4 ≤ length text → chunk i 4 text ≡ get_or text i 0 ∷ get_or text (i + 1) 0 ∷ get_or text (i + 2) 0 ∷ get_or text (i + 3) 0 ∷ []
four_bytes text i le =
    let two : i + 1 + 1 ≡ i + 2 = omega arith in
    let three : i + 1 + 1 + 1 ≡ i + 3 = omega arith in
    chunk_is text i 4 le ∙ (λ t. get_or text i 0 ∷ get_or text (i + 1) 0 ∷ get_or text (two t) 0 ∷ get_or text (three t) 0 ∷ [])

bytes_below : (text : List ℕ) (i n : ℕ) → ((k : ℕ) → get_or text k 0 < 256) → AllBelowBase 256 (bytes_from text i n)
bytes_below text i zero bytes = tt
bytes_below text i (suc n) bytes = (bytes i, bytes_below text (i + 1) n bytes)

pub chunk_below : (text : List ℕ) (i n : ℕ) → ((k : ℕ) → get_or text k 0 < 256) → i + n ≤ length text → AllBelowBase 256 (chunk i n text)
chunk_below text i n bytes le = subst (AllBelowBase 256) (sym (chunk_is text i n le)) (bytes_below text i n bytes)

pub word_bytes : (xs : List ℕ) (rest n : ℕ) → length xs ≡ 4 → AllBelowBase 256 xs → digits_l 256 (suc (suc (suc (suc n)))) (number_l 256 xs + 2 ^ 32 * rest) ≡ xs ++ digits_l 256 n rest
word_bytes [] rest n l h = absurd (omega arith)
word_bytes (a ∷ []) rest n l h = absurd (omega arith)
word_bytes (a ∷ b ∷ []) rest n l h = absurd (omega arith)
word_bytes (a ∷ b ∷ c ∷ []) rest n l h = absurd (omega arith)
word_bytes (a ∷ b ∷ c ∷ d ∷ []) rest n l h =
    let w = a + 256 * (b + 256 * (c + 256 * (d + 256 * 0))) + 2 ^ 32 * rest in
    let one : w / 256 ≡ b + 256 * (c + 256 * (d + 256 * rest)) = omega (arith, h.0) in
    let first : w % 256 ≡ a = omega (arith, h.0) in
    let two : (b + 256 * (c + 256 * (d + 256 * rest))) / 256 ≡ c + 256 * (d + 256 * rest) = omega (arith, h.1.0) in
    let second : (b + 256 * (c + 256 * (d + 256 * rest))) % 256 ≡ b = omega (arith, h.1.0) in
    let three : (c + 256 * (d + 256 * rest)) / 256 ≡ d + 256 * rest = omega (arith, h.1.1.0) in
    let third : (c + 256 * (d + 256 * rest)) % 256 ≡ c = omega (arith, h.1.1.0) in
    let four : (d + 256 * rest) / 256 ≡ rest = omega (arith, h.1.1.1.0) in
    let fourth : (d + 256 * rest) % 256 ≡ d = omega (arith, h.1.1.1.0) in
    (λ t. first t ∷ digits_l 256 (suc (suc (suc n))) (one t)) ∙ (λ t. a ∷ second t ∷ digits_l 256 (suc (suc n)) (two t))
    ∙ (λ t. a ∷ b ∷ third t ∷ digits_l 256 (suc n) (three t)) ∙ (λ t. a ∷ b ∷ c ∷ fourth t ∷ digits_l 256 n (four t))
word_bytes (a ∷ b ∷ c ∷ d ∷ e ∷ xs) rest n l h = absurd (omega arith)

pub two_words : (xs ys : List ℕ) → length xs ≡ 4 → length ys ≡ 4 → AllBelowBase 256 xs → AllBelowBase 256 ys
    → digits_l 256 16 (number_l 256 xs + 2 ^ 32 * (number_l 256 ys + 2 ^ 32 * 3472328296227680304)) ≡ (xs ++ ys) ++ replicate 8 48
two_words xs ys k l g h =
    word_bytes xs (number_l 256 ys + 2 ^ 32 * 3472328296227680304) 12 k g ∙ ap (λ more. xs ++ more) (word_bytes ys 3472328296227680304 8 l h) ∙ sym (append_assoc xs ys (replicate 8 48))

-- ---- values below ten

small_by : (x : ℕ) (rest : ℕ) → cond (top 7 (cond (leb 10 x) 255 0)) 1 0 + 2 * rest ≡ 0 → (x < 10) × (rest ≡ 0)
small_by x rest e =
    elim (leb_tells 10 x) [
      | inl p ↦ absurd (omega (arith, subst (λ b. cond (top 7 (cond b 255 0)) 1 0 + 2 * rest ≡ 0) p.0 e))
      | inr p ↦ let q : (1 * 0) + 2 * rest ≡ 0 = subst (λ b. cond (top 7 (cond b 255 0)) 1 0 + 2 * rest ≡ 0) p.0 e in (omega (arith, p.1), omega (arith, q))
    ]

pub small : (xs : List ℕ) → mask_l (map (λ x. top 7 (cond (leb 10 x) 255 0)) xs) ≡ 0 → AllBelowBase 10 xs
small [] e = tt
small (x ∷ xs) e = let one = small_by x (mask_l (map (λ y. top 7 (cond (leb 10 y) 255 0)) xs)) e in (one.0, small xs one.1)

-- ---- both ends of a run

split_below : (p : ℕ) (xs ys : List ℕ) → AllBelowBase p (xs ++ ys) → AllBelowBase p xs × AllBelowBase p ys
split_below p [] ys h = (tt, h)
split_below p (x ∷ xs) ys h = let rest = split_below p xs ys h.1 in ((h.0, rest.0), rest.1)

eight_of : (text : List ℕ) (i first a b c d e f g h : ℕ) → ((k : ℕ) → get_or text k 0 < 256) → i + 8 ≤ length text
    → map worth (bytes_from text i 8) ≡ a ∷ b ∷ c ∷ d ∷ e ∷ f ∷ g ∷ h ∷ [] → AllBelowBase 10 (map worth (bytes_from text i 8))
    → first ≡ ((a * 10 + b) * 100 + (c * 10 + d)) * 10000 + ((e * 10 + f) * 100 + (g * 10 + h)) → first < 10 ^ 8 → IsPart text i 8 first
eight_of text i first a b c d e f g h bytes le is below number small =
    let run = run_of text i 8 bytes le below in
    let n = digit_number (take i text) in
    record {
      digits = run.digits;
      number_is = run.number ∙ ap (number_from_digits_after 10 n) is ∙ after_eight n a b c d e f g h ∙ ap (λ m. n * 10 ^ 8 + m) (sym (number ∙ couples a b c d e f g h));
      bound = small;
    }

pub ends_are : (text : List ℕ) (i j first last : ℕ) (values : List ℕ) → ((k : ℕ) → get_or text k 0 < 256) → i + 8 ≤ length text → j + 8 ≤ length text
    → values ≡ map worth (chunk i 8 text ++ chunk j 8 text) → AllBelowBase 10 values
    → first ∷ last ∷ [] ≡ coupled 10000 (coupled 100 (coupled 10 values)) → first < 10 ^ 8 → last < 10 ^ 8 → IsPart text i 8 first × IsPart text j 8 last
ends_are text i j first last values bytes front back is below numbers low high =
    let e : values ≡ map worth (bytes_from text i 8 ++ bytes_from text j 8) = is ∙ (λ t. map worth (chunk_is text i 8 front t ++ chunk_is text j 8 back t)) in
    let both = split_below 10 (map worth (bytes_from text i 8)) (map worth (bytes_from text j 8)) (subst (AllBelowBase 10) e below) in
    let all = numbers ∙ ap (λ l. coupled 10000 (coupled 100 (coupled 10 l))) e in (
      eight_of text i first _ _ _ _ _ _ _ _ bytes front refl both.0 (ap (λ l. get_or l 0 0) all) low,
      eight_of text j last _ _ _ _ _ _ _ _ bytes back refl both.1 (ap (λ l. get_or l 1 0) all) high,
    )

four_of : (text : List ℕ) (i first a b c d : ℕ) → ((k : ℕ) → get_or text k 0 < 256) → i + 4 ≤ length text
    → map worth (bytes_from text i 4) ≡ a ∷ b ∷ c ∷ d ∷ [] → AllBelowBase 10 (map worth (bytes_from text i 4))
    → first ≡ (a * 10 + b) * 100 + (c * 10 + d) → first < 10 ^ 4 → IsPart text i 4 first
four_of text i first a b c d bytes le is below number small =
    let run = run_of text i 4 bytes le below in
    let n = digit_number (take i text) in
    record {
      digits = run.digits;
      number_is = run.number ∙ ap (number_from_digits_after 10 n) is ∙ after_four n a b c d ∙ ap (λ m. n * 10 ^ 4 + m) (sym number);
      bound = small;
    }

-- the same of four digits, with eight more after them
pub short_ends_are : (text : List ℕ) (i j : ℕ) (values fours : List ℕ) → ((k : ℕ) → get_or text k 0 < 256) → i + 4 ≤ length text → j + 4 ≤ length text
    → values ≡ map worth (chunk i 4 text ++ chunk j 4 text ++ replicate 8 48) → AllBelowBase 10 values
    → fours ≡ coupled 100 (coupled 10 values) → AllBelowBase 10000 fours → IsPart text i 4 (get_or fours 0 0) × IsPart text j 4 (get_or fours 1 0)
short_ends_are text i j values fours bytes front back is below numbers small =
    let e : values ≡ map worth (bytes_from text i 4 ++ bytes_from text j 4 ++ replicate 8 48) =
    is ∙ (λ t. map worth (chunk_is text i 4 front t ++ chunk_is text j 4 back t ++ replicate 8 48)) in
    let first = map worth (bytes_from text i 4) in
    let last = map worth (bytes_from text j 4) in
    let rest = map worth (replicate 8 48) in
    let both = split_below 10 first (last ++ rest) (subst (AllBelowBase 10) e below) in
    let both_last = split_below 10 last rest both.1 in
    let all = numbers ∙ ap (λ l. coupled 100 (coupled 10 l)) e in (
      four_of text i (get_or fours 0 0) _ _ _ _ bytes front refl both.0 (ap (λ l. get_or l 0 0) all) (lane_below fours 0 small),
      four_of text j (get_or fours 1 0) _ _ _ _ bytes back refl both_last.0 (ap (λ l. get_or l 1 0) all) (lane_below fours 1 small),
    )

-- ---- after a front

run_below : (front number c : ℕ) → front < 1000 → number < 10 ^ c → c ≤ 15 → front * 10 ^ c + number < 10 ^ 18
run_below front number c f n le =
    let power : 10 ^ c ≤ 10 ^ 15 = pow-le-pow_right {n = 10} (omega arith) {i = c} {j = 15} le in
    let more : (front + 1) * 10 ^ c ≤ 1000 * 10 ^ c = mul-le-mul_right {m = front + 1} {n = 1000} (10 ^ c) (omega arith) in
    omega (arith, power, more)

-- a front of few digits and a run after it stay below the limit
pub run_after : (text : List ℕ) (i j front number : ℕ) → j - i ≤ 15 → front ≡ min (digit_number (take i text)) (10 ^ 18) → front < 1000
    → digit_number (take j text) ≡ digit_number (take i text) * 10 ^ (j - i) + number → number < 10 ^ (j - i)
    → (front * 10 ^ (j - i) + number < 10 ^ 18) × (front * 10 ^ (j - i) + number ≡ min (digit_number (take j text)) (10 ^ 18))
run_after text i j front number le e few is small =
    let less = run_below front number (j - i) few small le in
    let same : front ≡ digit_number (take i text) = omega arith in
    let whole : digit_number (take j text) ≡ front * 10 ^ (j - i) + number = is ∙ ap (λ n. n * 10 ^ (j - i) + number) (sym same) in
    (less, omega (arith, less, whole))
