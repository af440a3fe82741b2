-- A stack whose latest tree is the last of a list.
use Rattle.std.proofs.Common.{◌≡◌, ℕ, ◌+◌, ◌-◌, ◌<◌, ◌≤◌, false, eqb, ◌&&◌, List, [], ◌∷◌, ◌++◌, take, drop, length, get_or, reverse, Some, refl, sym, ap, ◌∙◌, inl, inr, arith}
use Rattle.std.proofs.lemmas.Bool.{cases_lt}
use Rattle.std.proofs.lemmas.List.{take_more, take_all, reverse-append, length-reverse}
use Rattle.cts_report_reader.specs.NodeLine.{joins_stack}

last_one : (xs : List ℕ) (n : ℕ) → n < length xs → reverse (take (n + 1) xs) ≡ get_or xs n 0 ∷ reverse (take n xs)
last_one xs n lt = ap reverse (take_more xs n 0 lt) ∙ reverse-append (take n xs) (get_or xs n 0 ∷ [])

last_two : (xs : List ℕ) (n : ℕ) → length xs ≡ n + 2 → reverse xs ≡ get_or xs (n + 1) 0 ∷ get_or xs n 0 ∷ reverse (take n xs)
last_two xs n long =
    let e : n + 2 ≡ n + 1 + 1 = omega arith in
    ap reverse (sym (take_all (n + 2) xs (omega (arith, long)))) ∙ ap (λ k. reverse (take k xs)) e ∙ last_one xs (n + 1) (omega (arith, long))
    ∙ ap (λ r. get_or xs (n + 1) 0 ∷ r) (last_one xs n (omega (arith, long)))

pub pair_last : (xs : List ℕ) (left right todo : ℕ) → 2 ≤ length xs
    → joins_stack (reverse xs) todo (Some (left, right)) ≡ (eqb left (get_or xs (length xs - 2) 0) && eqb right (get_or xs (length xs - 1) 0))
pair_last xs left right todo le =
    let n = length xs - 2 in
    let e : n + 1 ≡ length xs - 1 = omega arith in
    ap (λ s. joins_stack s todo (Some (left, right))) (last_two xs n (omega (arith, le)))
    ∙ ap (λ k. eqb left (get_or xs n 0) && eqb right (get_or xs k 0)) e

short_joins : (ys : List ℕ) (todo : ℕ) (children : ℕ × ℕ) → length ys < 2 → joins_stack ys todo (Some children) ≡ false
short_joins [] todo children lt = refl
short_joins (a ∷ []) todo children lt = refl
short_joins (a ∷ b ∷ ys) todo children lt = absurd (omega (arith, lt))

pub pair_none : (xs : List ℕ) (left right todo : ℕ) → length xs < 2 → joins_stack (reverse xs) todo (Some (left, right)) ≡ false
pair_none xs left right todo lt = short_joins (reverse xs) todo (left, right) (omega (arith, lt, length-reverse xs))

pub leaf_after : (xs : List ℕ) (number : ℕ) → reverse (xs ++ number ∷ []) ≡ number ∷ reverse xs
leaf_after xs number = reverse-append xs (number ∷ [])

short_drop : (ys : List ℕ) → length ys < 2 → drop 2 ys ≡ []
short_drop [] lt = refl
short_drop (a ∷ []) lt = refl
short_drop (a ∷ b ∷ ys) lt = absurd (omega (arith, lt))

popped_by : (xs : List ℕ) (n : ℕ) → length xs ≡ n + 2 → reverse (take n xs) ≡ drop 2 (reverse xs)
popped_by xs n long = sym (ap (drop 2) (last_two xs n long))

popped : (xs : List ℕ) → reverse (take (length xs - 2) xs) ≡ drop 2 (reverse xs)
popped xs =
    elim (cases_lt (length xs) 2) [
      | inl lt ↦
          let none : length xs - 2 ≡ 0 = omega (arith, lt) in
          ap (λ n. reverse (take n xs)) none ∙ sym (short_drop (reverse xs) (omega (arith, lt, length-reverse xs)))
      | inr le ↦ popped_by xs (length xs - 2) (omega (arith, le))
    ]

pub pair_after : (xs : List ℕ) (number : ℕ) → reverse (take (length xs - 2) xs ++ number ∷ []) ≡ number ∷ drop 2 (reverse xs)
pair_after xs number =
    reverse-append (take (length xs - 2) xs) (number ∷ []) ∙ ap (λ r. number ∷ r) (popped xs)

-- the left child is not the one there
pub pair_other : (xs : List ℕ) (left right todo : ℕ) → 2 ≤ length xs → eqb left (get_or xs (length xs - 2) 0) ≡ false
    → joins_stack (reverse xs) todo (Some (left, right)) ≡ false
pair_other xs left right todo le other = pair_last xs left right todo le ∙ ap (λ b. b && eqb right (get_or xs (length xs - 1) 0)) other
