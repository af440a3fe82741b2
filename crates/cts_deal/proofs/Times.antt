-- How often a number stands in a list.
use Rattle.std.proofs.Common.{◌≡◌, ◌≢◌, ℕ, zero, suc, ◌+◌, ◌<◌, ◌≤◌, Bool, true, false, cond, eqb, List, [], ◌∷◌, ◌++◌, length, get_or, sym, refl, ap, subst, arith, All, AllPairs, Contains}
use mathlib.Core.Logic.{dite}
use native.Mathlib.Decide.{ℕ_discrete}
use Rattle.std.proofs.lemmas.Bool.{eq-eqb, ne_eqb}
use Rattle.std.proofs.lemmas.List.Kept.{AllPairs-cons}
use Rattle.cts_deal.specs.Counts.{times}

pub times_append : (n : ℕ) (xs ys : List ℕ) → times n (xs ++ ys) ≡ times n xs + times n ys
times_append n [] ys = omega arith
times_append n (x ∷ xs) ys = omega (arith, times_append n xs ys)

-- a number at the front counts once more
pub times_more : (n : ℕ) (xs : List ℕ) → times n (n ∷ xs) ≡ 1 + times n xs
times_more n xs = ap (λ b. cond b 1 0 + times n xs) (eq-eqb n n refl)

pub times_else : (n x : ℕ) (xs : List ℕ) → n ≢ x → times n (x ∷ xs) ≡ times n xs
times_else n x xs ne = omega (arith, ap (λ (b : Bool). cond {A = ℕ} b 1 0) (ne_eqb n x ne))

pub times_le_more : (n x : ℕ) (xs : List ℕ) → times n xs ≤ times n (x ∷ xs)
times_le_more n x xs = omega arith

one : (b : Bool) → cond b 1 0 ≤ 1
one true = omega arith
one false = omega arith

pub times_le_length : (n : ℕ) (xs : List ℕ) → times n xs ≤ length xs
times_le_length n [] = omega arith
times_le_length n (x ∷ xs) = omega (arith, one (eqb n x), times_le_length n xs)

-- what stands in a list counts at least once, and what counts stands there
pub times_from_at : (xs : List ℕ) (k d : ℕ) → k < length xs → 0 < times (get_or xs k d) xs
times_from_at [] k d within = absurd (omega arith)
times_from_at (x ∷ xs) zero d within = omega (arith, times_more x xs)
times_from_at (x ∷ xs) (suc k) d within = let rest = times_from_at xs k d (omega arith) in let more = times_le_more (get_or xs k d) x xs in omega arith

pub contains_from_times : (n : ℕ) (xs : List ℕ) → 0 < times n xs → Contains xs n
contains_from_times n [] some = absurd (omega arith)
contains_from_times n (x ∷ xs) some = dite (ℕ_discrete n x)
    (λ e. (0, omega arith, sym e))
    (λ ne. let rest = contains_from_times n xs (omega (arith, times_else n x xs ne)) in (suc rest.0, omega (arith, rest.1), rest.2))

-- where each number counts at most once, no two are equal
pub distinct_from_times : (xs : List ℕ) → ((n : ℕ) → times n xs ≤ 1) → AllPairs (λ a b. a ≢ b) xs
distinct_from_times [] once = λ i j d lt within. absurd (omega arith)
distinct_from_times (x ∷ xs) once =
    AllPairs-cons (λ a b. a ≢ b) x xs
    (λ k d within e. let there = subst (λ (n : ℕ). 0 < times n xs) (sym e) (times_from_at xs k d within) in let most = once x in absurd (omega (arith, times_more x xs)))
    (distinct_from_times xs (λ n. omega (arith, once n, times_le_more n x xs)))
