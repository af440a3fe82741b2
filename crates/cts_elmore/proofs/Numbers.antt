-- Greatest and least of numbers, and maps that agree on the items of a list.
use Rattle.std.proofs.Common.{◌≡◌, ℕ, ◌+◌, ◌<◌, min, max, List, [], ◌∷◌, ◌++◌, map, length, refl, ap₂, arith}
use Rattle.std.specs.List.{All}
use Rattle.std.proofs.lemmas.List.Elements.{All-head, All-tail}
use Rattle.cts_elmore.specs.Skew.{greatest_of, least_of}

pub map_same : {A B : Type 0} (f g : A → B) (xs : List A) → All (λ x. f x ≡ g x) xs → map f xs ≡ map g xs
map_same f g [] same = refl
map_same f g (x ∷ xs) same =
    ap₂ (λ y ys. y ∷ ys) (All-head (λ x. f x ≡ g x) x xs same) (map_same f g xs (All-tail (λ x. f x ≡ g x) x xs same))

pub greatest_of-append : (xs ys : List ℕ) → greatest_of (xs ++ ys) ≡ max (greatest_of xs) (greatest_of ys)
unfolding greatest_of
greatest_of-append [] ys = omega arith
greatest_of-append (x ∷ xs) ys = omega (arith, greatest_of-append xs ys)

pub least_of-append : (xs ys : List ℕ) → 0 < length xs → 0 < length ys
    → least_of (xs ++ ys) ≡ min (least_of xs) (least_of ys)
unfolding least_of
least_of-append [] ys some others = absurd (omega arith)
least_of-append (x ∷ []) [] some others = absurd (omega arith)
least_of-append (x ∷ []) (y ∷ ys) some others = refl
least_of-append (x ∷ z ∷ xs) ys some others =
    let rest : least_of (z ∷ xs ++ ys) ≡ min (least_of (z ∷ xs)) (least_of ys) =
    least_of-append (z ∷ xs) ys (omega arith) others in
    omega (arith, rest)

-- the same number added to each
pub greatest_of-shift : {A : Type 0} (f : A → ℕ) (s : ℕ) (xs : List A) → 0 < length xs
    → greatest_of (map (λ x. f x + s) xs) ≡ greatest_of (map f xs) + s
unfolding greatest_of
greatest_of-shift f s [] some = absurd (omega arith)
greatest_of-shift f s (x ∷ []) some = omega arith
greatest_of-shift f s (x ∷ y ∷ xs) some = omega (arith, greatest_of-shift f s (y ∷ xs) (omega arith))

pub least_of-shift : {A : Type 0} (f : A → ℕ) (s : ℕ) (xs : List A) → 0 < length xs
    → least_of (map (λ x. f x + s) xs) ≡ least_of (map f xs) + s
unfolding least_of
least_of-shift f s [] some = absurd (omega arith)
least_of-shift f s (x ∷ []) some = refl
least_of-shift f s (x ∷ y ∷ xs) some = omega (arith, least_of-shift f s (y ∷ xs) (omega arith))
