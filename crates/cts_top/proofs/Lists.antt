-- Lists of known length, by their items.
use Rattle.std.proofs.Common.{◌≡◌, List, [], ◌∷◌, length, get_or, arith}

-- a list of one item
pub one_item : {A : Type 0} (xs : List A) (a : A) → length xs ≡ 1 → a ≡ get_or xs 0 a → xs ≡ a ∷ []
one_item [] a n p = absurd (omega (arith, n))
one_item (x ∷ []) a n p = cc
one_item (x ∷ y ∷ xs) a n p = absurd (omega (arith, n))

-- a list of two items
pub two_items : {A : Type 0} (xs : List A) (a b : A) → length xs ≡ 2 → a ≡ get_or xs 0 a → b ≡ get_or xs 1 b → xs ≡ a ∷ b ∷ []
two_items [] a b n p q = absurd (omega (arith, n))
two_items (x ∷ []) a b n p q = absurd (omega (arith, n))
two_items (x ∷ y ∷ []) a b n p q = cc
two_items (x ∷ y ∷ z ∷ zs) a b n p q = absurd (omega (arith, n))

pub three_items : {A : Type 0} (xs : List A) (a b c : A) → length xs ≡ 3 → a ≡ get_or xs 0 a → b ≡ get_or xs 1 b → c ≡ get_or xs 2 c
    → xs ≡ a ∷ b ∷ c ∷ []
three_items [] a b c n p q r = absurd (omega (arith, n))
three_items (x ∷ []) a b c n p q r = absurd (omega (arith, n))
three_items (x ∷ y ∷ []) a b c n p q r = absurd (omega (arith, n))
three_items (x ∷ y ∷ z ∷ []) a b c n p q r = cc
three_items (x ∷ y ∷ z ∷ w ∷ ws) a b c n p q r = absurd (omega (arith, n))

pub four_items : {A : Type 0} (xs : List A) (a b c d : A) → length xs ≡ 4 → a ≡ get_or xs 0 a → b ≡ get_or xs 1 b → c ≡ get_or xs 2 c
    → d ≡ get_or xs 3 d → xs ≡ a ∷ b ∷ c ∷ d ∷ []
four_items [] a b c d n p q r s = absurd (omega (arith, n))
four_items (x ∷ []) a b c d n p q r s = absurd (omega (arith, n))
four_items (x ∷ y ∷ []) a b c d n p q r s = absurd (omega (arith, n))
four_items (x ∷ y ∷ z ∷ []) a b c d n p q r s = absurd (omega (arith, n))
four_items (x ∷ y ∷ z ∷ w ∷ []) a b c d n p q r s = cc
four_items (x ∷ y ∷ z ∷ w ∷ v ∷ vs) a b c d n p q r s = absurd (omega (arith, n))
