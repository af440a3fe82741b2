-- Lists with the same items, each as often, in any order.
use Rattle.std.specs.Prelude.{List, ◌∷◌}

-- ys has the items of xs: the same list, one more item before both, the first two exchanged, one step after another
pub data Shuffled {X : Type 0} : List X → List X → Type 0 where
  same : {xs : List X} → Shuffled xs xs
  skip : {x : X} {xs ys : List X} → Shuffled xs ys → Shuffled (x ∷ xs) (x ∷ ys)
  turn : {x y : X} {xs : List X} → Shuffled (x ∷ y ∷ xs) (y ∷ x ∷ xs)
  chain : {xs ys zs : List X} → Shuffled xs ys → Shuffled ys zs → Shuffled xs zs
