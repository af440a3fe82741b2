-- Of two beginnings of a list the longer one, as a join takes it.
use Rattle.std.proofs.Common.{◌≡◌, ◌≤◌, ◌⊎◌, ⊎_elim, Bool, true, false, cond, ltb, List, length, refl, ap, arith}
use Rattle.std.proofs.lemmas.Bool.{ltb-true, ltb-false}
use mathlib.Core.List.{IsPrefix}
use Rattle.cts_list.proofs.Prefixes.{prefix_shorter, prefix_whole}
use Rattle.cts_turn.specs.Views.{longer, shorter}

module _ {A : Type 0} where
  by_length : (xs ys zs : List A) → IsPrefix xs zs → IsPrefix ys zs → (b : Bool) → ltb (length xs) (length ys) ≡ b
      → IsPrefix (cond b xs ys) (cond b ys xs)
  by_length xs ys zs p q true e = prefix_shorter xs ys zs p q (omega (arith, ltb-true (length xs) (length ys) e))
  by_length xs ys zs p q false e = prefix_shorter ys xs zs q p (ltb-false (length xs) (length ys) e)

  -- the shorter begins the longer
  pub shorter_begins : (xs ys zs : List A) → IsPrefix xs zs → IsPrefix ys zs → IsPrefix (shorter xs ys) (longer xs ys)
  shorter_begins xs ys zs p q = by_length xs ys zs p q (ltb (length xs) (length ys)) refl

  pub longer_begins : (xs ys zs : List A) → IsPrefix xs zs → IsPrefix ys zs → IsPrefix (longer xs ys) zs
  longer_begins xs ys zs p q = elim (ltb (length xs) (length ys)) as (λ b. IsPrefix (cond b ys xs) zs) [ true ↦ q | false ↦ p ]

  longest : (xs ys : List A) (b : Bool) → ltb (length xs) (length ys) ≡ b → (length xs ≤ length (cond b ys xs)) × (length ys ≤ length (cond b ys xs))
  longest xs ys true e = (omega (arith, ltb-true (length xs) (length ys) e), omega arith)
  longest xs ys false e = (omega arith, ltb-false (length xs) (length ys) e)

  -- where one of two beginnings is the whole, the longer one is
  pub longer_whole : (xs ys zs : List A) → IsPrefix xs zs → IsPrefix ys zs → (xs ≡ zs) ⊎ (ys ≡ zs) → longer xs ys ≡ zs
  longer_whole xs ys zs p q e =
      let l = longest xs ys (ltb (length xs) (length ys)) refl in
      prefix_whole (longer xs ys) zs (longer_begins xs ys zs p q)
      (⊎_elim (λ (t : xs ≡ zs). omega (arith, ap length t)) (λ (t : ys ≡ zs). omega (arith, ap length t)) e)
