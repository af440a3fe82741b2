-- What a loop that reads a list from a place on keeps.
use Rattle.std.proofs.Common.{◌≡◌, ℕ, suc, ◌+◌, ◌<◌, ◌≤◌, List, [], ◌∷◌, ◌++◌, length, take, drop, get_or, slice_get, Some, sym, ap, ◌∙◌, arith}
use Rattle.std.proofs.Math.Seq.{take-suc}
use Rattle.std.proofs.lemmas.List.{drop-append-le, drop-take, length-take-le}
use Rattle.std.proofs.lemmas.Option.{slice_get_within, get_or_from_slice_get}

module _ {A : Type 0} (first : ℕ) (all : List A) where
  -- the element at the place goes behind those before it
  pub one_more_read : (place : ℕ) (e : A) → first ≤ place → slice_get all place ≡ Some e
      → drop first (take place all) ++ e ∷ [] ≡ drop first (take (place + 1) all)
  one_more_read place e behind at =
      let within : place < length all = slice_get_within all place e at in
      let here : get_or all place e ≡ e = get_or_from_slice_get all place e e at in
      let longer : suc place ≡ place + 1 = omega arith in
      let long : first ≤ length (take place all) = omega (arith, length-take-le place all (omega arith)) in
      sym (
      ap (λ n. drop first (take n all)) (sym longer) ∙ ap (drop first) (take-suc all place e within)
      ∙ ap (λ x. drop first (take place all ++ x ∷ [])) here ∙ drop-append-le first (take place all) (e ∷ []) long
      )

  -- at the end there are so many from the first on
  pub all_read : (most place : ℕ) → place ≡ first + most → drop first (take place all) ≡ take most (drop first all)
  all_read most place end = ap (λ n. drop first (take n all)) end ∙ drop-take first most all
