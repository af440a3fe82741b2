-- The first of the answers that are given for the numbers of a range.
use Rattle.std.proofs.Common.{◌≡◌, ℕ, zero, suc, ◌+◌, ◌-◌, ◌^◌, ◌<◌, ◌≤◌, min, Bool, true, false, inl, inr, ◌⊎◌, List, [], ◌∷◌, length, slice_get, Option, Some, None, option_map, MatchOption, sym, subst, arith}
use Rattle.std.specs.Bool.{OnTrue, OnFalse}
use Rattle.std.specs.Prelude.{IfSome}
use Rattle.std.specs.List.{AllZip, range_with_len}
use Rattle.std.proofs.lemmas.Bool.{cases_lt}
use Rattle.std.proofs.lemmas.Option.{slice_get_past}
use Rattle.rayon.specs.Lists.{first_true}
use Rattle.cts_elmore.specs.declared.figures.NodeFigure.{NodeFigure}
use Rattle.cts_check.specs.declared.told.Claim.{Claim}
use Rattle.cts_check.specs.Claims.{IsClaimOf, IsClaimedAt}
use Rattle.cts_check.specs.Rules.{IsFirstFailing}

module _ (P : ℕ → Type 0) where
  -- an answer says whether the property fails
  abbrev pub Tells : ℕ → Bool → Type 0
  Tells k b = OnTrue b (¬ P k) × OnFalse b (P k)

  abbrev IsFirstFrom : ℕ → ℕ → Option ℕ → Type 0
  IsFirstFrom a n o =
      MatchOption o ((k : ℕ) → a ≤ k → k < a + n → P k) (λ j. (j < n) × ((¬ P (a + j)) × ((i : ℕ) → i < j → P (a + i))))

  first_from : (a n : ℕ) (bs : List Bool) → n < 2 ^ 63 → AllZip Tells (range_with_len a n) bs → IsFirstFrom a n (first_true bs)
  first_from a zero [] small all = λ k low high. absurd (omega (arith, low, high))
  first_from a zero (b ∷ bs) small all = absurd all
  first_from a (suc n) [] small all = absurd all
  first_from a (suc n) (true ∷ bs) small all =
      let here : a + 0 ≡ a = omega arith in
      (omega arith, ((λ p. all.0.0 (subst P here p)), (λ i less. absurd (omega (arith, less)))))
  first_from a (suc n) (false ∷ bs) small all = by (first_true bs) (first_from (a + 1) n bs (omega (arith, small)) (all.1))
    where
      here : P a
      here = all.0.1

      by : (o : Option ℕ) → IsFirstFrom (a + 1) n o → IsFirstFrom a (suc n) (option_map (λ k. min (k + 1) (2 ^ 64 - 1)) o)
      by None rest = λ k low high. by_place k low high (cases_lt a k)
        where
          by_place : (k : ℕ) → a ≤ k → k < a + suc n → (a < k) ⊎ (k ≤ a) → P k
          by_place k low high (inl less) = rest k (omega (arith, less)) (omega (arith, high))
          by_place k low high (inr le) = let same : a ≡ k = omega (arith, low, le) in subst P same here
      by (Some j) rest =
          let next : min (j + 1) (2 ^ 64 - 1) ≡ suc j = omega (arith, rest.0, small) in
          subst (λ m. (m < suc n) × ((¬ P (a + m)) × ((i : ℕ) → i < m → P (a + i)))) (sym next) (
            omega (arith, rest.0),
            (
              (λ p. let at : a + suc j ≡ a + 1 + j = omega arith in rest.1.0 (subst P at p)),
              (λ i less. by_step i less),
            ),
          )
        where
          by_step : (i : ℕ) → i < suc j → P (a + i)
          by_step zero less = let at : a ≡ a + 0 = omega arith in subst P at here
          by_step (suc i) less = let at : a + 1 + i ≡ a + suc i = omega arith in subst P at (rest.1.1 i (omega (arith, less)))

pub first_claim : (claims : List Claim) (figures : List NodeFigure) (bs : List Bool) → length claims ≤ 131071
    → AllZip (Tells (IsClaimedAt claims figures)) (range_with_len 0 (length claims)) bs → (o : Option ℕ) → o ≡ first_true bs
    → IsFirstFailing (IsClaimedAt claims figures) o
first_claim claims figures bs few all o is =
    subst (IsFirstFailing (IsClaimedAt claims figures)) (sym is)
    (by (first_true bs) (first_from (IsClaimedAt claims figures) 0 (length claims) bs (omega (arith, few)) all))
  where
    by : (r : Option ℕ) → IsFirstFrom (IsClaimedAt claims figures) 0 (length claims) r → IsFirstFailing (IsClaimedAt claims figures) r
    by None h = λ k. by_place k (cases_lt k (length claims))
      where
        by_place : (k : ℕ) → (k < length claims) ⊎ (length claims ≤ k) → IsClaimedAt claims figures k
        by_place k (inl less) = h k (omega arith) (omega (arith, less))
        by_place k (inr past) =
            subst (λ c. MatchOption c (Unit {0}) (λ claim. IfSome (slice_get figures k) (IsClaimOf claim))) (sym (slice_get_past claims k past)) tt
    by (Some j) h = (
      λ p. let at : j ≡ 0 + j = omega arith in h.1.0 (subst (IsClaimedAt claims figures) at p),
      λ i less. let at : 0 + i ≡ i = omega arith in subst (IsClaimedAt claims figures) at (h.1.1 i less),
    )
