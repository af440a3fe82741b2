-- What is asked of each element of a list, by its number.
use Rattle.std.proofs.Common.{ℕ, ◌<◌, inl, inr, List, length, get_or, Option, sym, subst}
use Rattle.std.specs.Prelude.{MatchOption}
use Rattle.std.proofs.lemmas.Bool.{cases_lt}
use Rattle.std.proofs.lemmas.Option.{slice_get-get_or, slice_get_past}
use Rattle.cts_check.specs.Rules.{HoldsIfThere}

module _ {A : Type 0} (P : A → Type 0) (items : List A) where
  If : Option A → Type 0
  If found = MatchOption found (Unit {0}) P

  pub holds_at : (k : ℕ) (d : A) → k < length items → P (get_or items k d) → HoldsIfThere P items k
  unfolding If
  holds_at k d within holds = subst If (sym (slice_get-get_or items k d within)) holds

  pub held_at : (k : ℕ) (d : A) → k < length items → HoldsIfThere P items k → P (get_or items k d)
  unfolding If
  held_at k d within holds = subst If (slice_get-get_or items k d within) holds

  -- nothing is asked of numbers past the end
  pub all_hold : ((k : ℕ) → k < length items → HoldsIfThere P items k) → (k : ℕ) → HoldsIfThere P items k
  unfolding If
  all_hold each k =
      elim (cases_lt k (length items)) [
        | inl within ↦ each k within
        | inr past ↦ subst If (sym (slice_get_past items k past)) tt
      ]
