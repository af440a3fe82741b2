-- The texts of some items, one more item at a time.
use Rattle.std.proofs.Common.{◌≡◌, ℕ, ◌+◌, ◌<◌, List, [], ◌∷◌, ◌++◌, length, take, get_or, sym, ap, subst, ◌∙◌, append-nil}
use Rattle.std.specs.List.{flat_map}
use Rattle.std.proofs.lemmas.List.{take_more}
use Rattle.std.proofs.lemmas.Grind.{flat_map-append}

-- what holds of the texts of the items before a number, and of that item's, holds of those up to it
pub texts_step : {A : Type 0} (P : List ℕ → Type 0) (text : A → List ℕ) (xs : List A) (k : ℕ) (d : A) → k < length xs
    → P (flat_map text (take k xs) ++ text (get_or xs k d)) → P (flat_map text (take (k + 1) xs))
texts_step P text xs k d w here =
    subst P
    (sym (
    ap (flat_map text) (take_more xs k d w)
    ∙ flat_map-append text (take k xs) (get_or xs k d ∷ [])
    ∙ ap (λ t. flat_map text (take k xs) ++ t) (append-nil (text (get_or xs k d)))
    ))
    here
