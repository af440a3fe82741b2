-- The texts of some items, and what is folded over them, one more item at a time.
use Rattle.std.proofs.Common.{◌≡◌, ℕ, ◌+◌, ◌<◌, List, [], ◌∷◌, ◌++◌, length, map, take, get_or, fold, sym, ap, subst, ◌∙◌, append-nil}
use Rattle.std.specs.List.{flat_map}
use Rattle.std.proofs.lemmas.List.{take_more, map_more}
use Rattle.std.proofs.lemmas.List.Sums.{fold-append}
use Rattle.std.proofs.lemmas.Grind.{flat_map-append}

-- what holds of the texts of the items before a number, and of that item's, holds of those up to it
pub texts_step : {A : Type 0} (P : List ℕ → Type 0) (text : A → List ℕ) (xs : List A) (k : ℕ) (d : A) → k < length xs
    → P (flat_map text (take k xs) ++ text (get_or xs k d)) → P (flat_map text (take (k + 1) xs))
texts_step P text xs k d w here =
    subst P
    (sym (
    ap (flat_map text) (take_more xs k d w)
    ∙ flat_map-append text (take k xs) (get_or xs k d ∷ [])
    ∙ ap (λ t. flat_map text (take k xs) ++ t) (append-nil (text (get_or xs k d)))
    ))
    here

-- the same of what is seen of the items
pub seen_step : {A B : Type 0} (P : List ℕ → Type 0) (text : B → List ℕ) (seen : A → B) (xs : List A) (k : ℕ) (d : A) → k < length xs
    → P (flat_map text (map seen (take k xs)) ++ text (seen (get_or xs k d))) → P (flat_map text (map seen (take (k + 1) xs)))
seen_step P text seen xs k d w here =
    subst P
    (sym (
    ap (flat_map text) (map_more seen xs k d w)
    ∙ flat_map-append text (map seen (take k xs)) (seen (get_or xs k d) ∷ [])
    ∙ ap (λ t. flat_map text (map seen (take k xs)) ++ t) (append-nil (text (seen (get_or xs k d))))
    ))
    here

-- the same of an item that was lent
pub lent_step : {A B : Type 0} (P : List ℕ → Type 0) (text : B → List ℕ) (seen : A → B) (xs : List A) (k : ℕ) (x : A) → k < length xs
    → x ≡ get_or xs k x → P (flat_map text (map seen (take k xs)) ++ text (seen x)) → P (flat_map text (map seen (take (k + 1) xs)))
lent_step P text seen xs k x w is here =
    seen_step P text seen xs k x w (subst (λ y. P (flat_map text (map seen (take k xs)) ++ text (seen y))) is here)

-- what is folded over what is seen of the items
pub folded_step : {A B C : Type 0} (f : C → B → C) (from : C) (seen : A → B) (xs : List A) (k : ℕ) (x : A) → k < length xs
    → x ≡ get_or xs k x → fold f from (map seen (take (k + 1) xs)) ≡ f (fold f from (map seen (take k xs))) (seen x)
folded_step f from seen xs k x w is =
    ap (fold f from) (map_more seen xs k x w)
    ∙ fold-append f from (map seen (take k xs)) (seen (get_or xs k x) ∷ [])
    ∙ ap (λ y. f (fold f from (map seen (take k xs))) (seen y)) (sym is)
