-- What a call has done once the turn is passed on.
use Rattle.std.proofs.Common.{◌≡◌, ℕ, ◌+◌, ◌-◌, ◌⊎◌, ⊎_elim, inl, inr, List, [], ◌∷◌, ◌++◌, length, sym, ap, ◌∙◌, subst, arith, length-append, Option, Some, None}
use mathlib.Core.List.{IsPrefix}
use Rattle.cts_turn.specs.declared.view.View.{View}
use Rattle.cts_turn.specs.Views.{with_ticket, at_turn, after_call, after_turn}
use Rattle.cts_turn.specs.Steps.{Held, TakesTurn}
use Rattle.cts_list.proofs.Prefixes.{prefix_same}

module _ {O E : Type 0} where
  -- what the object tells that a seat holds
  pub told_in : (O → List E) → List (ℕ × Option O) → List E
  told_in told [] = []
  told_in told ((slot, None) ∷ xs) = []
  told_in told ((slot, Some object) ∷ xs) = told object

  pub told_by_held : (told : O → List E) (l : List (ℕ × Option O)) (object : O) → l ≡ (0, Some object) ∷ [] → told_in told l ≡ told object
  unfolding told_in
  told_by_held told l object held = ap (told_in told) held

module _ {O : Type 0} where
  taken : List (ℕ × Option O) → Option O
  taken [] = None
  taken (x ∷ xs) = x.1

  -- what a seat holds is one object
  pub same_object : (l : List (ℕ × Option O)) (x y : O) → l ≡ (0, Some x) ∷ [] → l ≡ (0, Some y) ∷ [] → x ≡ y
  unfolding taken
  same_object l x y p q = let e : Some x ≡ Some y = sym (ap taken p) ∙ ap taken q in cc

module _ {E O : Type 0} (told : O → List E) where
  -- the view once the length was written of what the object tells that the seat holds
  pub recorded : (m n : Held E O) (object : O) → m.1 ≡ (0, Some object) ∷ [] → n ≡ (after_call (told_in told m.1) m.0, m.1)
      → n ≡ (after_call (told object) m.0, m.1)
  recorded m n object held is = is ∙ ap (λ (l : List E). let x : Held E O = (after_call l m.0, m.1) in x) (told_by_held told m.1 object held)

module _ {E : Type 0} where
  -- a list that is as before, or has one entry more, goes on from it
  pub onward : (old new : List E) → (new ≡ old) ⊎ ((entry : E) × (new ≡ old ++ entry ∷ [])) → IsPrefix old new
  onward old new = ⊎_elim (λ (t : new ≡ old). prefix_same old new (sym t)) (λ (t : (entry : E) × (new ≡ old ++ entry ∷ [])). (t.0 ∷ [], sym t.1))

  pub appends : (old after new : List E) → new ≡ after → (after ≡ old) ⊎ ((entry : E) × (after ≡ old ++ entry ∷ []))
      → (new ≡ old) ⊎ ((entry : E) × (new ≡ old ++ entry ∷ []))
  appends old after new is = subst (λ (l : List E). (l ≡ old) ⊎ ((entry : E) × (l ≡ old ++ entry ∷ []))) (sym is)

  pub counted : (old new : List E) (made : ℕ) → (new ≡ old) ⊎ ((entry : E) × (new ≡ old ++ entry ∷ []))
      → ((new ≡ old) × (made + (length new - length old) ≡ made)) ⊎ ((entry : E) × (new ≡ old ++ entry ∷ []) × (made + (length new - length old) ≡ made + 1))
  counted old new made = ⊎_elim
      (λ (t : new ≡ old). inl (t, omega (arith, ap length t)))
      (λ (t : (entry : E) × (new ≡ old ++ entry ∷ [])). inr (t.0, t.1, omega (arith, ap length t.1, length-append old (t.0 ∷ []))))

module _ {E O : Type 0} where
  -- the view after the five steps of a call
  pub ended : (m m₁ m₂ m₃ m₄ m₅ : Held E O) (ticket : ℕ) (old new : List E) (held held' : List (ℕ × Option O))
      → m₁ ≡ (with_ticket ticket m.0, m.1) → m₂ ≡ (at_turn old m₁.0, held) → m₃ ≡ (m₂.0, held') → m₄ ≡ (after_call new m₃.0, m₃.1) → m₅ ≡ (after_turn m₄.0, [])
      → m₅ ≡ (after_turn (after_call new (at_turn old (with_ticket ticket m.0))), [])
  ended m m₁ m₂ m₃ m₄ m₅ ticket old new held held' draws takes lifts records passes =
      let v₁ = ap (λ (x : Held E O). x.0) draws in
      let v₂ = ap (λ (x : Held E O). x.0) takes ∙ ap (λ (v : View E O). at_turn old v) v₁ in
      let v₃ = ap (λ (x : Held E O). x.0) lifts ∙ v₂ in
      let v₄ = ap (λ (x : Held E O). x.0) records ∙ ap (λ (v : View E O). after_call new v) v₃ in
      passes ∙ ap (λ (v : View E O). let x : Held E O = (after_turn v, []) in x) v₄

module _ {E O B : Type 0} (told : O → List E) (base : O → B) where
  -- what a seat knows of the object that it took
  pub record HasTaken (m m₁ m₂ : Held E O) (start object : O) : Type 0 where
    pub held : List (ℕ × Option O)
    pub takes : m₂ ≡ (at_turn (told object) m₁.0, held)
    pub goes_on : IsPrefix m.0.seen (told object)
    pub same_base : base object ≡ base start

  pub has_taken : (m m₁ m₂ : Held E O) (ticket : ℕ) (start object : O) → m₁ ≡ (with_ticket ticket m.0, m.1) → TakesTurn told base m₁ m₂
      → m₂.1 ≡ (0, Some object) ∷ [] → m.0.object ≡ Some start → HasTaken m m₁ m₂ start object
  has_taken m m₁ m₂ ticket start object draws turn holds from =
      let v = ap (λ (x : Held E O). x.0) draws in
      let same : turn.0 ≡ object = same_object m₂.1 turn.0 object (ap (λ (x : Held E O). x.1) turn.1) holds in
      let is_start : turn.3.0 ≡ start = let e : Some turn.3.0 ≡ Some start = sym turn.3.1 ∙ (ap (λ (x : View E O). x.object) v ∙ from) in cc in
      record {
        held = (0, Some turn.0) ∷ [];
        takes = turn.1 ∙ ap (λ (x : O). let y : Held E O = (at_turn (told x) m₁.0, (0, Some turn.0) ∷ []) in y) same;
        goes_on = subst (λ (x : List E × List E). IsPrefix x.0 x.1) (λ k. (ap (λ (x : View E O). x.seen) v k, ap told same k)) turn.2;
        same_base = sym (ap base same) ∙ (turn.3.2 ∙ ap base is_start);
      }
