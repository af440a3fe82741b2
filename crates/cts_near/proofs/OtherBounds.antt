-- Bounds after a pair took the place of one subtree and another was taken out.
use Rattle.std.proofs.Common.{◌≡◌, ◌≢◌, ℕ, ◌+◌, ◌<◌, ◌≤◌, inl, inr, List, take, drop, suc, length, get_or, set, sym, subst, ◌∙◌, arith}
use Rattle.std.specs.List.{All, remove}
use Rattle.std.proofs.lemmas.List.Elements.{All-set, All-append, All-take, All-drop}
use Rattle.std.proofs.lemmas.Bool.{cases_lt}
use Rattle.std.proofs.lemmas.List.{length-set, get_or-set_other}
use Rattle.std.proofs.lemmas.List.Edits.{length-remove, get_or-remove_below, get_or-remove_above}
use Rattle.cts_near.specs.declared.subtree.Subtree.{Subtree}
use Rattle.cts_near.specs.Search.{gap_from, AreBounds, AreOtherBounds}

module _ (xs : List Subtree) (bounds : List ℕ) (i j : ℕ) (x : Subtree) (in_order : i < j) (within : j < length xs)
    (are : AreBounds xs bounds) where
  abbrev ys : List Subtree
  ys = remove (set xs i x) j

  long : length ys + 1 ≡ length xs
  long = omega (arith, length-remove (set xs i x) j (omega (arith, length-set xs i x)), length-set xs i x)

  bounds_long : length (remove bounds j) + 1 ≡ length bounds
  bounds_long = length-remove bounds j (omega (arith, are.count))

  -- an item other than the pair
  item_below : (k : ℕ) (d : Subtree) → k ≢ i → k < j → get_or ys k d ≡ get_or xs k d
  item_below k d other h =
      get_or-remove_below (set xs i x) j d k h (omega (arith, length-set xs i x)) ∙ get_or-set_other xs i k x d other

  item_above : (k : ℕ) (d : Subtree) → j ≤ k → get_or ys k d ≡ get_or xs (k + 1) d
  item_above k d h =
      get_or-remove_above (set xs i x) j d k h (omega (arith, length-set xs i x))
      ∙ get_or-set_other xs i (k + 1) x d (λ e. omega arith)

  bound_below : (k : ℕ) → k < j → get_or (remove bounds j) k 0 ≡ get_or bounds k 0
  bound_below k h = get_or-remove_below bounds j 0 k h (omega (arith, are.count))

  bound_above : (k : ℕ) → j ≤ k → get_or (remove bounds j) k 0 ≡ get_or bounds (k + 1) 0
  bound_above k h = get_or-remove_above bounds j 0 k h (omega (arith, are.count))

  -- two such items, where they stood
  kept : (k l k' l' : ℕ) (d e : Subtree) → k' < l' → l' < length xs → get_or ys k d ≡ get_or xs k' d
      → get_or ys l e ≡ get_or xs l' e → get_or (remove bounds j) k 0 ≡ get_or bounds k' 0
      → get_or (remove bounds j) k 0 ≤ gap_from (get_or ys k d) (get_or ys l e)
  kept k l k' l' d e less inside first second bound =
      subst (λ (s : Subtree). get_or (remove bounds j) k 0 ≤ gap_from s (get_or ys l e)) (sym first)
      (subst (λ (t : Subtree). get_or (remove bounds j) k 0 ≤ gap_from (get_or xs k' d) t) (sym second)
      (subst (λ b. b ≤ gap_from (get_or xs k' d) (get_or xs l' e)) (sym bound) (are.below k' l' d e less inside)))

  pub others_kept : AreOtherBounds i ys (remove bounds j)
  others_kept = record {
    count = omega (arith, long, bounds_long, are.count);
    below = λ k l d e less inside first second. elim (cases_lt k j) [
      | inl k_below ↦ elim (cases_lt l j) [
        | inl l_below ↦
            kept k l k l d e less (omega (arith, long)) (item_below k d first k_below) (item_below l e second l_below)
            (bound_below k k_below)
        | inr l_above ↦
            kept k l k (l + 1) d e (omega arith) (omega (arith, long)) (item_below k d first k_below) (item_above l e l_above)
            (bound_below k k_below)
      ]
      | inr k_above ↦
          kept k l (k + 1) (l + 1) d e (omega arith) (omega (arith, long)) (item_above k d k_above)
          (item_above l e (omega arith)) (bound_above k k_above)
    ];
  }

-- what all items have, and the pair too, is still had by all
pub all_replaced : {X : Type 0} (P : X → Type 0) (xs : List X) (i j : ℕ) (x : X) → All P xs → P x → All P (remove (set xs i x) j)
all_replaced P xs i j x all here =
    let written : All P (set xs i x) = All-set P xs i x here all in
    All-append P (take j (set xs i x)) (drop (suc j) (set xs i x)) (All-take P j (set xs i x) written)
    (All-drop P (suc j) (set xs i x) written)
