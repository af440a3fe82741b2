-- Subtrees that are closest by their places are closest as parts.
use Rattle.std.proofs.Common.{◌≡◌, ◌≢◌, ℕ, suc, ◌<◌, ◌≤◌, inl, inr, List, [], ◌∷◌, length, get_or, sym, ap, subst, ◌∙◌, arith}
use Rattle.std.specs.List.{AllByRecursion, AllPairs, Contains}
use Rattle.std.proofs.lemmas.Bool.{cases_lt}
use Rattle.std.proofs.lemmas.List.{get_or-map, get_or_default, length-map}
use Rattle.cts_topo.specs.declared.shape.ShapeNode.{ShapeNode}
use Rattle.cts_near.specs.declared.subtree.Subtree.{Subtree}
use Rattle.cts_near.specs.Parts.{Part}
use Rattle.cts_near.specs.Closest.{IsNoLater, AreClosest, gap_between}
use Rattle.cts_near.specs.Search.{gap_from, AreClosestPlaces}
use Rattle.cts_near.specs.Forest.{part_of, parts_of}
use Rattle.cts_near.proofs.Names.{AreNamed}

abbrev pub AreRising : List Subtree → Type 0
AreRising subtrees = AllPairs (λ (s t : Subtree). s.name < t.name) subtrees

module _ (xs : List Subtree) (rising : AreRising xs) where
  -- a lesser name stands before
  place_order : (i j : ℕ) (d : Subtree) → i < length xs → j < length xs → (get_or xs i d).name < (get_or xs j d).name → i < j
  place_order i j d hi hj less =
      elim (cases_lt i j) [
        | inl before ↦ before
        | inr after ↦ elim (cases_lt j i) [
          | inl strictly ↦ absurd (omega (arith, rising j i d strictly hi))
          | inr not_after ↦
              let here : i ≡ j = omega arith in
              absurd (omega (arith, ap (λ k. (get_or xs k d).name) here))
        ]
      ]

  name_order : (i j : ℕ) (d : Subtree) → i ≤ j → j < length xs → (get_or xs i d).name ≤ (get_or xs j d).name
  name_order i j d le h =
      elim (cases_lt i j) [
        | inl before ↦ omega (arith, rising i j d before h)
        | inr after ↦
            let here : i ≡ j = omega arith in
            omega (arith, ap (λ k. (get_or xs k d).name) here)
      ]

  name_once : (i j : ℕ) (d : Subtree) → i < length xs → j < length xs → (get_or xs i d).name ≡ (get_or xs j d).name → i ≡ j
  name_once i j d hi hj same =
      elim (cases_lt i j) [
        | inl before ↦ absurd (omega (arith, rising i j d before hj))
        | inr after ↦ elim (cases_lt j i) [
          | inl strictly ↦ absurd (omega (arith, rising j i d strictly hi))
          | inr not_after ↦ omega arith
        ]
      ]

  -- the order by places as the order by names
  by_names : (g i j g' k l : ℕ) (d : Subtree) → i < length xs → j < length xs → k < length xs → l < length xs
      → IsNoLater g i j g' k l
      → IsNoLater g (get_or xs i d).name (get_or xs j d).name g' (get_or xs k d).name (get_or xs l d).name
  by_names g i j g' k l d hi hj hk hl n = record {
    by_gap = n.by_gap;
    by_first = λ e. name_order i k d (n.by_first e) hk;
    by_second = λ e same. name_order j l d (n.by_second e (name_once k i d hk hi same)) hl;
  }

  module _ (joins : List ShapeNode) where
    pub part_at : (k : ℕ) (d : Subtree) (e : Part) → k < length xs
        → get_or (parts_of joins xs) k e ≡ part_of joins (get_or xs k d)
    part_at k d e h = get_or-map (part_of joins) xs k d e h

    pub part_contained : (k : ℕ) (d : Subtree) → k < length xs → Contains (parts_of joins xs) (part_of joins (get_or xs k d))
    part_contained k d h =
        (k, omega (arith, length-map xs (part_of joins)), part_at k d (part_of joins (get_or xs k d)) h)

    closest_at : (i j : ℕ) (d : Subtree) → AreClosestPlaces xs i j
        → AreClosest (parts_of joins xs) (part_of joins (get_or xs i d)) (part_of joins (get_or xs j d))
    closest_at i j d c = record {
      first = part_contained i d (omega (arith, c.in_order, c.within));
      second = part_contained j d c.within;
      in_order = rising i j d c.in_order c.within;
      no_later = λ p q cp cq less.
          let hk : cp.0 < length xs = omega (arith, cp.1, length-map xs (part_of joins)) in
          let hl : cq.0 < length xs = omega (arith, cq.1, length-map xs (part_of joins)) in
          let p_is : part_of joins (get_or xs (cp.0) d) ≡ p = sym (part_at (cp.0) d p hk) ∙ cp.2 in
          let q_is : part_of joins (get_or xs (cq.0) d) ≡ q = sym (part_at (cq.0) d q hl) ∙ cq.2 in
          let names : (get_or xs (cp.0) d).name < (get_or xs (cq.0) d).name =
          omega (arith, less, ap (λ (x : Part). x.name) p_is, ap (λ (x : Part). x.name) q_is) in
          let places : cp.0 < cq.0 = place_order (cp.0) (cq.0) d hk hl names in
          let there : IsNoLater (gap_from (get_or xs i d) (get_or xs j d)) i j
          (gap_from (get_or xs (cp.0) d) (get_or xs (cq.0) d)) (cp.0) (cq.0) =
          c.no_later (cp.0) (cq.0) d d d d places hl in
          let a : Part = part_of joins (get_or xs i d) in
          let b : Part = part_of joins (get_or xs j d) in
          subst (λ (x : Part). IsNoLater (gap_between a b) a.name b.name (gap_between x q) x.name q.name) p_is
          (subst (λ (y : Part). IsNoLater (gap_between a b) a.name b.name
          (gap_between (part_of joins (get_or xs (cp.0) d)) y) (part_of joins (get_or xs (cp.0) d)).name y.name) q_is
          (by_names _ i j _ (cp.0) (cq.0) d (omega (arith, c.in_order, c.within)) c.within hk hl there));
    }

    -- the same of the two that are read
    pub closest_parts : (i j : ℕ) (a b : Subtree) → AreClosestPlaces xs i j → a ≡ get_or xs i a → b ≡ get_or xs j b
        → AreClosest (parts_of joins xs) (part_of joins a) (part_of joins b)
    closest_parts i j a b c a_is b_is =
        let second : get_or xs j a ≡ b = get_or_default xs j a b c.within ∙ sym b_is in
        subst (λ (s : Subtree). AreClosest (parts_of joins xs) (part_of joins s) (part_of joins b)) (sym a_is)
        (subst (λ (t : Subtree). AreClosest (parts_of joins xs) (part_of joins (get_or xs i a)) (part_of joins t)) second
        (closest_at i j a c))

-- rising names are distinct
pub rising_named : (joins : List ShapeNode) (xs : List Subtree) → AreRising xs → AreNamed (parts_of joins xs)
rising_named joins [] rising = tt
rising_named joins (x ∷ xs) rising = (
  others xs (λ k d h. rising 0 (suc k) d (omega arith) (omega arith)),
  rising_named joins xs (λ i j d less h. rising (suc i) (suc j) d (omega arith) (omega arith)),
)
  where
    others : (ys : List Subtree) → ((k : ℕ) (d : Subtree) → k < length ys → x.name < (get_or ys k d).name)
        → AllByRecursion (λ (q : Part). x.name ≢ q.name) (parts_of joins ys)
    others [] above = tt
    others (y ∷ ys) above =
        (λ e. omega (arith, above 0 y (omega arith)), others ys (λ k d h. above (suc k) d (omega arith)))
