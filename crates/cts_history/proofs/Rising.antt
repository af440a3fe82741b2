-- Numbers without a repetition, and lists of numbers that rise.
use Rattle.std.proofs.Common.{◌≡◌, ◌≢◌, ℕ, zero, suc, ◌+◌, ◌-◌, ◌<◌, ◌≤◌, ◌⊎◌, inl, inr, Bool, true, false, cond, List, [], ◌∷◌, map, filter, length, get_or, All, AllPairs, Contains, refl, sym, ap, ◌∙◌, subst, arith}
use mathlib.Core.Logic.{dite}
use native.Mathlib.Decide.{ℕ_discrete}
use Rattle.std.proofs.lemmas.List.{get_or-map, length-map, get_or_default}
use Rattle.std.proofs.lemmas.List.Elements.{All-cons}
use Rattle.std.proofs.lemmas.List.Kept.{AllPairs-cons}
use Rattle.cts_list.proofs.Distinct.{at_most_from_distinct_below}

-- a number stands in a list or doesn't
contains_or_not : (xs : List ℕ) (q : ℕ) → Contains xs q ⊎ All (λ x. q ≢ x) xs
contains_or_not [] q = inr (λ k d h. absurd (omega arith))
contains_or_not (x ∷ xs) q =
    dite (ℕ_discrete x q)
    (λ e. inl (0, omega arith, e))
    (λ ne. elim (contains_or_not xs q) [
      | inl there ↦ inl (suc there.0, omega (arith, there.1), there.2)
      | inr not ↦ inr (All-cons (λ y. q ≢ y) x xs (λ e. ne (sym e)) not)
    ])

-- as many numbers below n as n, none of them twice, are all numbers below n
pub all_from_count : (xs : List ℕ) (n : ℕ) → AllPairs (λ a b. a ≢ b) xs → All (λ x. x < n) xs → length xs ≡ n → (q : ℕ) → q < n → Contains xs q
all_from_count xs n distinct below count q h =
    elim (contains_or_not xs q) [
      | inl there ↦ there
      | inr not ↦
          absurd (omega (
            arith,
            at_most_from_distinct_below (q ∷ xs) n (AllPairs-cons (λ a b. a ≢ b) q xs not distinct) (All-cons (λ x. x < n) q xs h below),
            count,
          ))
    ]

-- the places of versions, which are counted from 1
abbrev pub places : List ℕ → List ℕ
places versions = map (λ v. v - 1) versions

-- Versions from 1 to n, as many as n and none of them twice, are all of them.
module _ (versions : List ℕ) (n : ℕ) (distinct : AllPairs (λ a b. a ≢ b) versions) (some : All (λ v. 0 < v) versions) (most : All (λ v. v ≤ n) versions)
    (count : length versions ≡ n) where
  long : length (places versions) ≡ n
  long = omega (arith, length-map versions (λ (v : ℕ). v - 1), count)

  place_is : (k d : ℕ) → k < length versions → get_or (places versions) k d ≡ get_or versions k d - 1
  place_is k d h = get_or-map (λ (v : ℕ). v - 1) versions k d d h

  places_distinct : AllPairs (λ a b. a ≢ b) (places versions)
  places_distinct i j d lt h e =
      let within : j < length versions = omega (arith, h, long, count) in
      let a = place_is i d (omega (arith, lt, within)) in
      let b = place_is j d within in
      distinct i j d lt within (let same : get_or versions i d ≡ get_or versions j d = omega (arith, a, b, e, some i d (omega (arith, lt, within)), some j d within) in same)

  places_below : All (λ p. p < n) (places versions)
  places_below k d h =
      let within : k < length versions = omega (arith, h, long, count) in
      omega (arith, place_is k d within, some k d within, most k d within)

  pub every_version : (p : ℕ) → p < n → Contains versions (p + 1)
  every_version p h =
      let there = all_from_count (places versions) n places_distinct places_below long p h in
      let within : there.0 < length versions = omega (arith, there.1, long, count) in
      let same = get_or_default versions there.0 p (p + 1) within in
      (there.0, within, omega (arith, place_is there.0 p within, there.2, some there.0 p within, same))

-- what holds of all holds of the rest, and of each pair
pub All-rest : {X : Type 0} (P : X → Type 0) (x : X) (xs : List X) → All P (x ∷ xs) → All P xs
All-rest P x xs all = λ k d h. all (suc k) d (omega (arith, h))

pub AllPairs-rest : {X : Type 0} (R : X → X → Type 0) (x : X) (xs : List X) → AllPairs R (x ∷ xs) → AllPairs R xs
AllPairs-rest R x xs all = λ i j d lt h. all (suc i) (suc j) d (omega (arith, lt)) (omega (arith, h))

pub AllPairs-first : {X : Type 0} (R : X → X → Type 0) (x : X) (xs : List X) → AllPairs R (x ∷ xs) → All (R x) xs
AllPairs-first R x xs all = λ k d h. all 0 (suc k) d (omega arith) (omega (arith, h))

pub map_same : {X : Type 0} (f g : ℕ → X) (vs : List ℕ) → All (λ v. f v ≡ g v) vs → map f vs ≡ map g vs
map_same f g [] all = refl
map_same f g (v ∷ vs) all = λ z. all 0 v (omega arith) z ∷ map_same f g vs (All-rest (λ v. f v ≡ g v) v vs all) z

-- Of versions that rise, one of them is the least that they can be: then it is the first.
first_is : (o v : ℕ) (vs : List ℕ) → All (λ w. v < w) vs → o < v → Contains (v ∷ vs) (o + 1) → v ≡ o + 1
first_is o v vs later above there = by (there.0) (there.1) (there.2)
  where
    by : (k : ℕ) → k < length (v ∷ vs) → get_or (v ∷ vs) k (o + 1) ≡ o + 1 → v ≡ o + 1
    by zero h is = is
    by (suc k) h is = absurd (omega (arith, later k (o + 1) (omega (arith, h)), is, above))

rest_has : (o v q : ℕ) (vs : List ℕ) → v ≢ q → Contains (v ∷ vs) q → Contains vs q
rest_has o v q vs ne there = by (there.0) (there.1) (there.2)
  where
    by : (k : ℕ) → k < length (v ∷ vs) → get_or (v ∷ vs) k q ≡ q → Contains vs q
    by zero h is = absurd (ne is)
    by (suc k) h is = (k, omega (arith, h), is)

has_rest : (v q : ℕ) (vs : List ℕ) → Contains vs q → Contains (v ∷ vs) q
has_rest v q vs there = (suc there.0, omega (arith, there.1), there.2)

module _ {A : Type 0} (p : A → Bool) (d : A) where
  -- Versions that rise, counted from the offset: exactly those of the items that pass.
  pub record Picks (items : List A) (offset : ℕ) (versions : List ℕ) : Type 0 where
    pub rise : AllPairs (λ a b. a < b) versions
    pub above : All (λ v. offset < v) versions
    pub all : (i : ℕ) → i < length items → p (get_or items i d) ≡ true → Contains versions (offset + i + 1)
    pub only : (v : ℕ) → Contains versions v → (v ≤ offset + length items) × (p (get_or items (v - 1 - offset) d) ≡ true)

  later_item : (x : A) (items : List A) (o v : ℕ) → o + 1 < v → get_or (x ∷ items) (v - 1 - o) d ≡ get_or items (v - 1 - (o + 1)) d
  later_item x items o v h =
      let step : v - 1 - o ≡ suc (v - 1 - (o + 1)) = omega (arith, h) in ap (λ k. get_or (x ∷ items) k d) step

  is_above : (o : ℕ) (vs : List ℕ) → All (λ v. o < v) vs → (w : ℕ) → Contains vs w → o < w
  is_above o vs above w there = subst (λ (v : ℕ). o < v) (there.2) (above (there.0) w (there.1))

  module _ (x : A) (items : List A) (o : ℕ) where
    -- the first item is picked, as the first of the versions
    picks_rest : (v : ℕ) (vs : List ℕ) → v ≡ o + 1 → Picks (x ∷ items) o (v ∷ vs) → Picks items (o + 1) vs
    picks_rest v vs is picks =
        let later = AllPairs-first (λ a b. a < b) v vs picks.rise in
        let above : All (λ w. o + 1 < w) vs = λ k e h. omega (arith, is, later k e h) in
        record {
          rise = AllPairs-rest (λ a b. a < b) v vs picks.rise;
          above = above;
          all = λ i h pass.
              let same : o + suc i + 1 ≡ o + 1 + i + 1 = omega arith in
              rest_has o v (o + 1 + i + 1) vs (λ e. absurd (omega (arith, is, e)))
              (subst (λ (q : ℕ). Contains (v ∷ vs) q) same (picks.all (suc i) (omega (arith, h)) pass));
          only = λ w there.
              let full = picks.only w (has_rest v w vs there) in
              let late : o + 1 < w = is_above (o + 1) vs above w there in
              (omega (arith, full.0), ap p (sym (later_item x items o w late)) ∙ full.1);
        }

    -- the first item isn't picked
    picks_same : (vs : List ℕ) → p x ≡ false → Picks (x ∷ items) o vs → Picks items (o + 1) vs
    picks_same vs fails picks =
        let above : All (λ w. o + 1 < w) vs = λ k e h.
        let w : ℕ = get_or vs k e in
        let there : Contains vs w = (k, h, get_or_default vs k w e h) in
        not_first w there (picks.above k e h) in
        record {
          rise = picks.rise;
          above = above;
          all = λ i h pass.
              let same : o + suc i + 1 ≡ o + 1 + i + 1 = omega arith in
              subst (λ (q : ℕ). Contains vs q) same (picks.all (suc i) (omega (arith, h)) pass);
          only = λ w there.
              let full = picks.only w there in
              let late : o + 1 < w = is_above (o + 1) vs above w there in
              (omega (arith, full.0), ap p (sym (later_item x items o w late)) ∙ full.1);
        }
      where
        not_first : (w : ℕ) → Contains vs w → o < w → o + 1 < w
        not_first w there h =
            dite (ℕ_discrete w (o + 1))
            (λ e.
            let none : w - 1 - o ≡ 0 = omega (arith, e) in
            let passes : p x ≡ true = ap (λ k. p (get_or (x ∷ items) k d)) (sym none) ∙ (picks.only w there).1 in
            absurd (let clash : true ≡ false = sym passes ∙ fails in cc))
            (λ ne. omega (arith, h, ne))

    shown : (vs : List ℕ) → All (λ w. o + 1 < w) vs
        → map (λ v. get_or items (v - 1 - (o + 1)) d) vs ≡ map (λ v. get_or (x ∷ items) (v - 1 - o) d) vs
    shown vs above =
        map_same (λ v. get_or items (v - 1 - (o + 1)) d) (λ v. get_or (x ∷ items) (v - 1 - o) d) vs
        (λ k e h. sym (later_item x items o (get_or vs k e) (above k e h)))

    with_first : (v : ℕ) (vs : List ℕ) → p x ≡ true → Picks (x ∷ items) o (v ∷ vs)
        → ((ws : List ℕ) → Picks items (o + 1) ws → filter p items ≡ map (λ w. get_or items (w - 1 - (o + 1)) d) ws)
        → filter p (x ∷ items) ≡ map (λ w. get_or (x ∷ items) (w - 1 - o) d) (v ∷ vs)
    with_first v vs passes picks rest =
        let first : o + 0 + 1 ≡ o + 1 = omega arith in
        let is : v ≡ o + 1 =
        first_is o v vs (AllPairs-first (λ a b. a < b) v vs picks.rise) (picks.above 0 v (omega arith))
        (subst (λ (q : ℕ). Contains (v ∷ vs) q) first (picks.all 0 (omega arith) passes)) in
        let next = picks_rest v vs is picks in
        let none : v - 1 - o ≡ 0 = omega (arith, is) in
        let head : x ≡ get_or (x ∷ items) (v - 1 - o) d = ap (λ k. get_or (x ∷ items) k d) (sym none) in
        ap (λ b. cond b (x ∷ filter p items) (filter p items)) passes
        ∙ (λ z. head z ∷ (rest vs next ∙ shown vs next.above) z)

    without_first : (vs : List ℕ) → p x ≡ false → Picks (x ∷ items) o vs
        → ((ws : List ℕ) → Picks items (o + 1) ws → filter p items ≡ map (λ w. get_or items (w - 1 - (o + 1)) d) ws)
        → filter p (x ∷ items) ≡ map (λ w. get_or (x ∷ items) (w - 1 - o) d) vs
    without_first vs fails picks rest =
        let next = picks_same vs fails picks in
        ap (λ b. cond b (x ∷ filter p items) (filter p items)) fails ∙ rest vs next ∙ shown vs next.above

  -- the items that pass are those of the versions
  pub picked : (items : List A) (o : ℕ) (vs : List ℕ) → Picks items o vs → filter p items ≡ map (λ v. get_or items (v - 1 - o) d) vs
  picked [] o [] picks = refl
  picked [] o (v ∷ vs) picks =
      absurd (omega (arith, (picks.only v (0, omega arith, refl)).0, picks.above 0 v (omega arith)))
  picked (x ∷ items) o [] picks = by (p x) refl (λ ws w. picked items (o + 1) ws w)
    where
      by : (b : Bool) → p x ≡ b → ((ws : List ℕ) → Picks items (o + 1) ws → filter p items ≡ map (λ v. get_or items (v - 1 - (o + 1)) d) ws)
          → filter p (x ∷ items) ≡ map (λ v. get_or (x ∷ items) (v - 1 - o) d) []
      by true e rest = absurd (omega (arith, (picks.all 0 (omega arith) e).1))
      by false e rest = without_first x items o [] e picks rest
  picked (x ∷ items) o (v ∷ vs) picks = by (p x) refl (λ ws w. picked items (o + 1) ws w)
    where
      by : (b : Bool) → p x ≡ b → ((ws : List ℕ) → Picks items (o + 1) ws → filter p items ≡ map (λ v. get_or items (v - 1 - (o + 1)) d) ws)
          → filter p (x ∷ items) ≡ map (λ w. get_or (x ∷ items) (w - 1 - o) d) (v ∷ vs)
      by true e rest = with_first x items o v vs e picks rest
      by false e rest = without_first x items o (v ∷ vs) e picks rest
