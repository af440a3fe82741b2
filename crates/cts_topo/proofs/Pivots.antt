-- Pins that rise strictly, split at one of them: its earlier and its later ones, in this order and in another one.
use Rattle.std.proofs.Common.{◌≡◌, ℕ, zero, suc, ◌+◌, ◌*◌, ◌<◌, ◌≤◌, Bool, true, false, cond, not, List, [], ◌∷◌, ◌++◌, set, take, drop, length, get_or, filter, IsSortedBy, Result, Ok, Err, OnOk, refl, sym, ap, ap₂, subst, ◌∙◌, arith, append-nil}
use Rattle.std.specs.List.{AllByRecursion}
use Rattle.std.specs.Int.{div_ceil}
use Rattle.std.proofs.lemmas.List.{length-take-le, length-drop, take_more_set, take_all, take-append-drop, take-set-le, drop-set-lt, drop-set-add, length-set}
use lib.Seq.{take-set-lt}
use Rattle.std.proofs.Math.Seq.{take-append_seam, drop-append_seam}
use Rattle.std.proofs.lemmas.List.Elements.{filter_more}
use Rattle.std.proofs.lemmas.List.Filters.{length-filter_more, length-filter_both}
use Rattle.std.proofs.lemmas.List.Kept.{IsSortedBy-filter}
use Rattle.cts_topo.specs.declared.pin.Pin.{Pin}
use Rattle.cts_topo.specs.Topology.{is_before, is_wide, turned, left_size}
use Rattle.cts_topo.proofs.Apart.{AreApart}
use Rattle.cts_topo.proofs.Shuffles.{Shuffled, length-Shuffled, filter-Shuffled}
use Rattle.cts_topo.proofs.Orders.{pins_weak}
use Rattle.cts_topo.proofs.Extents.{is_wide-Shuffled}
use Rattle.cts_topo.proofs.Ranks.{Rises, AllByRecursion-at, not_itself}
use Rattle.cts_topo.proofs.Parts.{rises_of, left_size_lt}

module _ {X : Type 0} (lt : X → X → Bool) (asym : (x y : X) → lt x y ≡ true → lt y x ≡ false) where
  all_later : (x : X) (xs : List X) → AllByRecursion (λ y. lt x y ≡ true) xs
      → (filter (λ q. lt q x) xs ≡ []) × (filter (λ q. not (lt q x)) xs ≡ xs)
  all_later x [] all = (refl, refl)
  all_later x (y ∷ ys) all =
      let late : lt y x ≡ false = asym x y (all.0) in
      let rest = all_later x ys (all.1) in (
        ap (λ b. cond b (y ∷ filter (λ q. lt q x) ys) (filter (λ q. lt q x) ys)) late ∙ rest.0,
        ap (λ b. cond (not b) (y ∷ filter (λ q. not (lt q x)) ys) (filter (λ q. not (lt q x)) ys)) late
            ∙ ap (λ zs. y ∷ zs) (rest.1),
      )

  -- the items before the one at a place are those at earlier places
  pub split_at_place : (xs : List X) (k : ℕ) (d : X) → Rises lt xs → k < length xs
      → (filter (λ q. lt q (get_or xs k d)) xs ≡ take k xs) × (filter (λ q. not (lt q (get_or xs k d))) xs ≡ drop k xs)
  unfolding Rises
  split_at_place [] k d rises h = absurd (omega arith)
  split_at_place (x ∷ xs) zero d rises h =
      let own : lt x x ≡ false = not_itself lt asym x in
      let rest = all_later x xs (rises.0) in (
        ap (λ b. cond b (x ∷ filter (λ q. lt q x) xs) (filter (λ q. lt q x) xs)) own ∙ rest.0,
        ap (λ b. cond (not b) (x ∷ filter (λ q. not (lt q x)) xs) (filter (λ q. not (lt q x)) xs)) own
            ∙ ap (λ zs. x ∷ zs) (rest.1),
      )
  split_at_place (x ∷ xs) (suc k) d rises h =
      let y : X = get_or xs k d in
      let first : lt x y ≡ true = AllByRecursion-at (λ z. lt x z ≡ true) xs k d (rises.0) (omega arith) in
      let rest = split_at_place xs k d (rises.1) (omega arith) in (
        ap (λ b. cond b (x ∷ filter (λ q. lt q y) xs) (filter (λ q. lt q y) xs)) first ∙ ap (λ zs. x ∷ zs) (rest.0),
        ap (λ b. cond (not b) (x ∷ filter (λ q. not (lt q y)) xs) (filter (λ q. not (lt q y)) xs)) first ∙ rest.1,
      )

-- of the pins sorted along an axis and across it, the halves at a pivot
pub record HalvesSorted (wide : Bool) (along across : List Pin) (half : ℕ) (pivot : Pin) : Type 0 where
  pub count : length (filter (λ p. is_before wide p pivot) across) ≡ half
  pub left_along : IsSortedBy (is_before wide) (take half along)
  pub right_along : IsSortedBy (is_before wide) (drop half along)
  pub left_across : IsSortedBy (is_before (not wide)) (filter (λ p. is_before wide p pivot) across)
  pub right_across : IsSortedBy (is_before (not wide)) (filter (λ p. not (is_before wide p pivot)) across)
  pub left_same : Shuffled (take half along) (filter (λ p. is_before wide p pivot) across)
  pub right_same : Shuffled (drop half along) (filter (λ p. not (is_before wide p pivot)) across)

pub halves_sorted : (wide : Bool) (along across : List Pin) (half : ℕ) (d : Pin) → 2 ≤ length along → AreApart along
    → IsSortedBy (is_before wide) along → IsSortedBy (is_before (not wide)) across → Shuffled along across
    → half ≡ div_ceil (length along) 2 → HalvesSorted wide along across half (get_or along half d)
unfolding left_size
halves_sorted wide along across half d two apart along_sorted across_sorted items is =
    let less : half < length along = subst (λ n. n < length along) (sym is) (left_size_lt (length along) two) in
    let pivot : Pin = get_or along half d in
    let early : Pin → Bool = λ p. is_before wide p pivot in
    let late : Pin → Bool = λ p. not (is_before wide p pivot) in
    let rises : Rises (is_before wide) along = rises_of wide along along_sorted apart in
    let places = split_at_place (is_before wide) (pins_weak wide).one_way along half d rises less in
    let left_is : filter early along ≡ take half along = places.0 in
    let right_is : filter late along ≡ drop half along = places.1 in
    let left_items : Shuffled (take half along) (filter early across) =
    subst (λ zs. Shuffled zs (filter early across)) left_is (filter-Shuffled early items) in
    let right_items : Shuffled (drop half along) (filter late across) =
    subst (λ zs. Shuffled zs (filter late across)) right_is (filter-Shuffled late items) in
    record {
      count = sym (length-Shuffled left_items) ∙ length-take-le half along (omega arith);
      left_along = subst (IsSortedBy (is_before wide)) left_is (IsSortedBy-filter _ (pins_weak wide) early along along_sorted);
      right_along = subst (IsSortedBy (is_before wide)) right_is (IsSortedBy-filter _ (pins_weak wide) late along along_sorted);
      left_across = IsSortedBy-filter _ (pins_weak (not wide)) early across across_sorted;
      right_across = IsSortedBy-filter _ (pins_weak (not wide)) late across across_sorted;
      left_same = left_items;
      right_same = right_items;
    }

abbrev one_if : Bool → ℕ
one_if b = cond b 1 0

-- how a list is turned to its other order, and when it need not be
not_true : (b : Bool) → not b ≡ true → b ≡ false
not_true true h = cc
not_true false h = refl

not_false : (b : Bool) → not b ≡ false → b ≡ true
not_false true h = refl
not_false false h = cc

pub turned_back : (wide : Bool) (ps qs : List Pin) → Shuffled ps qs → turned wide ps ≡ true → turned (not wide) qs ≡ false
turned_back true ps qs s h = sym (is_wide-Shuffled s) ∙ not_true (is_wide ps) h
turned_back false ps qs s h = ap not (sym (is_wide-Shuffled s) ∙ h)

pub not_turned : (wide : Bool) (ps : List Pin) → turned wide ps ≡ false → is_wide ps ≡ wide
not_turned true ps h = not_false (is_wide ps) h
not_turned false ps h = h

pub back_again : (wide : Bool) (ps : List Pin) → IsSortedBy (is_before wide) ps → IsSortedBy (is_before (not (not wide))) ps
back_again true ps h = h
back_again false ps h = h

-- how many times a list of this length may still be divided or turned
unfoldable pub turns_left : Bool → List Pin → ℕ
turns_left wide ps = 2 * length ps + cond (turned wide ps) 1 0

pub fewer_turned : (wide : Bool) (ps qs : List Pin) → Shuffled ps qs → turned wide ps ≡ true
    → turns_left (not wide) qs < turns_left wide ps
unfolding turns_left
fewer_turned wide ps qs s h =
    omega (arith, length-Shuffled s, ap one_if h, ap one_if (turned_back wide ps qs s h))

one_at_most : (b : Bool) → cond b 1 0 ≤ 1
one_at_most true = omega arith
one_at_most false = omega arith

pub fewer_halved : (wide : Bool) (ps qs : List Pin) → length qs < length ps → turns_left wide qs < turns_left wide ps
unfolding turns_left
fewer_halved wide ps qs h = omega (arith, h, one_at_most (turned wide qs))

pub map_ok : {A E : Type 0} (r : Result A E) (P Q : Type 0) → (P → Q) → OnOk r P → OnOk r Q
map_ok (Ok value) P Q f p = f p
map_ok (Err error) P Q f p = tt

-- a prefix has no more items that pass
prefix_le : {X : Type 0} (p : X → Bool) (k : ℕ) (xs : List X) → length (filter p (take k xs)) ≤ length (filter p xs)
prefix_le p zero xs = omega arith
prefix_le p (suc k) [] = omega arith
prefix_le p (suc k) (x ∷ xs) =
    elim (p x) as (λ b. length (cond b (x ∷ filter p (take k xs)) (filter p (take k xs))) ≤ length (cond b (x ∷ filter p xs) (filter p xs))) [
      | true ↦ omega (arith, prefix_le p k xs)
      | false ↦ prefix_le p k xs
    ]

-- the first n of some pins have gone, in their order, to the beginnings of two lists that have just room for all
pub record Splitting (passes : Pin → Bool) (pins : List Pin) (n : ℕ) (front back : List Pin) (early late : ℕ) : Type 0 where
  pub front_is : take early front ≡ filter passes (take n pins)
  pub back_is : take late back ≡ filter (λ p. not (passes p)) (take n pins)
  pub early_is : early ≡ length (filter passes (take n pins))
  pub late_is : late ≡ length (filter (λ p. not (passes p)) (take n pins))
  pub front_long : length front ≡ length (filter passes pins)
  pub back_long : length back ≡ length (filter (λ p. not (passes p)) pins)

module _ (passes : Pin → Bool) (pins : List Pin) where
  pub halves_fit : length (filter passes pins) + length (filter (λ p. not (passes p)) pins) ≡ length pins
  halves_fit = length-filter_both passes (λ p. not (passes p)) (λ p. refl) pins

  pub splitting_none : (front back : List Pin) → length front ≡ length (filter passes pins)
      → length front + length back ≡ length pins → Splitting passes pins 0 front back 0 0
  splitting_none front back long all = record {
    front_is = refl;
    back_is = refl;
    early_is = refl;
    late_is = refl;
    front_long = long;
    back_long = omega (arith, long, all, halves_fit);
  }

  module _ (n : ℕ) (d : Pin) (h : n < length pins) (front back : List Pin) (early late : ℕ)
      (s : Splitting passes pins n front back early late) where
    pub room_early : passes (get_or pins n d) ≡ true → early < length front
    room_early e =
        omega (
          arith,
          s.early_is,
          s.front_long,
          length-filter_more passes pins n d h,
          ap one_if e,
          prefix_le passes (n + 1) pins,
        )

    pub room_late : passes (get_or pins n d) ≡ false → late < length back
    room_late e =
        omega (
          arith,
          s.late_is,
          s.back_long,
          length-filter_more (λ p. not (passes p)) pins n d h,
          ap (λ (b : Bool). one_if (not b)) e,
          prefix_le (λ p. not (passes p)) (n + 1) pins,
        )

    pub splitting_early : passes (get_or pins n d) ≡ true
        → Splitting passes pins (n + 1) (set front early (get_or pins n d)) back (early + 1) late
    splitting_early e = record {
      front_is = take_more_set front early (get_or pins n d) (room_early e)
          ∙ ap (λ zs. zs ++ get_or pins n d ∷ []) s.front_is
          ∙ sym (filter_more passes pins n d h ∙ ap (λ b. filter passes (take n pins) ++ cond b (get_or pins n d ∷ []) []) e);
      back_is = s.back_is
          ∙ sym (filter_more (λ p. not (passes p)) pins n d h
          ∙ ap (λ b. filter (λ p. not (passes p)) (take n pins) ++ cond (not b) (get_or pins n d ∷ []) []) e ∙ append-nil _);
      early_is = omega (arith, s.early_is, length-filter_more passes pins n d h, ap one_if e);
      late_is = omega (arith, s.late_is, length-filter_more (λ p. not (passes p)) pins n d h, ap (λ (b : Bool). one_if (not b)) e);
      front_long = length-set front early (get_or pins n d) ∙ s.front_long;
      back_long = s.back_long;
    }

    pub splitting_late : passes (get_or pins n d) ≡ false
        → Splitting passes pins (n + 1) front (set back late (get_or pins n d)) early (late + 1)
    splitting_late e = record {
      front_is = s.front_is
          ∙ sym (filter_more passes pins n d h
          ∙ ap (λ b. filter passes (take n pins) ++ cond b (get_or pins n d ∷ []) []) e ∙ append-nil _);
      back_is = take_more_set back late (get_or pins n d) (room_late e)
          ∙ ap (λ zs. zs ++ get_or pins n d ∷ []) s.back_is
          ∙ sym (filter_more (λ p. not (passes p)) pins n d h
          ∙ ap (λ b. filter (λ p. not (passes p)) (take n pins) ++ cond (not b) (get_or pins n d ∷ []) []) e);
      early_is = omega (arith, s.early_is, length-filter_more passes pins n d h, ap one_if e);
      late_is = omega (arith, s.late_is, length-filter_more (λ p. not (passes p)) pins n d h, ap (λ (b : Bool). one_if (not b)) e);
      front_long = s.front_long;
      back_long = length-set back late (get_or pins n d) ∙ s.back_long;
    }

    pub put_early : (front' back' : List Pin) (early' late' : ℕ) → front' ≡ set front early (get_or pins n d) → back' ≡ back
        → early' ≡ early + 1 → late' ≡ late → passes (get_or pins n d) ≡ true
        → Splitting passes pins (n + 1) front' back' early' late'
    put_early front' back' early' late' f b i j e = rw (f, b, i, j) (splitting_early e)

    pub put_late : (front' back' : List Pin) (early' late' : ℕ) → front' ≡ front → back' ≡ set back late (get_or pins n d)
        → early' ≡ early → late' ≡ late + 1 → passes (get_or pins n d) ≡ false
        → Splitting passes pins (n + 1) front' back' early' late'
    put_late front' back' early' late' f b i j e = rw (f, b, i, j) (splitting_late e)

  -- once all have gone both lists are full
  pub splitting_all : (n : ℕ) (front back : List Pin) (early late : ℕ) → Splitting passes pins n front back early late
      → length pins ≤ n → front ++ back ≡ filter passes pins ++ filter (λ p. not (passes p)) pins
  splitting_all n front back early late s all =
      let whole : take n pins ≡ pins = take_all n pins all in
      let first : length front ≤ early = omega (arith, s.early_is, s.front_long, ap (λ zs. length (filter passes zs)) whole) in
      let last : length back ≤ late = omega (arith, s.late_is, s.back_long, ap (λ zs. length (filter (λ p. not (passes p)) zs)) whole) in
      ap₂ (λ us vs. us ++ vs)
      (sym (take_all early front first) ∙ s.front_is ∙ ap (filter passes) whole)
      (sym (take_all late back last) ∙ s.back_is ∙ ap (filter (λ p. not (passes p))) whole)

-- the first n of some pins have gone, in their order, to the two parts of a list, whose first one has just room for those that pass
pub record PartsFilled (passes : Pin → Bool) (pins : List Pin) (n half : ℕ) (target : List Pin) (early late : ℕ) : Type 0 where
  pub behind : ℕ
  pub late_is : late ≡ half + behind
  pub fits : half ≤ length target
  pub parts : Splitting passes pins n (take half target) (drop half target) early behind

module _ (passes : Pin → Bool) (pins : List Pin) (half : ℕ) where
  pub parts_none : (target : List Pin) → length (filter passes pins) ≡ half → length target ≡ length pins
      → PartsFilled passes pins 0 half target 0 half
  parts_none target count room =
      let fits : half ≤ length target = omega (arith, count, room, halves_fit passes pins) in
      record {
        behind = 0;
        late_is = omega arith;
        fits = fits;
        parts = splitting_none passes pins (take half target) (drop half target)
            (length-take-le half target fits ∙ sym count)
            (omega (arith, length-take-le half target fits, length-drop half target, fits, room));
      }

  module _ (n : ℕ) (d : Pin) (h : n < length pins) (target : List Pin) (early late : ℕ)
      (filled : PartsFilled passes pins n half target early late) where
    room_before : passes (get_or pins n d) ≡ true → early < half
    room_before e =
        omega (
          arith,
          length-take-le half target filled.fits,
          room_early passes pins n d h (take half target) (drop half target) early filled.behind filled.parts e,
        )

    pub place_before : passes (get_or pins n d) ≡ true → early < length target
    place_before e = omega (arith, room_before e, filled.fits)

    pub place_behind : passes (get_or pins n d) ≡ false → late < length target
    place_behind e =
        omega (
          arith,
          filled.late_is,
          length-drop half target,
          room_late passes pins n d h (take half target) (drop half target) early filled.behind filled.parts e,
        )

    pub put_before : passes (get_or pins n d) ≡ true → (place early' late' : ℕ) → place ≡ early → early' ≡ early + 1 → late' ≡ late
        → PartsFilled passes pins (n + 1) half (set target place (get_or pins n d)) early' late'
    put_before e place early' late' at i j = rw (at, i, j) (record {
      behind = filled.behind;
      late_is = filled.late_is;
      fits = omega (arith, filled.fits, length-set target early (get_or pins n d));
      parts = put_early passes pins n d h (take half target) (drop half target) early filled.behind filled.parts
          _ _ _ _
          (take-set-lt half target early (get_or pins n d) (room_before e))
          (drop-set-lt half target early (get_or pins n d) (room_before e))
          refl refl e;
    })

    pub put_behind : passes (get_or pins n d) ≡ false → (place early' late' : ℕ) → place ≡ late → early' ≡ early → late' ≡ late + 1
        → PartsFilled passes pins (n + 1) half (set target place (get_or pins n d)) early' late'
    put_behind e place early' late' at i j = rw (at, i, j) (record {
      behind = filled.behind + 1;
      late_is = omega (arith, filled.late_is);
      fits = omega (arith, filled.fits, length-set target late (get_or pins n d));
      parts = put_late passes pins n d h (take half target) (drop half target) early filled.behind filled.parts
          _ _ _ _
          (take-set-le half target late (get_or pins n d) (omega (arith, filled.late_is)))
          (ap (λ k. drop half (set target k (get_or pins n d))) filled.late_is
          ∙ drop-set-add half target filled.behind (get_or pins n d))
          refl refl e;
    })

  pub parts_all : (n : ℕ) (target : List Pin) (early late : ℕ) → PartsFilled passes pins n half target early late
      → length pins ≤ n → target ≡ filter passes pins ++ filter (λ p. not (passes p)) pins
  parts_all n target early late filled all =
      sym (take-append-drop half target)
      ∙ splitting_all passes pins n (take half target) (drop half target) early filled.behind filled.parts all

-- the lists of one part are sorted as those of the whole
pub record PartReady (wide : Bool) (ps qs : List Pin) : Type 0 where
  pub along : IsSortedBy (is_before wide) ps
  pub across : IsSortedBy (is_before (not wide)) qs
  pub items : Shuffled ps qs
  pub long : length qs ≡ length ps

pub parts_ready : (wide : Bool) (along across all ls rs lc rc : List Pin) (half : ℕ) (d : Pin) → 2 ≤ length along → AreApart along
    → IsSortedBy (is_before wide) along → IsSortedBy (is_before (not wide)) across → Shuffled along across
    → half ≡ div_ceil (length along) 2
    → all ≡ filter (λ p. is_before wide p (get_or along half d)) across ++ filter (λ p. not (is_before wide p (get_or along half d))) across
    → ls ≡ take half along → rs ≡ drop half along → lc ≡ take half all → rc ≡ drop half all
    → PartReady wide ls lc × PartReady wide rs rc
parts_ready wide along across all ls rs lc rc half d two apart a_sorted c_sorted items is split l r lc_is rc_is =
    let h : HalvesSorted wide along across half (get_or along half d) =
    halves_sorted wide along across half d two apart a_sorted c_sorted items is in
    let pivot : Pin = get_or along half d in
    let early : List Pin = filter (λ p. is_before wide p pivot) across in
    let late : List Pin = filter (λ p. not (is_before wide p pivot)) across in
    let left : lc ≡ early =
    lc_is ∙ ap₂ take (sym h.count) split ∙ take-append_seam early late in
    let right : rc ≡ late =
    rc_is ∙ ap₂ drop (sym h.count) split ∙ drop-append_seam early late in (
      rw (l, left) (record {
        along = h.left_along;
        across = h.left_across;
        items = h.left_same;
        long = sym (length-Shuffled h.left_same);
      }),
      rw (r, right) (record {
        along = h.right_along;
        across = h.right_across;
        items = h.right_same;
        long = sym (length-Shuffled h.right_same);
      }),
    )
