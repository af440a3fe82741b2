-- A line that is added to lines in ascending order.
use Rattle.std.proofs.Common.{◌≡◌, ◌≢◌, ℕ, zero, suc, ◌+◌, ◌<◌, ◌≤◌, ◌⊎◌, inl, inr, true, false, ℤ, pos, ◌≤ℤ◌, ◌<ℤ◌, w64, FitsSigned, to_z, of_z, List, [], ◌∷◌, length, slice_index_or, refl, sym, ap, ◌∙◌, subst, arith}
use Rattle.std.specs.List.{Contains, insert}
use Rattle.std.specs.Int.Signed.{lt_z}
use Rattle.std.proofs.lemmas.Int.{ints, to_z-of_z}
use Rattle.std.proofs.lemmas.List.Edits.{length-insert, get_or-insert_below, get_or-insert_at, get_or-insert_above}
use Rattle.std.proofs.lemmas.List.Elements.{Contains-get_or}
use Rattle.cts_route.specs.LineLists.{line_at, IsAscending, IsRoom, IsInserted}
use Rattle.cts_route.proofs.Unique.{by_order}

-- ---- what a comparison of two numbers of 64 bits tells
pub less_told : (a b : ℤ) → FitsSigned w64 a → FitsSigned w64 b → lt_z (to_z w64 (of_z w64 a)) (to_z w64 (of_z w64 b)) ≡ true → a <ℤ b
less_told a b fits_a fits_b e = let less : lt_z a b ≡ true = simp to_z-of_z at e in omega (arith, ints, less)

pub not_less_told : (a b : ℤ) → FitsSigned w64 a → FitsSigned w64 b → lt_z (to_z w64 (of_z w64 a)) (to_z w64 (of_z w64 b)) ≡ false → b ≤ℤ a
not_less_told a b fits_a fits_b e = let not_less : lt_z a b ≡ false = simp to_z-of_z at e in omega (arith, ints, not_less)

pub strictly_below : (a b : ℤ) → a ≢ b → b ≤ℤ a → b <ℤ a
strictly_below a b apart le = omega (arith, ints)

-- ---- members by number
pub contains_at : (lines : List ℤ) (k : ℕ) → k < length lines → Contains lines (line_at lines k)
contains_at lines k lt = Contains-get_or lines k (pos 0) lt

-- the number of a member, read with the usual default
pub number_of : (lines : List ℤ) (c : ℤ) → Contains lines c → (k : ℕ) × ((k < length lines) × (line_at lines k ≡ c))
number_of lines c (k, lt, at) = (k, (lt, any_default lines k (pos 0) c lt ∙ at))
  where
    any_default : (lines : List ℤ) (k : ℕ) (d e : ℤ) → k < length lines → slice_index_or lines k d ≡ slice_index_or lines k e
    any_default [] k d e lt = absurd (omega arith)
    any_default (x ∷ lines) zero d e lt = refl
    any_default (x ∷ lines) (suc k) d e lt = any_default lines k d e (omega arith)

-- ---- one more line
inserted-below : (lines : List ℤ) (line : ℤ) (place k : ℕ) → place ≤ length lines → k < place → line_at (insert lines place line) k ≡ line_at lines k
inserted-below lines line place k le lt = get_or-insert_below lines place line (pos 0) k lt le

inserted-at : (lines : List ℤ) (line : ℤ) (place : ℕ) → place ≤ length lines → line_at (insert lines place line) place ≡ line
inserted-at lines line place le = get_or-insert_at lines place line (pos 0) le

inserted-above : (lines : List ℤ) (line : ℤ) (place k : ℕ) → place ≤ length lines → place ≤ k → line_at (insert lines place line) (k + 1) ≡ line_at lines k
inserted-above lines line place k le ge = get_or-insert_above lines place line (pos 0) k ge le

less_than : (a b x y : ℤ) → x ≡ a → y ≡ b → a <ℤ b → x <ℤ y
less_than a b x y e f lt = omega (arith, ints)

inserted-ascending : (lines : List ℤ) (line : ℤ) (place : ℕ) → IsAscending lines → IsRoom lines line place
    → IsAscending (insert lines place line)
inserted-ascending lines line place asc is =
    record {
      below = λ i j lt bound.
          let after : List ℤ = insert lines place line in
          let le : place ≤ length lines = is.bound in
          let len : length after ≡ length lines + 1 = length-insert lines place line le in
          by_order j place
          (λ j_below. less_than (line_at lines i) (line_at lines j) (line_at after i) (line_at after j)
          (inserted-below lines line place i le (omega arith)) (inserted-below lines line place j le j_below)
          (asc.below i j lt (omega arith)))
          (λ j_above. upper lines line place asc is i j lt j_above (omega arith))
          (λ j_at. less_than (line_at lines i) line (line_at after i) (line_at after j)
          (inserted-below lines line place i le (omega arith))
          (subst (λ (k : ℕ). line_at after k ≡ line) (sym j_at) (inserted-at lines line place le))
          (is.below i (omega arith)));
    }
  where
    -- j stands after the new line
    upper : (lines : List ℤ) (line : ℤ) (place : ℕ) → IsAscending lines → IsRoom lines line place → (i j : ℕ) → i < j → place < j → j ≤ length lines
        → line_at (insert lines place line) i <ℤ line_at (insert lines place line) j
    upper lines line place asc is i zero lt above bound = absurd (omega arith)
    upper lines line place asc is i (suc j) lt above bound =
        let after : List ℤ = insert lines place line in
        let le : place ≤ length lines = is.bound in
        let at_j : line_at after (suc j) ≡ line_at lines j =
        let e : suc j ≡ j + 1 = omega arith in
        subst (λ (k : ℕ). line_at after k ≡ line_at lines j) (sym e) (inserted-above lines line place j le (omega arith)) in
        by_order i place
        (λ i_below. less_than (line_at lines i) (line_at lines j) (line_at after i) (line_at after (suc j))
        (inserted-below lines line place i le i_below) at_j (asc.below i j (omega arith) (omega arith)))
        (λ i_above. from_above lines line place asc le i j i_above (omega arith) (omega arith) at_j)
        (λ i_at. less_than line (line_at lines j) (line_at after i) (line_at after (suc j))
        (subst (λ (k : ℕ). line_at after k ≡ line) (sym i_at) (inserted-at lines line place le)) at_j
        (past_line lines line place asc is.above j (omega arith) (omega arith)))
      where
        from_above : (lines : List ℤ) (line : ℤ) (place : ℕ) → IsAscending lines → place ≤ length lines → (i j : ℕ) → place < i → i < suc j → j < length lines
            → line_at (insert lines place line) (suc j) ≡ line_at lines j → line_at (insert lines place line) i <ℤ line_at (insert lines place line) (suc j)
        from_above lines line place asc le zero j above lt bound at_j = absurd (omega arith)
        from_above lines line place asc le (suc i) j above lt bound at_j =
            let after : List ℤ = insert lines place line in
            let e : suc i ≡ i + 1 = omega arith in
            less_than (line_at lines i) (line_at lines j) (line_at after (suc i)) (line_at after (suc j))
            (subst (λ (k : ℕ). line_at after k ≡ line_at lines i) (sym e) (inserted-above lines line place i le (omega arith))) at_j
            (asc.below i j (omega arith) bound)

        past_line : (lines : List ℤ) (line : ℤ) (place : ℕ) → IsAscending lines → (place < length lines → line <ℤ line_at lines place) → (j : ℕ)
            → place ≤ j → j < length lines → line <ℤ line_at lines j
        past_line lines line place asc past j ge bound =
            let here : line <ℤ line_at lines place = past (omega arith) in
            by_order place j
            (λ lt. let more : line_at lines place <ℤ line_at lines j = asc.below place j lt bound in omega (arith, ints))
            (λ gt. absurd (omega arith))
            (λ same. subst (λ (k : ℕ). line <ℤ line_at lines k) same here)

pub inserted : (lines : List ℤ) (line : ℤ) (place : ℕ) (after : List ℤ) → IsAscending lines → IsRoom lines line place
    → after ≡ insert lines place line → IsInserted lines after line
inserted lines line place after asc is e =
    subst (λ (xs : List ℤ). IsInserted lines xs line) (sym e)
    (record {
      ascending = inserted-ascending lines line place asc is;
      there = member (insert lines place line) place line (let len = length-insert lines place line is.bound in omega (arith, len, is.bound)) (inserted-at lines line place is.bound);
      kept = λ c there. keep lines line place is.bound c (number_of lines c there);
      only = λ c there. back lines line place is.bound c (number_of (insert lines place line) c there);
      count = let len = length-insert lines place line is.bound in omega (arith, len);
    })
  where
    member : (xs : List ℤ) (k : ℕ) (c : ℤ) → k < length xs → line_at xs k ≡ c → Contains xs c
    member xs k c lt e = subst (λ (x : ℤ). Contains xs x) e (contains_at xs k lt)

    keep : (lines : List ℤ) (line : ℤ) (place : ℕ) → place ≤ length lines → (c : ℤ) → (k : ℕ) × ((k < length lines) × (line_at lines k ≡ c)) → Contains (insert lines place line) c
    keep lines line place le c (k, (lt, at)) =
        let len : length (insert lines place line) ≡ length lines + 1 = length-insert lines place line le in
        by_order k place
        (λ below. member (insert lines place line) k c (omega arith) (inserted-below lines line place k le below ∙ at))
        (λ above. member (insert lines place line) (k + 1) c (omega arith) (inserted-above lines line place k le (omega arith) ∙ at))
        (λ same. member (insert lines place line) (k + 1) c (omega arith) (inserted-above lines line place k le (omega arith) ∙ at))

    back : (lines : List ℤ) (line : ℤ) (place : ℕ) → place ≤ length lines → (c : ℤ) → (k : ℕ) × ((k < length (insert lines place line)) × (line_at (insert lines place line) k ≡ c)) → (line ≡ c) ⊎ Contains lines c
    back lines line place le c (zero, (lt, at)) =
        by_order zero place
        (λ below. inr (member lines zero c (omega arith) (sym (inserted-below lines line place zero le below) ∙ at)))
        (λ above. absurd (omega arith))
        (λ same. inl (sym (subst (λ (k : ℕ). line_at (insert lines place line) k ≡ line) (sym same) (inserted-at lines line place le)) ∙ at))
    back lines line place le c (suc k, (lt, at)) =
        let len : length (insert lines place line) ≡ length lines + 1 = length-insert lines place line le in
        let e : suc k ≡ k + 1 = omega arith in
        by_order (suc k) place
        (λ below. inr (member lines (suc k) c (omega arith) (sym (inserted-below lines line place (suc k) le below) ∙ at)))
        (λ above. inr (member lines k c (omega arith)
        (sym (subst (λ (m : ℕ). line_at (insert lines place line) m ≡ line_at lines k) (sym e) (inserted-above lines line place k le (omega arith))) ∙ at)))
        (λ same. inl (sym (subst (λ (m : ℕ). line_at (insert lines place line) m ≡ line) (sym same) (inserted-at lines line place le)) ∙ at))

-- the line is there already
pub not_inserted : (lines after : List ℤ) (line : ℤ) → IsAscending lines → Contains lines line → after ≡ lines → IsInserted lines after line
not_inserted lines after line asc there e =
    subst (λ (xs : List ℤ). IsInserted lines xs line) (sym e)
    (record { ascending = asc; there = there; kept = λ c old. old; only = λ c old. inr old; count = omega arith })

-- ---- the room for a line
pub room_after : (lines : List ℤ) (line : ℤ) (before place : ℕ) → IsAscending lines → place ≡ before + 1 → place ≤ length lines
    → line_at lines before <ℤ line → (place < length lines → line <ℤ line_at lines place) → IsRoom lines line place
room_after lines line before place asc e le less above =
    record {
      bound = le;
      below = λ k lt. by_order k before
          (λ under. let l : line_at lines k <ℤ line_at lines before = asc.below k before under (omega arith) in omega (arith, ints))
          (λ over. absurd (omega arith))
          (λ same. let l : line_at lines k ≡ line_at lines before = ap (λ (x : ℕ). line_at lines x) same in omega (arith, ints));
      above = above;
    }
