-- The multiples of a step that pass a test, one more or several more at a time.
use Rattle.std.proofs.Common.{◌≡◌, ℕ, zero, suc, ◌+◌, ◌-◌, ◌*◌, ◌<◌, ◌≤◌, Bool, true, false, cond, List, [], ◌∷◌, ◌++◌, length, refl, sym, ap, subst, ◌∙◌, arith, append-nil, length-append}
use Rattle.std.specs.List.{All}
use Rattle.std.proofs.Math.Nat.{mul-le-mul_right}
use Rattle.std.proofs.lemmas.List.{map-append, length-map}
use Rattle.std.proofs.lemmas.List.Elements.{All-push, All-nil, All-weaker}
use Rattle.std.proofs.lemmas.List.FromFn.{filter_of_map_range_with_len_more}
use Rattle.cts_geom.specs.declared.points.Half.{Half}
use Rattle.cts_geom.specs.declared.points.Spot.{Spot}
use Rattle.cts_geom.specs.declared.bounds.Die.{Die}
use Rattle.cts_geom.specs.Points.{point_of}
use Rattle.cts_block.specs.declared.blocks.Block.{Block}
use Rattle.cts_trunk.specs.declared.places.Stand.{Stand}
use Rattle.cts_trunk.specs.Way.{point_along}
use Rattle.cts_trunk.specs.Places.{chosen, is_free_at}
use Rattle.cts_trunk.specs.Road.{AreStands, StandsOn}

module _ (test : ℕ → Bool) (step : ℕ) where
  one_more : (n : ℕ) → chosen test step (n + 1) ≡ chosen test step n ++ cond (test ((n + 1) * step)) ((n + 1) * step ∷ []) []
  one_more n =
      let next : 1 + n ≡ n + 1 = omega arith in
      filter_of_map_range_with_len_more test (λ m. m * step) 1 n (n + 1) next

  pub chosen_next : (n : ℕ) → test ((n + 1) * step) ≡ true → chosen test step (n + 1) ≡ chosen test step n ++ (n + 1) * step ∷ []
  chosen_next n passes = one_more n ∙ ap (λ b. chosen test step n ++ cond b ((n + 1) * step ∷ []) []) passes

  chosen_skip : (n : ℕ) → test ((n + 1) * step) ≡ false → chosen test step (n + 1) ≡ chosen test step n
  chosen_skip n fails =
      one_more n ∙ ap (λ b. chosen test step n ++ cond b ((n + 1) * step ∷ []) []) fails ∙ append-nil (chosen test step n)

  pub chosen_jump : (n k : ℕ) → ((m : ℕ) → n < m → m ≤ n + k → test (m * step) ≡ false)
      → chosen test step (n + k) ≡ chosen test step n
  chosen_jump n zero none = let same : n + 0 ≡ n = omega arith in ap (chosen test step) same
  chosen_jump n (suc k) none =
      let next : n + suc k ≡ n + k + 1 = omega arith in
      ap (chosen test step) next
      ∙ chosen_skip (n + k) (none (n + k + 1) (omega arith) (omega arith))
      ∙ chosen_jump n k (λ m above below. none m above (omega (arith, below)))

  chosen_step : (n : ℕ) → length (chosen test step n) ≤ length (chosen test step (n + 1))
  chosen_step n =
      let more : length (chosen test step (n + 1)) ≡ length (chosen test step n) + length (cond (test ((n + 1) * step)) ((n + 1) * step ∷ []) []) =
      ap length (one_more n) ∙ length-append (chosen test step n) (cond (test ((n + 1) * step)) ((n + 1) * step ∷ []) []) in
      omega (arith, more)

  pub chosen_grows : (n k : ℕ) → length (chosen test step n) ≤ length (chosen test step (n + k))
  chosen_grows n zero = let same : n + 0 ≡ n = omega arith in omega (arith, ap (λ j. length (chosen test step j)) same)
  chosen_grows n (suc k) =
      let next : n + suc k ≡ n + k + 1 = omega arith in
      omega (arith, ap (λ j. length (chosen test step j)) next, chosen_step (n + k), chosen_grows n k)

-- none is further than the last multiple
pub chosen_within : (test : ℕ → Bool) (step n : ℕ) → All (λ s. s ≤ n * step) (chosen test step n)
chosen_within test step zero = All-nil (λ s. s ≤ 0 * step)
chosen_within test step (suc n) = by_test (test ((n + 1) * step)) refl (chosen_within test step n)
  where
    next : suc n ≡ n + 1
    next = omega arith

    wider : (s : ℕ) → s ≤ n * step → s ≤ suc n * step
    wider s below = let more : n ≤ suc n = omega arith in omega (arith, below, mul-le-mul_right step more)

    so_far : All (λ s. s ≤ n * step) (chosen test step n) → All (λ s. s ≤ suc n * step) (chosen test step n)
    so_far before = All-weaker (λ s. s ≤ n * step) (λ s. s ≤ suc n * step) wider (chosen test step n) before

    by_test : (b : Bool) → test ((n + 1) * step) ≡ b → All (λ s. s ≤ n * step) (chosen test step n)
        → All (λ s. s ≤ suc n * step) (chosen test step (suc n))
    by_test true is before =
        subst (All (λ s. s ≤ suc n * step)) (sym (ap (chosen test step) next ∙ chosen_next test step n is))
        (All-push (λ s. s ≤ suc n * step) (chosen test step n) ((n + 1) * step) (so_far before)
        (omega (arith, ap (λ m. m * step) next)))
    by_test false is before =
        subst (All (λ s. s ≤ suc n * step)) (sym (ap (chosen test step) next ∙ chosen_skip test step n is)) (so_far before)

abbrev pub stand : Spot → ℕ → Stand
stand place length = record { place = place; length = length }

module _ (blocks : List Block) (die : Die) (points : List Half) (step : ℕ) where
  abbrev test : ℕ → Bool
  test s = is_free_at blocks die points (2 * s)

  pub none_stands : AreStands blocks die points step 0 []
  none_stands = record { lengths = refl; places = All-nil (StandsOn points); few = omega arith }

  -- a free place is one more
  pub stands_next : (n : ℕ) (stands : List Stand) → AreStands blocks die points step n stands → (place : Spot)
      → is_free_at blocks die points (2 * ((n + 1) * step)) ≡ true
      → point_of place ≡ point_along points (2 * ((n + 1) * step)) → length stands < 65536
      → AreStands blocks die points step (n + 1) (stands ++ stand place ((n + 1) * step) ∷ [])
  stands_next n stands are place free place_is room = record {
    lengths =
        map-append (λ (s : Stand). s.length) stands (stand place ((n + 1) * step) ∷ [])
        ∙ ap (λ lengths. lengths ++ (n + 1) * step ∷ []) are.lengths
        ∙ sym (chosen_next test step n free);
    places = All-push (StandsOn points) stands (stand place ((n + 1) * step)) are.places place_is;
    few = omega (arith, room, length-append stands (stand place ((n + 1) * step) ∷ []));
  }

  -- with as many as there may be it is one too many
  pub too_many : (n count : ℕ) (stands : List Stand) → AreStands blocks die points step n stands
      → is_free_at blocks die points (2 * ((n + 1) * step)) ≡ true → length stands ≡ 65536 → n < count
      → 65536 < length (chosen test step count)
  too_many n count stands are free full below =
      let rest : n + 1 + (count - (n + 1)) ≡ count = omega (arith, below) in
      let here : length (chosen test step (n + 1)) ≡ length (chosen test step n) + 1 =
      ap length (chosen_next test step n free) ∙ length-append (chosen test step n) ((n + 1) * step ∷ []) in
      let so_far : length stands ≡ length (chosen test step n) = sym (length-map stands (λ (s : Stand). s.length)) ∙ ap length are.lengths in
      omega (
        arith,
        full,
        here,
        so_far,
        chosen_grows test step (n + 1) (count - (n + 1)),
        ap (λ j. length (chosen test step j)) rest,
      )

  -- over a stretch without free places nothing comes
  pub stands_jump : (n until later : ℕ) (stands : List Stand) → AreStands blocks die points step n stands
      → ((e : ℕ) → 2 * ((n + 1) * step) ≤ e → e < until → is_free_at blocks die points e ≡ false)
      → n ≤ later → 2 * (later * step) < until → AreStands blocks die points step later stands
  stands_jump n until later stands are blocked further before =
      let rest : n + (later - n) ≡ later = omega (arith, further) in
      let none : (m : ℕ) → n < m → m ≤ n + (later - n) → test (m * step) ≡ false =
      λ m above below.
      let first : n + 1 ≤ m = omega (arith, above) in
      let last : m ≤ later = omega (arith, below, further) in
      blocked (2 * (m * step)) (omega (arith, mul-le-mul_right step first)) (omega (arith, mul-le-mul_right step last, before)) in
      record {
        lengths = are.lengths ∙ sym (chosen_jump test step n (later - n) none) ∙ ap (chosen test step) rest;
        places = are.places;
        few = are.few;
      }
