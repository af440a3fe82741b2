-- The wires of the trunk by number, and the sums along them, one wire more at a time.
use Rattle.std.proofs.Common.{◌≡◌, ℕ, zero, suc, ◌+◌, ◌-◌, ◌<◌, ◌≤◌, List, [], ◌∷◌, length, drop, get_or, refl, ap, ◌∙◌, arith, length-drop}
use Rattle.std.proofs.lemmas.List.Sums.{sum_by_more}
use Rattle.cts_units.specs.declared.params.Buffer.{Buffer}
use Rattle.cts_instance.specs.declared.parts.Parts.{Parts}
use Rattle.cts_trunk.specs.Extended.{Span, span, spans, span_delay, repeater_delay, span_at, first_delay, delay_on}

pub length-spans : (input root from : ℕ) (cuts : List ℕ) (end : ℕ) → length (spans input root from cuts end) ≡ length cuts + 1
unfolding spans
length-spans input root from [] end = refl
length-spans input root from (at ∷ later) end = ap suc (length-spans input root at later end) ∙ omega arith

-- a wire above a repeater
pub at_repeater : (input root from : ℕ) (cuts : List ℕ) (end k : ℕ) (d : Span) → k < length cuts
    → get_or (spans input root from cuts end) k d ≡ span (get_or cuts k 0 - get_or (from ∷ cuts) k 0) input
unfolding spans
at_repeater input root from [] end k d below = absurd (omega arith)
at_repeater input root from (at ∷ later) end zero d below = refl
at_repeater input root from (at ∷ later) end (suc k) d below = at_repeater input root at later end k d (omega arith)

-- the wire above the root
pub at_root : (input root from : ℕ) (cuts : List ℕ) (end : ℕ) (d : Span)
    → get_or (spans input root from cuts end) (length cuts) d ≡ span (end - get_or (from ∷ cuts) (length cuts) 0) root
unfolding spans
at_root input root from [] end d = refl
at_root input root from (at ∷ later) end d = at_root input root at later end d

get_or-rest : {X : Type 0} (xs : List X) (k : ℕ) (d : X) → get_or (drop 1 xs) k d ≡ get_or xs (k + 1) d
get_or-rest [] k d = refl
get_or-rest (x ∷ xs) k d = let next : suc k ≡ k + 1 = omega arith in ap (λ j. get_or (x ∷ xs) j d) next

module _ (i : Parts) (repeater : Buffer) (trunk : List Span) where
  pub first_sum : 0 < length trunk → delay_on i repeater trunk 0 ≡ first_delay i repeater trunk + span_delay i (span_at i repeater trunk 0)
  unfolding delay_on
  first_sum some = omega (arith, sum_by_more (span_delay i) trunk 0 (span 0 0) some)

  -- one wire more, with the repeater that drives it
  pub next_sum : (k : ℕ) → k + 1 < length trunk
      → delay_on i repeater trunk (k + 1)
      ≡ delay_on i repeater trunk k + repeater_delay i repeater (span_at i repeater trunk (k + 1)) + span_delay i (span_at i repeater trunk (k + 1))
  unfolding delay_on
  next_sum k inside =
      let left : k < length (drop 1 trunk) = omega (arith, inside, length-drop 1 trunk) in
      omega (
        arith,
        sum_by_more (span_delay i) trunk (k + 1) (span 0 0) inside,
        sum_by_more (repeater_delay i repeater) (drop 1 trunk) k (span 0 0) left,
        ap (repeater_delay i repeater) (get_or-rest trunk k (span 0 0)),
      )

  -- delays only grow
  pub sums_grow : (k n : ℕ) → k + n < length trunk → delay_on i repeater trunk k ≤ delay_on i repeater trunk (k + n)
  sums_grow k zero inside = let same : k + 0 ≡ k = omega arith in omega (arith, ap (delay_on i repeater trunk) same)
  sums_grow k (suc n) inside =
      let next : k + suc n ≡ k + n + 1 = omega arith in
      omega (
        arith,
        ap (delay_on i repeater trunk) next,
        next_sum (k + n) (omega (arith, inside)),
        sums_grow k n (omega (arith, inside)),
      )
