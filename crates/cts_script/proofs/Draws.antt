-- Draws of the generator.
use Rattle.std.proofs.Common.{◌≡◌, List, [], ◌∷◌, ◌++◌, map, ℕ, zero, suc, pos, ◌+◌, ◌*◌, ◌%◌, ◌^◌, subst, ◌<◌, refl, ap, ◌∙◌, sym, arith}
use Rattle.std.proofs.Math.Nat.{div-lt_iff_lt-mul, mul-lt-mul_of_pos_right}
use Rattle.std.specs.Fn.{iterate}
use Rattle.std.specs.List.{range_with_len}
use Rattle.std.proofs.lemmas.List.FromFn.{map-range_with_len_more}
use Rattle.cts_units.specs.declared.params.Sink.{Sink}
use Rattle.cts_script.specs.Generator.{draw, drawn, made_sink, next_state, state_after}

pub drawn_below : (limit state : ℕ) → state < 2 ^ 31 → 0 < limit → drawn limit state < limit
drawn_below limit state h p =
    (div-lt_iff_lt-mul {k = 2 ^ 31} {x = state * limit} {y = limit} (omega arith)).1 (omega (arith, mul-lt-mul_of_pos_right {m = state} {n = 2 ^ 31} {k = limit} h p))

mod_below : (n : ℕ) → n % 2 ^ 31 < 2 ^ 31
mod_below n = omega arith

iterate-more : (f : ℕ → ℕ) (n x m : ℕ) → m ≡ suc n → iterate f m x ≡ f (iterate f n x)
iterate-more f zero x m e = ap (λ k. iterate f k x) e
iterate-more f (suc n) x m e = ap (λ k. iterate f k x) e ∙ iterate-more f n (f x) (suc n) refl

pub state_after-more : (seed n m : ℕ) → m ≡ n + 1 → state_after seed m ≡ next_state (state_after seed n)
unfolding state_after
state_after-more seed n m e = iterate-more next_state n seed m (omega (arith, e))

-- the states of the three draws of a sink
pub three_more : (seed number s t u v : ℕ) → s ≡ state_after seed (3 * number) → t ≡ next_state s → u ≡ next_state t → v ≡ next_state u
    → (t ≡ state_after seed (3 * number + 1)) × (u ≡ state_after seed (3 * number + 1 + 1)) × (v ≡ state_after seed (3 * (number + 1)))
three_more seed number s t u v hs ht hu hv =
    let first : t ≡ state_after seed (3 * number + 1) = ht ∙ ap next_state hs ∙ sym (state_after-more seed (3 * number) (3 * number + 1) refl) in
    let second : u ≡ state_after seed (3 * number + 1 + 1) =
    hu ∙ ap next_state first ∙ sym (state_after-more seed (3 * number + 1) (3 * number + 1 + 1) refl) in (
      first,
      second,
      hv ∙ ap next_state second ∙ sym (state_after-more seed (3 * number + 1 + 1) (3 * (number + 1)) (omega arith)),
    )

pub state_below : (seed n : ℕ) → seed < 2 ^ 31 → state_after seed n < 2 ^ 31
unfolding state_after next_state
state_below seed zero h = h
state_below seed (suc n) h =
    subst (λ s. s < 2 ^ 31) (sym (state_after-more seed n (suc n) (omega arith))) (mod_below (state_after seed n * 1103515245 + 12345))

pub draw_below : (seed number limit : ℕ) → seed < 2 ^ 31 → 0 < limit → draw seed number limit < limit
draw_below seed number limit h p = drawn_below limit (state_after seed (number + 1)) (state_below seed (number + 1) h) p

-- the sink of three draws
pub sink_from_states : (seed number t u v : ℕ)
    → t ≡ state_after seed (3 * number + 1) → u ≡ state_after seed (3 * number + 1 + 1) → v ≡ state_after seed (3 * (number + 1))
    → (x y c : ℕ) → x ≡ drawn 10000001 t → y ≡ drawn 10000001 u → c ≡ drawn 31 v
    → ◌≡◌ {A = Sink} (record { id = number + 1; x = pos x; y = pos y; cap = (20 + c) * 1000000; offset = 0 }) (made_sink seed number)
sink_from_states seed number t u v ht hu hv x y c hx hy hc =
    let ex : x ≡ draw seed (3 * number) 10000001 = hx ∙ ap (drawn 10000001) ht in
    let ey : y ≡ draw seed (3 * number + 1) 10000001 = hy ∙ ap (drawn 10000001) hu in
    let ec : c ≡ draw seed (3 * number + 2) 31 =
    hc ∙ ap (drawn 31) (hv ∙ ap (state_after seed) {x = 3 * (number + 1)} {y = 3 * number + 2 + 1} (omega arith)) in
    ap (λ v. record { id = number + 1; x = pos v; y = pos y; cap = (20 + c) * 1000000; offset = 0 }) ex
    ∙ ap (λ v. record { id = number + 1; x = pos (draw seed (3 * number) 10000001); y = pos v; cap = (20 + c) * 1000000; offset = 0 }) ey
    ∙ ap (λ v. record { id = number + 1; x = pos (draw seed (3 * number) 10000001); y = pos (draw seed (3 * number + 1) 10000001); cap = (20 + v) * 1000000; offset = 0 }) ec

-- one more sink
pub sinks_more : (seed count : ℕ) (old new : List Sink) (sink : Sink) → new ≡ old ++ sink ∷ []
    → old ≡ map (made_sink seed) (range_with_len 0 count) → sink ≡ made_sink seed count
    → new ≡ map (made_sink seed) (range_with_len 0 (count + 1))
sinks_more seed count old new sink pushed before made =
    pushed
    ∙ ap (λ sinks. sinks ++ sink ∷ []) before
    ∙ ap (λ s. map (made_sink seed) (range_with_len 0 count) ++ s ∷ []) made
    ∙ sym (map-range_with_len_more (made_sink seed) 0 count count (omega arith))
