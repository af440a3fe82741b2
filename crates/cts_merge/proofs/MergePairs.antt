-- The least pair over a gap: a snake on the side that is faster even with all of the gap, else a tap of the gap.
use Rattle.std.proofs.Common.{◌≡◌, ℕ, ◌+◌, ◌-◌, ◌<◌, ◌≤◌, inl, inr, refl, ap, arith}
use Rattle.std.proofs.lemmas.Bool.{cases_lt}
use Rattle.std.specs.Int.{abs_diff}
use Rattle.cts_merge.specs.LeastPair.{IsNoLater, IsLeastPair, HasLeastPair, Spans}
use Rattle.cts_merge.specs.Stretch.{IsStretch}
use Rattle.cts_merge.proofs.Rising.{Rises, order, crossing}
use Rattle.cts_merge.proofs.Stretches.{stretch_exists}

-- the first side is no faster without a wire
pub spans_first : (f g : ℕ → ℕ) → Rises f → Rises g → (gap eb : ℕ) → g gap ≤ f 0
    → IsStretch g gap (f 0) eb → IsLeastPair f g (Spans gap) 0 eb
spans_first f g up_f up_g gap eb slow s =
    let near : abs_diff (g eb) (f 0) ≤ abs_diff (g gap) (f 0) = s.nearest gap (omega arith) in
    record {
      admissible = inr (inl (refl, s.reaches));
      no_later = λ u v ok. elim ok [
        | inl line ↦ record {
          by_difference = omega (arith, order f up_f u 0, order g up_g v gap);
          by_total = λ same. omega (
            arith,
            order f up_f u 0,
            order g up_g v gap,
            s.shortest gap (omega arith) (omega (arith, order f up_f u 0, order g up_g v gap)),
          );
          by_length = λ same total. omega arith;
        }
        | inr snakes ↦ elim snakes [
          | inl snake ↦
              let e : f u ≡ f 0 = ap f snake.0 in
              record {
                by_difference = omega (arith, s.nearest v snake.1);
                by_total = λ same. omega (arith, s.shortest v snake.1 (omega arith));
                by_length = λ same total. omega arith;
              }
          | inr snake ↦
              let e : g v ≡ g 0 = ap g snake.0 in
              record {
                by_difference = omega (arith, order f up_f u 0, order g up_g 0 gap);
                by_total = λ same. omega (
                  arith,
                  order f up_f u 0,
                  order g up_g 0 gap,
                  s.shortest gap (omega arith) (omega (arith, order f up_f u 0, order g up_g 0 gap)),
                );
                by_length = λ same total. omega arith;
              }
        ]
      ];
    }

-- the second side is no faster without a wire
pub spans_second : (f g : ℕ → ℕ) → Rises f → Rises g → (gap ea : ℕ) → f gap ≤ g 0
    → IsStretch f gap (g 0) ea → IsLeastPair f g (Spans gap) ea 0
spans_second f g up_f up_g gap ea slow s =
    let near : abs_diff (f ea) (g 0) ≤ abs_diff (f gap) (g 0) = s.nearest gap (omega arith) in
    record {
      admissible = inr (inr (refl, s.reaches));
      no_later = λ u v ok. elim ok [
        | inl line ↦ record {
          by_difference = omega (arith, order g up_g v 0, order f up_f u gap);
          by_total = λ same. omega (
            arith,
            order g up_g v 0,
            order f up_f u gap,
            s.shortest gap (omega arith) (omega (arith, order g up_g v 0, order f up_f u gap)),
          );
          by_length = λ same total. omega (
            arith,
            order g up_g v 0,
            order f up_f u gap,
            s.shortest gap (omega arith) (omega (arith, order g up_g v 0, order f up_f u gap)),
          );
        }
        | inr snakes ↦ elim snakes [
          | inl snake ↦
              let e : f u ≡ f 0 = ap f snake.0 in
              record {
                by_difference = omega (arith, order g up_g v 0, order f up_f 0 gap);
                by_total = λ same. omega (
                  arith,
                  order g up_g v 0,
                  order f up_f 0 gap,
                  s.shortest gap (omega arith) (omega (arith, order g up_g v 0, order f up_f 0 gap)),
                );
                by_length = λ same total. omega (
                  arith,
                  order g up_g v 0,
                  order f up_f 0 gap,
                  s.shortest gap (omega arith) (omega (arith, order g up_g v 0, order f up_f 0 gap)),
                );
              }
          | inr snake ↦
              let e : g v ≡ g 0 = ap g snake.0 in
              record {
                by_difference = omega (arith, s.nearest u snake.1);
                by_total = λ same. omega (arith, s.shortest u snake.1 (omega arith));
                by_length = λ same total. omega arith;
              }
        ]
      ];
    }

-- The place on the gap where the first side passes the second one, and the next place.
pub record Taps (f g : ℕ → ℕ) (gap low : ℕ) (rest : ℕ) : Type 0 where
  pub whole : low + 1 + rest ≡ gap
  pub here : f low ≤ g (rest + 1)
  pub next : g rest < f (low + 1)

-- the order of the whole gap's pairs, of which one is least, extends to the snakes
spans_line : (f g : ℕ → ℕ) → Rises f → Rises g → (gap ea eb : ℕ) → f 0 ≤ g gap → g 0 ≤ f gap → ea + eb ≡ gap
    → ((u v : ℕ) → u + v ≡ gap → IsNoLater (abs_diff (f ea) (g eb)) (ea + eb) ea (abs_diff (f u) (g v)) (u + v) u)
    → IsLeastPair f g (Spans gap) ea eb
spans_line f g up_f up_g gap ea eb fast_f fast_g whole line =
    let left = line 0 gap (omega arith) in
    let right = line gap 0 (omega arith) in
    record {
      admissible = inl whole;
      no_later = λ u v ok. elim ok [
        | inl along ↦ line u v along
        | inr snakes ↦ elim snakes [
          | inl snake ↦
              let e : f u ≡ f 0 = ap f snake.0 in
              record {
                by_difference = omega (arith, order g up_g v gap, left.by_difference);
                by_total = λ same. omega arith;
                by_length = λ same total. omega (
                  arith,
                  order g up_g v gap,
                  left.by_difference,
                  left.by_length (omega (arith, order g up_g v gap, left.by_difference)) (omega arith),
                );
              }
          | inr snake ↦
              let e : g v ≡ g 0 = ap g snake.0 in
              record {
                by_difference = omega (arith, order f up_f u gap, right.by_difference);
                by_total = λ same. omega arith;
                by_length = λ same total. omega arith;
              }
        ]
      ];
    }

-- the place before the crossing, where it is no worse than the next one
pub spans_low : (f g : ℕ → ℕ) → Rises f → Rises g → (gap low rest : ℕ) → f 0 ≤ g gap → g 0 ≤ f gap
    → Taps f g gap low rest → g (rest + 1) - f low ≤ f (low + 1) - g rest → IsLeastPair f g (Spans gap) low (rest + 1)
spans_low f g up_f up_g gap low rest fast_f fast_g t closer =
    spans_line f g up_f up_g gap low (rest + 1) fast_f fast_g (omega (arith, t.whole))
    (λ u v along. record {
      by_difference = omega (arith, t.whole, t.here, t.next, order f up_f u low, order f up_f u (low + 1), order g up_g v rest, order g up_g v (rest + 1));
      by_total = λ same. omega (arith, t.whole);
      by_length = λ same total. omega (arith, t.whole, t.here, t.next, order f up_f u low, order f up_f u (low + 1), order g up_g v rest, order g up_g v (rest + 1));
    })

-- the next place, where it is better
pub spans_high : (f g : ℕ → ℕ) → Rises f → Rises g → (gap low rest : ℕ) → f 0 ≤ g gap → g 0 ≤ f gap
    → Taps f g gap low rest → f (low + 1) - g rest < g (rest + 1) - f low → IsLeastPair f g (Spans gap) (low + 1) rest
spans_high f g up_f up_g gap low rest fast_f fast_g t closer =
    spans_line f g up_f up_g gap (low + 1) rest fast_f fast_g (omega (arith, t.whole))
    (λ u v along. record {
      by_difference = omega (arith, t.whole, t.here, t.next, order f up_f u low, order f up_f u (low + 1), order g up_g v rest, order g up_g v (rest + 1));
      by_total = λ same. omega (arith, t.whole);
      by_length = λ same total. omega (arith, t.whole, t.here, t.next, order f up_f u low, order f up_f u (low + 1), order g up_g v rest, order g up_g v (rest + 1));
    })

pub taps_exist : (f g : ℕ → ℕ) → Rises f → Rises g → (gap : ℕ) → f 0 < g gap → g 0 < f gap
    → (low : ℕ) × (rest : ℕ) × Taps f g gap low rest
taps_exist f g up_f up_g gap fast_f fast_g =
    let along : ℕ → ℕ = λ x. g (gap - x) in
    let start : gap - 0 ≡ gap = omega arith in
    let stop : gap - (0 + gap) ≡ 0 = omega arith in
    let all : 0 + gap ≡ gap = omega arith in
    let r = crossing f along gap 0 (omega (arith, ap g start)) (omega (arith, ap g stop, ap f all)) in
    let here : f r.at ≤ g (gap - r.at) = r.here in
    let next : g (gap - (r.at + 1)) < f (r.at + 1) = r.next in
    let inside : r.at < gap = omega (arith, order f up_f r.at gap, order g up_g (gap - r.at) 0) in
    let rest : gap - r.at ≡ gap - (r.at + 1) + 1 = omega arith in
    (r.at, gap - (r.at + 1), record { whole = omega arith; here = omega (arith, ap g rest); next = next })

pub spans_exists : (f g : ℕ → ℕ) → Rises f → Rises g → (gap : ℕ) → HasLeastPair f g (Spans gap)
spans_exists f g up_f up_g gap =
    elim (cases_lt (f 0) (g gap)) [
      | inr slow ↦
          let s = stretch_exists g up_g gap (f 0) slow in
          record { ea = 0; eb = s.len; least = spans_first f g up_f up_g gap s.len slow s.stretch }
      | inl fast_f ↦ elim (cases_lt (g 0) (f gap)) [
        | inr slow ↦
            let s = stretch_exists f up_f gap (g 0) slow in
            record { ea = s.len; eb = 0; least = spans_second f g up_f up_g gap s.len slow s.stretch }
        | inl fast_g ↦
            let t = taps_exist f g up_f up_g gap fast_f fast_g in
            elim (cases_lt (f (t.0 + 1) - g t.1) (g (t.1 + 1) - f t.0)) [
              | inl closer ↦ record { ea = t.0 + 1; eb = t.1; least = spans_high f g up_f up_g gap t.0 t.1 (omega arith) (omega arith) t.2 closer }
              | inr closer ↦ record { ea = t.0; eb = t.1 + 1; least = spans_low f g up_f up_g gap t.0 t.1 (omega arith) (omega arith) t.2 closer }
            ]
      ]
    ]

-- a tap by its length on the first side
pub taps_at : (f g : ℕ → ℕ) (gap low : ℕ) → low < gap → f low ≤ g (gap - low) → g (gap - (low + 1)) < f (low + 1)
    → Taps f g gap low (gap - (low + 1))
taps_at f g gap low inside here next =
    let rest : gap - low ≡ gap - (low + 1) + 1 = omega arith in
    record { whole = omega arith; here = omega (arith, here, ap g rest); next = next }
