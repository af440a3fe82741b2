-- Points on segments along the axes: their coordinates, what lies along them, and the parity of their distance.
use Rattle.std.proofs.Common.{◌≡◌, ◌≢◌, ℕ, ◌+◌, ◌-◌, ◌<◌, ◌≤◌, inl, inr, Bool, true, false, nat_lt, ℤ, pos, ◌+ℤ◌, ◌-ℤ◌, ◌*ℤ◌, ◌<ℤ◌, List, [], ◌∷◌, refl, sym, ap, subst, ◌∙◌, arith}
use Rattle.std.specs.Prelude.{if◌then◌else◌}
use Rattle.std.proofs.lemmas.Int.{ints, by_lt_z}
use Rattle.std.proofs.lemmas.Bool.{ltb-true, ltb-false}
use Rattle.cts_geom.specs.declared.points.Half.{Half}
use Rattle.cts_geom.specs.Points.{manhattan_of}
use Rattle.cts_geom.specs.Coordinate.{int_abs_diff}
use Rattle.cts_tree.specs.Path.{path_length, IsAxisStep, HasAxisSteps, IsWithin, IsOnSegment, AllAlong}
use Rattle.cts_trunk.specs.Way.{toward, step_to, point_along}
use Rattle.cts_trunk.specs.Road.{IsEven}

-- which way one coordinate lies from another
pub data Turn (a b : ℤ) : Type 0 where
  up : a <ℤ b → Turn a b
  down : b <ℤ a → Turn a b
  level : a ≡ b → Turn a b

pub turn : (a b : ℤ) → Turn a b
turn a b = by_lt_z a b up (λ ba. by_lt_z b a down (λ ab. level (omega (arith, ints))))

pub toward_up : (a b : ℤ) (d : ℕ) → a <ℤ b → toward a b d ≡ a +ℤ pos d
toward_up a b d h = grind (arith, ints)

pub toward_down : (a b : ℤ) (d : ℕ) → b <ℤ a → toward a b d ≡ a -ℤ pos d
toward_down a b d h = grind (arith, ints)

pub toward_level : (a b : ℤ) (d : ℕ) → a ≡ b → toward a b d ≡ a
toward_level a b d h = grind (arith, ints)

half_same : (a b : Half) → a.x ≡ b.x → a.y ≡ b.y → a ≡ b
half_same a b same_x same_y =
    let with_x : ℤ → Half = λ z. record { x = z; y = a.y } in
    let with_y : ℤ → Half = λ z. record { x = b.x; y = z } in
    ap with_x same_x ∙ ap with_y same_y

within : (a b : ℤ) (d : ℕ) → d ≤ int_abs_diff a b → IsWithin a b (toward a b d)
within a b d short = elim (turn a b) [
  | up h ↦ subst (IsWithin a b) (sym (toward_up a b d h)) (inl (omega (arith, ints, h, short), omega (arith, ints, h, short)))
  | down h ↦ subst (IsWithin a b) (sym (toward_down a b d h)) (inr (omega (arith, ints, h, short), omega (arith, ints, h, short)))
  | level h ↦ subst (IsWithin a b) (sym (toward_level a b d h)) (inl (omega (arith, ints, h), omega (arith, ints, h)))
]

level_within : (a b : ℤ) (d : ℕ) → a ≡ b → IsWithin a b (toward a b d)
level_within a b d h = subst (IsWithin a b) (sym (toward_level a b d h)) (inl (omega (arith, ints, h), omega (arith, ints, h)))

no_diff : (a b : ℤ) → a ≡ b → int_abs_diff a b ≡ 0
no_diff a b h = omega (arith, ints, h)

reach_end : (a b : ℤ) → toward a b (int_abs_diff a b) ≡ b
reach_end a b = elim (turn a b) [
  | up h ↦ toward_up a b (int_abs_diff a b) h ∙ omega (arith, ints, h)
  | down h ↦ toward_down a b (int_abs_diff a b) h ∙ omega (arith, ints, h)
  | level h ↦ toward_level a b (int_abs_diff a b) h ∙ h
]

-- the points of a step lie on its segment
pub on_segment : (p q : Half) (d : ℕ) → IsAxisStep p q → d ≤ manhattan_of p q → IsOnSegment p q (step_to p q d)
on_segment p q d (inl across) short =
    record { x = within p.x q.x d (omega (arith, short, no_diff p.y q.y (across.1))); y = level_within p.y q.y d (across.1) }
on_segment p q d (inr along) short =
    record { x = level_within p.x q.x d (along.0); y = within p.y q.y d (omega (arith, short, no_diff p.x q.x (along.0))) }

-- its last point is its end
pub end_of_step : (p q : Half) → IsAxisStep p q → step_to p q (manhattan_of p q) ≡ q
end_of_step p q (inl across) =
    let long : manhattan_of p q ≡ int_abs_diff p.x q.x = omega (arith, no_diff p.y q.y (across.1)) in
    half_same (step_to p q (manhattan_of p q)) q
    (ap (toward p.x q.x) long ∙ reach_end p.x q.x)
    (toward_level p.y q.y (manhattan_of p q) (across.1) ∙ across.1)
end_of_step p q (inr along) =
    let long : manhattan_of p q ≡ int_abs_diff p.y q.y = omega (arith, no_diff p.x q.x (along.0)) in
    half_same (step_to p q (manhattan_of p q)) q
    (toward_level p.x q.x (manhattan_of p q) (along.0) ∙ along.0)
    (ap (toward p.y q.y) long ∙ reach_end p.y q.y)

-- one coordinate moves by d, and the other stays
moved : (a b y : ℤ) (c d : ℕ) (half : ℤ) → a ≢ b → (a +ℤ y) +ℤ pos c ≡ pos 2 *ℤ half
    → (z : ℤ) × ((toward a b d +ℤ y) +ℤ pos (c + d) ≡ pos 2 *ℤ z)
moved a b y c d half other is = elim (turn a b) [
  | up h ↦ (half +ℤ pos d, omega (arith, ints, is, toward_up a b d h))
  | down h ↦ (half, omega (arith, ints, is, toward_down a b d h))
  | level h ↦ absurd (other h)
]

pub step_even : (p q : Half) (c d : ℕ) → IsAxisStep p q → IsEven p c → IsEven (step_to p q d) (c + d)
step_even p q c d (inl across) even =
    let there = moved p.x q.x p.y c d even.half (across.0) even.is in
    record { half = there.0; is = omega (arith, ints, there.1, toward_level p.y q.y d (across.1)) }
step_even p q c d (inr along) even =
    let here : (p.y +ℤ p.x) +ℤ pos c ≡ pos 2 *ℤ even.half = omega (arith, ints, even.is) in
    let there = moved p.y q.y p.x c d even.half (along.1) here in
    record { half = there.0; is = omega (arith, ints, there.1, toward_level p.x q.x d (along.0)) }

-- what holds of every point of a way holds of the point at a distance
pub along_at : (P : Half → Type 0) (points : List Half) (d : ℕ) → HasAxisSteps points → AllAlong P points → d < path_length points
    → P (point_along points d)
unfolding HasAxisSteps AllAlong path_length point_along
along_at P [] d axes all short = absurd (omega arith)
along_at P (p ∷ []) d axes all short = absurd (omega arith)
along_at P (p ∷ q ∷ points) d axes all short =
    by_test (λ below. along_at P (q ∷ points) (d - manhattan_of p q) (axes.1) (all.1) below) (nat_lt d (manhattan_of p q)) refl
  where
    by_test : (d - manhattan_of p q < path_length (q ∷ points) → P (point_along (q ∷ points) (d - manhattan_of p q))) → (b : Bool) → nat_lt d (manhattan_of p q) ≡ b
        → P (if b then step_to p q d else point_along (q ∷ points) (d - manhattan_of p q))
    by_test later true is = all.0 (step_to p q d) (on_segment p q d (axes.0) (omega (arith, ltb-true d (manhattan_of p q) is)))
    by_test later false is = later (omega (arith, short, ltb-false d (manhattan_of p q) is))

-- and its coordinates and its distance have an even sum
pub even_at : (points : List Half) (p : Half) (c d : ℕ) → HasAxisSteps (p ∷ points) → IsEven p c → d < path_length (p ∷ points)
    → IsEven (point_along (p ∷ points) d) (c + d)
unfolding HasAxisSteps path_length point_along
even_at [] p c d axes even short = absurd (omega arith)
even_at (q ∷ points) p c d axes even short =
    by_test
    (λ next below. even_at points q (c + manhattan_of p q) (d - manhattan_of p q) (axes.1) next below)
    (nat_lt d (manhattan_of p q)) refl
  where
    by_test : (IsEven q (c + manhattan_of p q) → d - manhattan_of p q < path_length (q ∷ points)
        → IsEven (point_along (q ∷ points) (d - manhattan_of p q)) (c + manhattan_of p q + (d - manhattan_of p q))) → (b : Bool) → nat_lt d (manhattan_of p q) ≡ b
        → IsEven (if b then step_to p q d else point_along (q ∷ points) (d - manhattan_of p q)) (c + d)
    by_test rest true is = step_even p q c d (axes.0) even
    by_test rest false is =
        let later : manhattan_of p q ≤ d = ltb-false d (manhattan_of p q) is in
        let next : IsEven q (c + manhattan_of p q) =
        subst (λ r. IsEven r (c + manhattan_of p q)) (end_of_step p q (axes.0)) (step_even p q c (manhattan_of p q) (axes.0) even) in
        let sum : c + manhattan_of p q + (d - manhattan_of p q) ≡ c + d = omega (arith, later) in
        subst (λ n. IsEven (point_along (q ∷ points) (d - manhattan_of p q)) n) sum
        (rest next (omega (arith, short, later)))
