-- The way along x first and then along y is the route where it is clear: the distance to the goal falls along it by the
-- whole of each step, and by less in each direction that comes earlier.
use Rattle.std.proofs.Common.{◌≡◌, ℕ, zero, suc, ◌+◌, ◌<◌, ◌≤◌, ◌⊎◌, inl, inr, ℤ, ◌≤ℤ◌, ◌<ℤ◌, List, ◌∷◌, refl, sym, ap, ◌∙◌, subst, arith}
use Rattle.std.proofs.lemmas.Int.{ints}
use Rattle.cts_geom.specs.declared.points.Half.{Half}
use Rattle.cts_geom.specs.Coordinate.{int_abs_diff}
use Rattle.cts_geom.specs.Points.{manhattan_of}
use Rattle.cts_block.specs.declared.blocks.Block.{Block}
use Rattle.cts_tree.specs.Path.{turns_of}
use Rattle.cts_route.specs.declared.direction.Direction.{Direction}
use Rattle.cts_route.specs.declared.direction.Direction.TheVariants.{East, West, North, South}
use Rattle.cts_route.specs.Grid.{rank, IsAhead, Lines, IsGridPoint, IsClear, IsJoined}
use Rattle.cts_route.proofs.NextLine.{IsNextPoint, next_point}
use Rattle.cts_route.proofs.Potential.{IsPotential, IsFall, Falls}
use Rattle.cts_route.proofs.Segments.{clear_front, clear_back, on_segment}
use Rattle.cts_route.proofs.Turns.{goes_straight, turns_on}
use Rattle.cts_route.proofs.Unique.{ahead-apart}

-- ---- distances
abs_triangle : (a b c : ℤ) → int_abs_diff a c ≤ int_abs_diff a b + int_abs_diff b c
abs_triangle a b c = omega (arith, ints)

abs_between : (a b c : ℤ) → a ≤ℤ b → b ≤ℤ c → int_abs_diff a c ≡ int_abs_diff a b + int_abs_diff b c
abs_between a b c lo hi = omega (arith, ints)

abs_between_down : (a b c : ℤ) → b ≤ℤ a → c ≤ℤ b → int_abs_diff a c ≡ int_abs_diff a b + int_abs_diff b c
abs_between_down a b c hi lo = omega (arith, ints)

abs_same : (a b c : ℤ) → a ≡ b → int_abs_diff a c ≡ int_abs_diff a b + int_abs_diff b c
abs_same a b c e = omega (arith, ints)

abs_off_up : (p m q : ℤ) → q ≤ℤ p → p <ℤ m → int_abs_diff p q < int_abs_diff p m + int_abs_diff m q
abs_off_up p m q h k = omega (arith, ints)

abs_off_down : (p m q : ℤ) → p ≤ℤ q → m <ℤ p → int_abs_diff p q < int_abs_diff p m + int_abs_diff m q
abs_off_down p m q h k = omega (arith, ints)

sum_at_most : (x y x1 y1 x2 y2 : ℕ) → x ≤ x1 + x2 → y ≤ y1 + y2 → x + y ≤ (x1 + y1) + (x2 + y2)
sum_at_most x y x1 y1 x2 y2 h k = omega arith

sum_same : (x y x1 y1 x2 y2 : ℕ) → x ≡ x1 + x2 → y ≡ y1 + y2 → x + y ≡ (x1 + y1) + (x2 + y2)
sum_same x y x1 y1 x2 y2 h k = omega arith

sum_below : (x y x1 y1 x2 y2 : ℕ) → x < x1 + x2 → y ≤ y1 + y2 → x + y < (x1 + y1) + (x2 + y2)
sum_below x y x1 y1 x2 y2 h k = omega arith

sum_below_y : (x y x1 y1 x2 y2 : ℕ) → x ≤ x1 + x2 → y < y1 + y2 → x + y < (x1 + y1) + (x2 + y2)
sum_below_y x y x1 y1 x2 y2 h k = omega arith

pub triangle : (p n q : Half) → manhattan_of p q ≤ manhattan_of p n + manhattan_of n q
triangle p n q = sum_at_most _ _ _ _ _ _ (abs_triangle p.x n.x q.x) (abs_triangle p.y n.y q.y)

pub manhattan-same : (p q : Half) → p ≡ q → manhattan_of p q ≡ 0
manhattan-same p q e =
    let x : p.x ≡ q.x = ap (λ (r : Half). r.x) e in
    let y : p.y ≡ q.y = ap (λ (r : Half). r.y) e in
    omega (arith, ints)

abbrev pub Anywhere : Half → Type 0
Anywhere p = Unit {0}

-- how far a point is from the goal
abbrev pub away : Half → Half → ℕ
away q p = manhattan_of p q

pub away_potential : (blocks : List Block) (lines : Lines) (q : Half) → IsPotential (IsJoined blocks lines) Anywhere (away q) q
away_potential blocks lines q =
    record { reached = tt; zero_there = manhattan-same q q refl; back = λ d p n joined there. (tt, triangle p n q) }

-- the end t of a leg in this direction lies where the goal is, seen along the leg; the leg along y ends at the goal
unfoldable pub Toward : Direction → Half → Half → Type 0
Toward East t q = t.x ≡ q.x
Toward West t q = t.x ≡ q.x
Toward North t q = (t.x ≡ q.x) × (t.y ≡ q.y)
Toward South t q = (t.x ≡ q.x) × (t.y ≡ q.y)

-- a step along the leg falls by its whole length
whole_along : (d : Direction) (p n t q : Half) → IsAhead d p n → (n.x ≡ t.x) × (n.y ≡ t.y) ⊎ IsAhead d n t → Toward d t q
    → manhattan_of p q ≡ manhattan_of p n + manhattan_of n q
unfolding Toward
whole_along East p n t q ahead (inl on) to =
    sum_same _ _ _ _ _ _ (abs_between p.x n.x q.x (omega (arith, ints)) (let e : n.x ≡ t.x = on.0 in omega (arith, ints))) (abs_same p.y n.y q.y ahead.1)
whole_along East p n t q ahead (inr on) to =
    sum_same _ _ _ _ _ _ (abs_between p.x n.x q.x (omega (arith, ints)) (omega (arith, ints))) (abs_same p.y n.y q.y ahead.1)
whole_along West p n t q ahead (inl on) to =
    sum_same _ _ _ _ _ _ (abs_between_down p.x n.x q.x (omega (arith, ints)) (let e : n.x ≡ t.x = on.0 in omega (arith, ints))) (abs_same p.y n.y q.y ahead.1)
whole_along West p n t q ahead (inr on) to =
    sum_same _ _ _ _ _ _ (abs_between_down p.x n.x q.x (omega (arith, ints)) (omega (arith, ints))) (abs_same p.y n.y q.y ahead.1)
whole_along North p n t q ahead (inl on) to =
    sum_same _ _ _ _ _ _ (abs_same p.x n.x q.x ahead.0) (abs_between p.y n.y q.y (omega (arith, ints)) (let e : n.y ≡ t.y = on.1 in omega (arith, ints)))
whole_along North p n t q ahead (inr on) to =
    sum_same _ _ _ _ _ _ (abs_same p.x n.x q.x ahead.0) (abs_between p.y n.y q.y (omega (arith, ints)) (omega (arith, ints)))
whole_along South p n t q ahead (inl on) to =
    sum_same _ _ _ _ _ _ (abs_same p.x n.x q.x ahead.0) (abs_between_down p.y n.y q.y (omega (arith, ints)) (let e : n.y ≡ t.y = on.1 in omega (arith, ints)))
whole_along South p n t q ahead (inr on) to =
    sum_same _ _ _ _ _ _ (abs_same p.x n.x q.x ahead.0) (abs_between_down p.y n.y q.y (omega (arith, ints)) (omega (arith, ints)))

whole_along_self : (d : Direction) (p n t : Half) → IsAhead d p n → IsAhead d n t → manhattan_of p t ≡ manhattan_of p n + manhattan_of n t
unfolding Toward
whole_along_self East p n t ahead on = whole_along East p n t t ahead (inr on) refl
whole_along_self West p n t ahead on = whole_along West p n t t ahead (inr on) refl
whole_along_self North p n t ahead on = whole_along North p n t t ahead (inr on) (refl, refl)
whole_along_self South p n t ahead on = whole_along South p n t t ahead (inr on) (refl, refl)

-- each earlier direction leads off
off_along : (d other : Direction) (p m t q : Half) → rank other < rank d → IsAhead d p t → Toward d t q → IsAhead other p m
    → manhattan_of p q < manhattan_of p m + manhattan_of m q
unfolding Toward
off_along West East p m t q before ahead to other =
    sum_below _ _ _ _ _ _ (abs_off_up p.x m.x q.x (omega (arith, ints)) other.0) (abs_triangle p.y m.y q.y)
off_along North East p m t q before ahead to other =
    sum_below _ _ _ _ _ _ (abs_off_up p.x m.x q.x (omega (arith, ints)) other.0) (abs_triangle p.y m.y q.y)
off_along North West p m t q before ahead to other =
    sum_below _ _ _ _ _ _ (abs_off_down p.x m.x q.x (omega (arith, ints)) other.0) (abs_triangle p.y m.y q.y)
off_along South East p m t q before ahead to other =
    sum_below _ _ _ _ _ _ (abs_off_up p.x m.x q.x (omega (arith, ints)) other.0) (abs_triangle p.y m.y q.y)
off_along South West p m t q before ahead to other =
    sum_below _ _ _ _ _ _ (abs_off_down p.x m.x q.x (omega (arith, ints)) other.0) (abs_triangle p.y m.y q.y)
off_along South North p m t q before ahead to other =
    sum_below_y _ _ _ _ _ _ (abs_triangle p.x m.x q.x) (abs_off_up p.y m.y q.y (omega (arith, ints)) other.1)
off_along East East p m t q before ahead to other = absurd (omega arith)
off_along East West p m t q before ahead to other = absurd (omega arith)
off_along East North p m t q before ahead to other = absurd (omega arith)
off_along East South p m t q before ahead to other = absurd (omega arith)
off_along West West p m t q before ahead to other = absurd (omega arith)
off_along West North p m t q before ahead to other = absurd (omega arith)
off_along West South p m t q before ahead to other = absurd (omega arith)
off_along North North p m t q before ahead to other = absurd (omega arith)
off_along North South p m t q before ahead to other = absurd (omega arith)
off_along South South p m t q before ahead to other = absurd (omega arith)

parts_of_same : (d : Direction) (n t : Half) → (n ≡ t) ⊎ IsAhead d n t → (n.x ≡ t.x) × (n.y ≡ t.y) ⊎ IsAhead d n t
parts_of_same d n t (inl e) = inl (ap (λ (r : Half). r.x) e, ap (λ (r : Half). r.y) e)
parts_of_same d n t (inr on) = inr on

-- the way from p straight on to the end of a leg and then to the goal, with its turns
pub record Leg (blocks : List Block) (lines : Lines) (d : Direction) (p q : Half) (turns : List Half) : Type 0 where
  pub next : Half
  pub rest : List Half
  pub ahead : IsAhead d p next
  pub falls : Falls (IsJoined blocks lines) Anywhere (away q) p (next ∷ rest) q
  pub turns_are : turns_of (p ∷ next ∷ rest) ≡ turns

nearer : (a b c l : ℕ) → a ≡ b + c → 0 < b → a < suc l → c < l
nearer a b c l e pos bound = omega arith

step_along : (blocks : List Block) (lines : Lines) (d : Direction) (p t q n : Half) → IsGridPoint lines p → IsAhead d p t
    → Toward d t q → IsClear blocks p t → IsNextPoint lines d p t n → IsFall (IsJoined blocks lines) Anywhere (away q) p n
step_along blocks lines d p t q n start ahead to clear step =
    record {
      direction = d;
      joined = record {
        start = start;
        next = step.next;
        ahead = step.ahead;
        nearest = step.nearest;
        clear = clear_front blocks p t n (on_segment d p t n step.ahead step.up_to) clear;
      };
      whole = whole_along d p n t q step.ahead (parts_of_same d n t step.up_to) to;
      first = λ other m before joined there. off_along d other p m t q before ahead to joined.ahead;
    }

pub leg : (fuel : ℕ) (blocks : List Block) (lines : Lines) (d : Direction) (p t q : Half) (rest turns : List Half)
    → manhattan_of p t < fuel → IsGridPoint lines p → IsGridPoint lines t → IsAhead d p t → Toward d t q → IsClear blocks p t
    → Falls (IsJoined blocks lines) Anywhere (away q) t rest q
    → ((r : Half) → IsAhead d r t → turns_of (r ∷ t ∷ rest) ≡ turns)
    → Leg blocks lines d p q turns
unfolding Falls
leg zero blocks lines d p t q rest turns bound start goal ahead to clear falls arrive = absurd (omega arith)
leg (suc fuel) blocks lines d p t q rest turns bound start goal ahead to clear falls arrive =
    let found : (n : Half) × IsNextPoint lines d p t n = next_point lines d p t start goal ahead in
    let n : Half = found.0 in
    let step : IsNextPoint lines d p t n = found.1 in
    let fall : IsFall (IsJoined blocks lines) Anywhere (away q) p n = step_along blocks lines d p t q n start ahead to clear step in
    elim step.up_to [
      | inl same ↦ record {
        next = n;
        rest = rest;
        ahead = step.ahead;
        falls = (fall, subst (λ (x : Half). Falls (IsJoined blocks lines) Anywhere (away q) x rest q) (sym same) falls);
        turns_are = ap (λ (x : Half). turns_of (p ∷ x ∷ rest)) same ∙ arrive p ahead;
      }
      | inr on ↦
          let apart : 0 < manhattan_of p n = ahead-apart d p n step.ahead in
          let split : manhattan_of p t ≡ manhattan_of p n + manhattan_of n t = whole_along_self d p n t step.ahead on in
          let later : Leg blocks lines d n q turns =
          leg fuel blocks lines d n t q rest turns (nearer _ _ _ _ split apart bound) step.next goal on to
          (clear_back blocks p t n (on_segment d p t n step.ahead (inr on)) clear) falls arrive in
          record {
            next = n;
            rest = later.next ∷ later.rest;
            ahead = step.ahead;
            falls = (fall, later.falls);
            turns_are = turns_on p n later.next later.rest (goes_straight d p n later.next step.ahead later.ahead) ∙ later.turns_are;
          }
    ]
