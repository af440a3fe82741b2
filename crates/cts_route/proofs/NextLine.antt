-- The next line after a coordinate, on the way to another line, and the next grid point after a point.
use Rattle.std.proofs.Common.{◌≡◌, zero, suc, ◌⊎◌, inl, inr, ℤ, ◌≤ℤ◌, ◌<ℤ◌, List, [], ◌∷◌, refl, subst, arith}
use Rattle.std.specs.List.{Contains}
use Rattle.std.proofs.lemmas.Int.{ints, by_lt_z}
use Rattle.cts_geom.specs.declared.points.Half.{Half}
use Rattle.cts_geom.proofs.PointLemmas.{half_same}
use Rattle.cts_route.specs.declared.direction.Direction.{Direction}
use Rattle.cts_route.specs.declared.direction.Direction.TheVariants.{East, West, North, South}
use Rattle.cts_route.specs.Grid.{IsAhead, Lines, IsGridPoint}

pub Contains-cases : {X : Type 0} (x : X) (xs : List X) (c : X) → Contains (x ∷ xs) c → (x ≡ c) ⊎ Contains xs c
Contains-cases x xs c (zero, lt, at) = inl at
Contains-cases x xs c (suc k, lt, at) = inr (k, omega arith, at)

pub Contains-first : {X : Type 0} (x : X) (xs : List X) → Contains (x ∷ xs) x
Contains-first x xs = (0, omega arith, refl)

pub Contains-later : {X : Type 0} (x : X) (xs : List X) (c : X) → Contains xs c → Contains (x ∷ xs) c
Contains-later x xs c (k, lt, at) = (suc k, omega arith, at)

-- the least of the lines above a and up to b, or b itself
pub record IsNextAbove (lines : List ℤ) (a b line : ℤ) : Type 0 where
  pub above : a <ℤ line
  pub up_to : line ≤ℤ b
  pub among : (b ≡ line) ⊎ Contains lines line
  pub nearest : (c : ℤ) → Contains lines c → a <ℤ c → c <ℤ line → ⊥

pub next_above : (lines : List ℤ) (a b : ℤ) → a <ℤ b → (line : ℤ) × IsNextAbove lines a b line
next_above [] a b less =
    (b, record { above = less; up_to = omega (arith, ints); among = inl refl; nearest = λ c (k, lt, at) _ _. absurd (omega arith) })
next_above (x ∷ lines) a b less =
    let r : (line : ℤ) × IsNextAbove lines a b line = next_above lines a b less in
    let P : Type 0 = (line : ℤ) × IsNextAbove (x ∷ lines) a b line in
    let kept : ((c : ℤ) → x ≡ c → a <ℤ c → c <ℤ r.0 → ⊥) → P = λ first. (
      r.0,
      record {
        above = r.1.above;
        up_to = r.1.up_to;
        among = elim r.1.among [ inl e ↦ inl e | inr there ↦ inr (Contains-later x lines r.0 there) ];
        nearest = λ c there lo hi. elim (Contains-cases x lines c there) [ inl e ↦ first c e lo hi | inr later ↦ r.1.nearest c later lo hi ];
      },
    ) in
    by_lt_z {P = P} a x
    (λ above. by_lt_z {P = P} x r.0
    (λ below. (
      x,
      record {
        above = above;
        up_to = let le : r.0 ≤ℤ b = r.1.up_to in omega (arith, ints);
        among = inr (Contains-first x lines);
        nearest = λ c there lo hi. elim (Contains-cases x lines c there) [
          | inl e ↦ absurd (omega (arith, ints))
          | inr later ↦ r.1.nearest c later lo (omega (arith, ints))
        ];
      },
    ))
    (λ past. kept (λ c e lo hi. absurd (omega (arith, ints)))))
    (λ below. kept (λ c e lo hi. absurd (omega (arith, ints))))

-- the greatest of the lines below a and down to b, or b itself
pub record IsNextBelow (lines : List ℤ) (a b line : ℤ) : Type 0 where
  pub below : line <ℤ a
  pub down_to : b ≤ℤ line
  pub among : (b ≡ line) ⊎ Contains lines line
  pub nearest : (c : ℤ) → Contains lines c → c <ℤ a → line <ℤ c → ⊥

pub next_below : (lines : List ℤ) (a b : ℤ) → b <ℤ a → (line : ℤ) × IsNextBelow lines a b line
next_below [] a b less =
    (b, record { below = less; down_to = omega (arith, ints); among = inl refl; nearest = λ c (k, lt, at) _ _. absurd (omega arith) })
next_below (x ∷ lines) a b less =
    let r : (line : ℤ) × IsNextBelow lines a b line = next_below lines a b less in
    let P : Type 0 = (line : ℤ) × IsNextBelow (x ∷ lines) a b line in
    let kept : ((c : ℤ) → x ≡ c → c <ℤ a → r.0 <ℤ c → ⊥) → P = λ first. (
      r.0,
      record {
        below = r.1.below;
        down_to = r.1.down_to;
        among = elim r.1.among [ inl e ↦ inl e | inr there ↦ inr (Contains-later x lines r.0 there) ];
        nearest = λ c there hi lo. elim (Contains-cases x lines c there) [ inl e ↦ first c e hi lo | inr later ↦ r.1.nearest c later hi lo ];
      },
    ) in
    by_lt_z {P = P} x a
    (λ below. by_lt_z {P = P} r.0 x
    (λ above. (
      x,
      record {
        below = below;
        down_to = let le : b ≤ℤ r.0 = r.1.down_to in omega (arith, ints);
        among = inr (Contains-first x lines);
        nearest = λ c there hi lo. elim (Contains-cases x lines c there) [
          | inl e ↦ absurd (omega (arith, ints))
          | inr later ↦ r.1.nearest c later hi (omega (arith, ints))
        ];
      },
    ))
    (λ past. kept (λ c e hi lo. absurd (omega (arith, ints)))))
    (λ above. kept (λ c e hi lo. absurd (omega (arith, ints))))

-- the next grid point after p, on the way to t straight ahead of it
pub record IsNextPoint (lines : Lines) (direction : Direction) (p t n : Half) : Type 0 where
  pub next : IsGridPoint lines n
  pub ahead : IsAhead direction p n
  pub nearest : (r : Half) → IsGridPoint lines r → IsAhead direction p r → IsAhead direction r n → ⊥
  pub up_to : (n ≡ t) ⊎ IsAhead direction n t

line_there : (lines : List ℤ) (b line : ℤ) → Contains lines b → (b ≡ line) ⊎ Contains lines line → Contains lines line
line_there lines b line there (inl e) = subst (λ (c : ℤ). Contains lines c) e there
line_there lines b line there (inr h) = h

pub next_point : (lines : Lines) (direction : Direction) (p t : Half) → IsGridPoint lines p → IsGridPoint lines t
    → IsAhead direction p t → (n : Half) × IsNextPoint lines direction p t n
next_point lines East p t start goal ahead =
    let line : (x : ℤ) × IsNextAbove lines.xs p.x t.x x = next_above lines.xs p.x t.x ahead.0 in
    let n : Half = record { x = line.0; y = p.y } in (
      n,
      record {
        next = record { x = line_there lines.xs t.x line.0 goal.x line.1.among; y = start.y };
        ahead = (line.1.above, refl);
        nearest = λ r there after before. line.1.nearest r.x there.x after.0 before.0;
        up_to = let le : line.0 ≤ℤ t.x = line.1.up_to in
            by_lt_z {P = (n ≡ t) ⊎ IsAhead East n t} line.0 t.x (λ lt. inr (lt, ahead.1)) (λ ge. inl (half_same n t (omega (arith, ints)) ahead.1));
      },
    )
next_point lines West p t start goal ahead =
    let line : (x : ℤ) × IsNextBelow lines.xs p.x t.x x = next_below lines.xs p.x t.x ahead.0 in
    let n : Half = record { x = line.0; y = p.y } in (
      n,
      record {
        next = record { x = line_there lines.xs t.x line.0 goal.x line.1.among; y = start.y };
        ahead = (line.1.below, refl);
        nearest = λ r there after before. line.1.nearest r.x there.x after.0 before.0;
        up_to = let le : t.x ≤ℤ line.0 = line.1.down_to in
            by_lt_z {P = (n ≡ t) ⊎ IsAhead West n t} t.x line.0 (λ lt. inr (lt, ahead.1)) (λ ge. inl (half_same n t (omega (arith, ints)) ahead.1));
      },
    )
next_point lines North p t start goal ahead =
    let line : (y : ℤ) × IsNextAbove lines.ys p.y t.y y = next_above lines.ys p.y t.y ahead.1 in
    let n : Half = record { x = p.x; y = line.0 } in (
      n,
      record {
        next = record { x = start.x; y = line_there lines.ys t.y line.0 goal.y line.1.among };
        ahead = (refl, line.1.above);
        nearest = λ r there after before. line.1.nearest r.y there.y after.1 before.1;
        up_to = let le : line.0 ≤ℤ t.y = line.1.up_to in
            by_lt_z {P = (n ≡ t) ⊎ IsAhead North n t} line.0 t.y (λ lt. inr (ahead.0, lt)) (λ ge. inl (half_same n t ahead.0 (omega (arith, ints))));
      },
    )
next_point lines South p t start goal ahead =
    let line : (y : ℤ) × IsNextBelow lines.ys p.y t.y y = next_below lines.ys p.y t.y ahead.1 in
    let n : Half = record { x = p.x; y = line.0 } in (
      n,
      record {
        next = record { x = start.x; y = line_there lines.ys t.y line.0 goal.y line.1.among };
        ahead = (refl, line.1.below);
        nearest = λ r there after before. line.1.nearest r.y there.y after.1 before.1;
        up_to = let le : t.y ≤ℤ line.0 = line.1.down_to in
            by_lt_z {P = (n ≡ t) ⊎ IsAhead South n t} t.y line.0 (λ lt. inr (ahead.0, lt)) (λ ge. inl (half_same n t ahead.0 (omega (arith, ints))));
      },
    )
