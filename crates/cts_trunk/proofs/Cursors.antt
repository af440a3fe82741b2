-- A cursor on a way: where the rest begins, and the points of its segment.
use Rattle.std.proofs.Common.{◌≡◌, ℕ, suc, ◌+◌, ◌-◌, ◌<◌, ◌≤◌, List, [], ◌∷◌, length, drop, get_or, refl, sym, ap, ◌∙◌, arith, drop-cons, length-drop}
use Rattle.std.specs.Prelude.{if◌then◌else◌}
use Rattle.std.proofs.lemmas.Bool.{lt-ltb, le-ltb}
use Rattle.cts_geom.specs.declared.points.Half.{Half}
use Rattle.cts_geom.specs.Points.{manhattan_of}
use Rattle.cts_tree.specs.Path.{path_length}
use Rattle.cts_trunk.specs.declared.way.Cursor.{Cursor}
use Rattle.cts_trunk.specs.Way.{step_to, point_along}
use Rattle.cts_trunk.specs.Road.{IsCursor}

abbrev pub cursor_at : ℕ → ℕ → Cursor
cursor_at segment begin = record { segment = segment; begin = begin }

pub first_cursor : (points : List Half) → 0 < length points → IsCursor points (cursor_at 0 0)
first_cursor points some = record { inside = some; long = omega arith; ahead = λ d h. let same : d ≡ d - 0 = omega arith in ap (point_along points) same }

length_step : (p q : Half) (rest : List Half) → path_length (p ∷ q ∷ rest) ≡ manhattan_of p q + path_length (q ∷ rest)
unfolding path_length
length_step p q rest = refl

length_none : path_length [] ≡ 0
unfolding path_length
length_none = refl

length_single : (p : Half) → path_length (p ∷ []) ≡ 0
unfolding path_length
length_single p = refl

-- a point of the first segment, and one after it
on_first : (p q : Half) (rest : List Half) (d : ℕ) → d < manhattan_of p q → point_along (p ∷ q ∷ rest) d ≡ step_to p q d
unfolding point_along
on_first p q rest d here =
    ap (λ b. if b then step_to p q d else point_along (q ∷ rest) (d - manhattan_of p q)) (lt-ltb d (manhattan_of p q) here)

after_first : (p q : Half) (rest : List Half) (d : ℕ) → manhattan_of p q ≤ d
    → point_along (p ∷ q ∷ rest) d ≡ point_along (q ∷ rest) (d - manhattan_of p q)
unfolding point_along
after_first p q rest d later =
    ap (λ b. if b then step_to p q d else point_along (q ∷ rest) (d - manhattan_of p q)) (le-ltb d (manhattan_of p q) later)

module _ (points : List Half) (k : ℕ) (e : Half) (inside : k + 1 < length points) where
  abbrev p : Half
  p = get_or points k e

  abbrev q : Half
  q = get_or points (k + 1) e

  abbrev later : List Half
  later = drop (suc (k + 1)) points

  second : drop (k + 1) points ≡ q ∷ later
  second = drop-cons points (k + 1) e inside

  both : drop k points ≡ p ∷ q ∷ later
  both =
      let within : k < length points = omega (arith, inside) in
      let next : suc k ≡ k + 1 = omega arith in
      drop-cons points k e within ∙ ap (λ j. p ∷ drop j points) next ∙ ap (λ l. p ∷ l) second

  module _ (b : ℕ) (is : IsCursor points (cursor_at k b)) where
    -- the cursor one segment further
    pub next_cursor : IsCursor points (cursor_at (k + 1) (b + manhattan_of p q))
    next_cursor = record {
      inside = inside;
      long =
          let here : path_length (drop k points) ≡ manhattan_of p q + path_length (drop (k + 1) points) =
          ap path_length both ∙ length_step p q later ∙ ap (λ l. manhattan_of p q + path_length l) (sym second) in
          omega (arith, is.long, here);
      ahead = λ d h.
          let reach : b ≤ d = omega (arith, h) in
          let far : manhattan_of p q ≤ d - b = omega (arith, h) in
          let same : d - b - manhattan_of p q ≡ d - (b + manhattan_of p q) = omega (arith, h) in
          is.ahead d reach ∙ ap (λ l. point_along l (d - b)) both ∙ after_first p q later (d - b) far
          ∙ ap (λ l. point_along l (d - b - manhattan_of p q)) (sym second)
          ∙ ap (point_along (drop (k + 1) points)) same;
    }

    -- the points of the cursor's segment
    pub on_cursor : (d : ℕ) → b ≤ d → d < b + manhattan_of p q → point_along points d ≡ step_to p q (d - b)
    on_cursor d reach here =
        let near : d - b < manhattan_of p q = omega (arith, reach, here) in
        is.ahead d reach ∙ ap (λ l. point_along l (d - b)) both ∙ on_first p q later (d - b) near

-- at the last point nothing is left of the way
pub at_end : (points : List Half) (k b : ℕ) → IsCursor points (cursor_at k b) → length points ≤ k + 1 → b ≡ path_length points
at_end points k b is last = by_rest (drop k points) refl
  where
    by_rest : (rest : List Half) → drop k points ≡ rest → b ≡ path_length points
    by_rest [] e = omega (arith, is.long, ap path_length e, length_none)
    by_rest (p ∷ []) e = omega (arith, is.long, ap path_length e, length_single p)
    by_rest (p ∷ q ∷ rest) e = absurd (omega (arith, last, ap length e, length-drop k points))
