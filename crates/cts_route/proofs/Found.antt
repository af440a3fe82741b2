-- What a search in a window of a grid found: where no shorter path leaves the window, the way down from a point is the route
-- of the whole grid, and where no point with a label leads out, a point without a label is cut off.
use Rattle.std.proofs.Common.{◌≡◌, ℕ, zero, suc, ◌+◌, ◌-◌, ◌*◌, ◌/◌, ◌%◌, ◌^◌, ◌<◌, ◌≤◌, min, Bool, true, false, cond, inl, inr, ℤ, ◌≤ℤ◌, pos, ◌+ℤ◌, ◌-ℤ◌, ◌*ℤ◌, List, [], ◌∷◌, map, length, slice_index, refl, sym, ap, ◌∙◌, subst, arith}
use Rattle.std.specs.Prelude.{int_lt}
use Rattle.std.proofs.Math.Nat.{min-le_left, min-le_right, le-min, min-eq_left}
use Rattle.std.proofs.lemmas.Int.{ints, by_lt_z}
use Rattle.cts_geom.specs.declared.bounds.Die.{Die}
use Rattle.cts_geom.specs.declared.points.Half.{Half}
use Rattle.cts_geom.specs.declared.points.Spot.{Spot}
use Rattle.cts_geom.specs.Coordinate.{int_abs_diff}
use Rattle.cts_geom.specs.Points.{manhattan_of, point_of}
use Rattle.cts_block.specs.declared.blocks.Block.{Block}
use Rattle.cts_tree.specs.declared.route.Route.{Route}
use Rattle.cts_tree.specs.Path.{path_length, turns_of}
use Rattle.cts_route.specs.declared.direction.Direction.{Direction}
use Rattle.cts_route.specs.declared.graph.Graph.{Graph}
use Rattle.cts_route.specs.declared.wall.Wall.{Wall}
use Rattle.cts_route.specs.Grid.{Lines, lines_of, IsJoined}
use Rattle.cts_route.specs.LineLists.{line_at, IsAscending}
use Rattle.cts_route.specs.Routes.{IsPath, IsShortest, IsRoute, IsCut}
use Rattle.cts_route.specs.Search.{IsStep, IsFirstFall, IsSettledFrom, IsSettled}
use Rattle.cts_route.specs.Walks.{GoesDown}
use Rattle.cts_route.specs.Windows.{point_at, Stands}
use Rattle.std.specs.List.{Contains}
use Rattle.cts_route.proofs.AlongX.{triangle, manhattan-same}
use Rattle.cts_route.proofs.Insertions.{contains_at}
use Rattle.cts_route.proofs.NextLine.{Contains-cases, Contains-first, Contains-later}
use Rattle.cts_route.proofs.Cells.{cell_parts, column_inside, row_inside}
use Rattle.cts_route.proofs.Falls.{at_most_by_step}
use Rattle.cts_route.proofs.Labels.{sum_short, step_short, step_inside}
use Rattle.cts_route.proofs.Potential.{path_length-one, path_length-step, IsPotential, IsFall, Falls, height_below, length_of_falls, shortest_from_falls, first_steps_from_falls}
use Rattle.cts_route.proofs.Searches.{IsSearch, stands_on, stands-x, stands-y, step_joined, joined_step}
use Rattle.cts_route.proofs.Steps.{graph_is}
use Rattle.cts_route.proofs.Turns.{int_lt-true, int_lt-false}
use Rattle.cts_route.proofs.Unique.{by_order}

-- ---- the number of a point, by its coordinates
-- how many lines are below a coordinate
number : List ℤ → ℤ → ℕ
number [] c = 0
number (x ∷ lines) c = cond (int_lt x c) (suc (number lines c)) 0

ascending-tail : (x : ℤ) (lines : List ℤ) → IsAscending (x ∷ lines) → IsAscending lines
ascending-tail x lines asc = record { below = λ i j lt inside. asc.below (suc i) (suc j) (omega arith) (omega arith) }

number-line_at : (lines : List ℤ) (i : ℕ) → IsAscending lines → i < length lines → number lines (line_at lines i) ≡ i
unfolding number
number-line_at [] i asc inside = absurd (omega arith)
number-line_at (x ∷ lines) zero asc inside =
    ap (λ (b : Bool). cond b (suc (number lines x)) 0) (int_lt-false x x (omega (arith, ints)))
number-line_at (x ∷ lines) (suc i) asc inside =
    ap (λ (b : Bool). cond b (suc (number lines (line_at lines i))) 0) (int_lt-true x (line_at lines i) (asc.below zero (suc i) (omega arith) inside))
    ∙ ap suc (number-line_at lines i (ascending-tail x lines asc) (omega arith))

-- whether a coordinate is among the lines
has : List ℤ → ℤ → Bool
has [] c = false
has (x ∷ lines) c = cond (int_lt x c) (has lines c) (cond (int_lt c x) (has lines c) true)

-- the label of a point of the window, and that of no path for all other points
label_at : List ℤ → List ℤ → List ℕ → Half → ℕ
label_at xs ys labels p = cond (has xs p.x) (cond (has ys p.y) (slice_index labels (number xs p.x * length ys + number ys p.y)) (2 ^ 64 - 1)) (2 ^ 64 - 1)

has-first : (x c : ℤ) (lines : List ℤ) → x ≡ c → has (x ∷ lines) c ≡ true
unfolding has
has-first x c lines e =
    ap (λ (b : Bool). cond b (has lines c) (cond (int_lt c x) (has lines c) true)) (int_lt-false x c (omega (arith, ints)))
    ∙ ap (λ (b : Bool). cond b (has lines c) true) (int_lt-false c x (omega (arith, ints)))

has-other : (x c : ℤ) (lines : List ℤ) → (has lines c ≡ true → has (x ∷ lines) c ≡ true)
unfolding has
has-other x c lines e =
    by_lt_z {P = has (x ∷ lines) c ≡ true} x c
    (λ lt. ap (λ (b : Bool). cond b (has lines c) (cond (int_lt c x) (has lines c) true)) (int_lt-true x c lt) ∙ e)
    (λ ge. ap (λ (b : Bool). cond b (has lines c) (cond (int_lt c x) (has lines c) true)) (int_lt-false x c ge) ∙ by_lt_z {P = cond (int_lt c x) (has lines c) true ≡ true} c x
    (λ lt. ap (λ (b : Bool). cond b (has lines c) true) (int_lt-true c x lt) ∙ e)
    (λ ge'. ap (λ (b : Bool). cond b (has lines c) true) (int_lt-false c x ge')))

has-true : (lines : List ℤ) (c : ℤ) → Contains lines c → has lines c ≡ true
has-true [] c (k, lt, at) = absurd (omega arith)
has-true (x ∷ lines) c there =
    elim (Contains-cases x lines c there) [ inl e ↦ has-first x c lines e | inr later ↦ has-other x c lines (has-true lines c later) ]

from_has : (lines : List ℤ) (c : ℤ) → has lines c ≡ true → Contains lines c
unfolding has
from_has [] c e = cc
from_has (x ∷ lines) c e =
    by_lt_z {P = Contains (x ∷ lines) c} x c
    (λ lt. Contains-later x lines c (from_has lines c
    (sym (ap (λ (b : Bool). cond b (has lines c) (cond (int_lt c x) (has lines c) true)) (int_lt-true x c lt)) ∙ e)))
    (λ ge. by_lt_z {P = Contains (x ∷ lines) c} c x
    (λ lt. Contains-later x lines c (from_has lines c
    (sym (ap (λ (b : Bool). cond b (has lines c) true) (int_lt-true c x lt)) ∙ sym (ap (λ (b : Bool). cond b (has lines c) (cond (int_lt c x) (has lines c) true)) (int_lt-false x c ge)) ∙ e)))
    (λ ge'. subst (λ (z : ℤ). Contains (x ∷ lines) z) (same x c ge ge') (Contains-first x lines)))
  where
    same : (a b : ℤ) → b ≤ℤ a → a ≤ℤ b → a ≡ b
    same a b h k = omega (arith, ints)

by_bool : {P : Type 0} (b : Bool) → (b ≡ true → P) → (b ≡ false → P) → P
by_bool true when_true when_false = when_true refl
by_bool false when_true when_false = when_false refl

stands-has : (xs ys : List ℤ) (p : Half) (c : ℕ) → Stands xs ys p c → (has xs p.x ≡ true) × (has ys p.y ≡ true)
stands-has xs ys p c stands =
    let inside = column_inside c (length xs) (length ys) stands.inside in (
      has-true xs p.x (subst (λ (z : ℤ). Contains xs z) (stands-x xs ys p c stands) (contains_at xs (c / length ys) inside.1)),
      has-true ys p.y (subst (λ (z : ℤ). Contains ys z) (stands-y xs ys p c stands) (contains_at ys (c % length ys) (row_inside c (length xs) (length ys) stands.inside))),
    )

-- a point of the window, or none
by_stands : {P : Type 0} (xs ys : List ℤ) (p : Half) → ((c : ℕ) → Stands xs ys p c → P) → (((c : ℕ) → Stands xs ys p c → ⊥) → P) → P
by_stands {P = P} xs ys p on off =
    by_bool (has xs p.x)
    (λ x. by_bool (has ys p.y)
    (λ y. let at = stands_on xs ys p (from_has xs p.x x) (from_has ys p.y y) in on at.0 at.1)
    (λ y. off (λ c stands. let e = (stands-has xs ys p c stands).1 in cc)))
    (λ x. off (λ c stands. let e = (stands-has xs ys p c stands).0 in cc))

label_at-off : (xs ys : List ℤ) (labels : List ℕ) (p : Half) → ((c : ℕ) → Stands xs ys p c → ⊥) → label_at xs ys labels p ≡ 2 ^ 64 - 1
unfolding label_at
label_at-off xs ys labels p off =
    let label : ℕ = slice_index labels (number xs p.x * length ys + number ys p.y) in
    by_bool (has xs p.x)
    (λ x. by_bool (has ys p.y)
    (λ y. let at = stands_on xs ys p (from_has xs p.x x) (from_has ys p.y y) in absurd (off at.0 at.1))
    (λ y. ap (λ (b : Bool). cond b (cond (has ys p.y) label (2 ^ 64 - 1)) (2 ^ 64 - 1)) x ∙ ap (λ (b : Bool). cond b label (2 ^ 64 - 1)) y))
    (λ x. ap (λ (b : Bool). cond b (cond (has ys p.y) label (2 ^ 64 - 1)) (2 ^ 64 - 1)) x)

label_at-is : (xs ys : List ℤ) (labels : List ℕ) (p : Half) (c : ℕ) → IsAscending xs → IsAscending ys → Stands xs ys p c
    → label_at xs ys labels p ≡ slice_index labels c
unfolding label_at
label_at-is xs ys labels p c asc_x asc_y stands =
    let h : ℕ = length ys in
    let inside = column_inside c (length xs) h stands.inside in
    let on = stands-has xs ys p c stands in
    let label : ℕ = slice_index labels (number xs p.x * h + number ys p.y) in
    let x : number xs p.x ≡ c / h = ap (λ (z : ℤ). number xs z) (sym (stands-x xs ys p c stands)) ∙ number-line_at xs (c / h) asc_x inside.1 in
    let y : number ys p.y ≡ c % h =
    ap (λ (z : ℤ). number ys z) (sym (stands-y xs ys p c stands)) ∙ number-line_at ys (c % h) asc_y (row_inside c (length xs) h stands.inside) in
    ap (λ (b : Bool). cond b (cond (has ys p.y) label (2 ^ 64 - 1)) (2 ^ 64 - 1)) on.0
    ∙ ap (λ (b : Bool). cond b label (2 ^ 64 - 1)) on.1
    ∙ ap (λ (k : ℕ). slice_index labels (k * h + number ys p.y)) x
    ∙ ap (λ (k : ℕ). slice_index labels ((c / h) * h + k)) y
    ∙ ap (λ (k : ℕ). slice_index labels k) (sym (cell_parts c h inside.0).0)

-- ---- the labels bound the lengths of paths from below
-- no point with a label is joined to one outside the window
pub record IsSealed (blocks : List Block) (lines : Lines) (xs ys : List ℤ) (labels : List ℕ) : Type 0 where
  pub sealed : (d : Direction) (p n : Half) → IsJoined blocks lines d p n → ((c : ℕ) → Stands xs ys p c → ⊥)
      → (c : ℕ) → Stands xs ys n c → slice_index labels c < 2 ^ 64 - 1 → ⊥

HasLabel : List ℤ → List ℤ → List ℕ → Half → Type 0
HasLabel xs ys labels p = label_at xs ys labels p < 2 ^ 64 - 1

at_most_sum : (a b w la lb : ℕ) → la ≡ a → lb ≡ b → a ≤ b + w → la ≤ w + lb
at_most_sum a b w la lb e f le = omega arith

label_potential : (blocks : List Block) (lines : Lines) (walls : List Wall) (xs ys : List ℤ) (graph : Graph) (goal : ℕ) (labels : List ℕ) (q : Half)
    → IsSearch blocks lines walls xs ys graph goal labels → IsSealed blocks lines xs ys labels → ((c : ℕ) → c < length labels → slice_index labels c < 2 ^ 64 - 1 → IsSettledFrom graph labels c)
    → Stands xs ys q goal → IsPotential (IsJoined blocks lines) (HasLabel xs ys labels) (label_at xs ys labels) q
unfolding HasLabel
label_potential blocks lines walls xs ys graph goal labels q search sealed settled at_goal =
    let asc_x : IsAscending xs = search.short_x.ascending in
    let asc_y : IsAscending ys = search.short_y.ascending in
    let zero_there : label_at xs ys labels q ≡ 0 = label_at-is xs ys labels q goal asc_x asc_y at_goal ∙ search.valid.at_goal in
    record {
      reached = omega (arith, zero_there);
      zero_there = zero_there;
      back = λ d p n j reached.
          let m : (m : ℕ) × Stands xs ys n m = by_stands xs ys n (λ m stands. (m, stands)) (λ off. let none = label_at-off xs ys labels n off in absurd (omega (arith, none, reached))) in
          let c : (c : ℕ) × Stands xs ys p c = by_stands xs ys p (λ c stands. (c, stands))
          (λ off. absurd (sealed.sealed d p n j off m.0 m.1 (let e = label_at-is xs ys labels n m.0 asc_x asc_y m.1 in omega (arith, e, reached)))) in
          let step : IsStep graph d c.0 m.0 (manhattan_of p n) = joined_step blocks lines walls xs ys graph goal labels search d p n c.0 m.0 c.1 m.1 j in
          let lp : label_at xs ys labels p ≡ slice_index labels c.0 = label_at-is xs ys labels p c.0 asc_x asc_y c.1 in
          let ln : label_at xs ys labels n ≡ slice_index labels m.0 = label_at-is xs ys labels n m.0 asc_x asc_y m.1 in
          let n_reached : slice_index labels m.0 < 2 ^ 64 - 1 = omega (arith, ln, reached) in
          let n_inside : m.0 < length labels = (let a = m.1.inside in let b = search.valid.size in let e = search.steps.easts in omega (arith, a, b, e)) in
          let le : slice_index labels c.0 ≤ slice_index labels m.0 + manhattan_of p n =
          at_most_by_step graph labels d c.0 m.0 (manhattan_of p n) (settled m.0 n_inside n_reached) step n_reached in
          let short = short_step blocks lines walls xs ys graph goal labels search d p n c.0 m.0 step in
          let bound = sum_short graph goal labels m.0 (manhattan_of p n) (graph_is walls xs ys graph search.short_x search.short_y search.steps) search.valid n_inside n_reached short in (
            below_limit (slice_index labels c.0) (slice_index labels m.0 + manhattan_of p n) (label_at xs ys labels p) lp le bound,
            at_most_sum (slice_index labels c.0) (slice_index labels m.0) (manhattan_of p n) (label_at xs ys labels p) (label_at xs ys labels n) lp ln le,
          );
    }
  where
    below_limit : (a b l : ℕ) → l ≡ a → a ≤ b → b ≤ 2 ^ 62 → l < 2 ^ 64 - 1
    below_limit a b l e le bound = omega arith

    short_step : (blocks : List Block) (lines : Lines) (walls : List Wall) (xs ys : List ℤ) (graph : Graph) (goal : ℕ) (labels : List ℕ)
        → IsSearch blocks lines walls xs ys graph goal labels → (d : Direction) (p n : Half) (c m : ℕ) → IsStep graph d c m (manhattan_of p n) → manhattan_of p n ≤ 2 ^ 43
    short_step blocks lines walls xs ys graph goal labels search d p n c m step =
        step_short graph d c m (manhattan_of p n) (graph_is walls xs ys graph search.short_x search.short_y search.steps) step

-- ---- The labels bound the lengths of those paths from below that can be part of one from s no longer than the one found;
-- all other points count as one more.
-- a path that leaves the window is longer than the one that was found
pub record IsClosed (blocks : List Block) (lines : Lines) (xs ys : List ℤ) (labels : List ℕ) (most : ℕ) (s : Half) : Type 0 where
  pub longer : (d : Direction) (p n : Half) → IsJoined blocks lines d p n → ((c : ℕ) → Stands xs ys p c → ⊥)
      → (c : ℕ) → Stands xs ys n c → most < slice_index labels c + (manhattan_of p n + manhattan_of s p)

rest_of : ℕ → Half → Half → ℕ
rest_of most s p = (most + 1) - manhattan_of s p

capped : List ℤ → List ℤ → List ℕ → ℕ → Half → Half → ℕ
capped xs ys labels most s p = min (label_at xs ys labels p) (rest_of most s p)

Anywhere : Half → Type 0
Anywhere p = Unit {0}

rest_step : (most : ℕ) (s p n : Half) → rest_of most s p ≤ manhattan_of p n + rest_of most s n
unfolding rest_of
rest_step most s p n = step most (manhattan_of s p) (manhattan_of s n) (manhattan_of p n) (triangle s p n)
  where
    step : (most a b w : ℕ) → b ≤ a + w → (most + 1) - a ≤ w + ((most + 1) - b)
    step most a b w le = omega arith

rest_past : (most : ℕ) (s p : Half) (w l label : ℕ) → most < l + (w + manhattan_of s p) → label ≡ l → rest_of most s p ≤ w + label
unfolding rest_of
rest_past most s p w l label lt e = past most w (manhattan_of s p) l label lt e
  where
    past : (most w a l label : ℕ) → most < l + (w + a) → label ≡ l → (most + 1) - a ≤ w + label
    past most w a l label lt e = omega arith

rest_at_most : (most : ℕ) (s p : Half) → rest_of most s p ≤ most + 1
unfolding rest_of
rest_at_most most s p = omega arith

min_step : (a hp b hn w : ℕ) → hp ≤ w + hn → (b < hn → min a hp ≤ w + b) → min a hp ≤ w + min b hn
min_step a hp b hn w le near =
    let right = min-le_right a hp in
    by_order b hn
    (λ below. let e : min b hn ≡ b = min-eq_left (omega arith) in let lt = near below in omega (arith, e, lt))
    (λ above. let e : hn ≤ min b hn = le-min (omega arith) (omega arith) in omega (arith, right, e, le))
    (λ same. let e : hn ≤ min b hn = le-min (omega arith) (omega arith) in omega (arith, right, e, le))

capped_potential : (blocks : List Block) (lines : Lines) (walls : List Wall) (xs ys : List ℤ) (graph : Graph) (goal start : ℕ) (labels : List ℕ) (s q : Half)
    → IsSearch blocks lines walls xs ys graph goal labels → IsSettled graph labels start → slice_index labels start < 2 ^ 64 - 1
    → IsClosed blocks lines xs ys labels (slice_index labels start) s → Stands xs ys q goal
    → IsPotential (IsJoined blocks lines) Anywhere (capped xs ys labels (slice_index labels start) s) q
unfolding capped Anywhere
capped_potential blocks lines walls xs ys graph goal start labels s q search settled reached closed at_goal =
    let asc_x : IsAscending xs = search.short_x.ascending in
    let asc_y : IsAscending ys = search.short_y.ascending in
    let most : ℕ = slice_index labels start in
    let zero_there : label_at xs ys labels q ≡ 0 = label_at-is xs ys labels q goal asc_x asc_y at_goal ∙ search.valid.at_goal in
    record {
      reached = tt;
      zero_there = let le = min-le_left (label_at xs ys labels q) (rest_of most s q) in omega (arith, zero_there, le);
      back = λ d p n j _. (
        tt,
        min_step (label_at xs ys labels p) (rest_of most s p) (label_at xs ys labels n) (rest_of most s n) (manhattan_of p n) (rest_step most s p n)
            (λ below. by_stands xs ys n
            (λ m at_n. by_stands xs ys p (λ c at_p. inside d p n j c m at_p at_n below) (λ off. outside d p n j m off at_n))
            (λ off. let none = label_at-off xs ys labels n off in let le = rest_at_most most s n in absurd (omega (arith, none, below, le, reached)))),
      );
    }
  where
    inside : (d : Direction) (p n : Half) → IsJoined blocks lines d p n → (c m : ℕ) → Stands xs ys p c → Stands xs ys n m
        → label_at xs ys labels n < rest_of (slice_index labels start) s n
        → min (label_at xs ys labels p) (rest_of (slice_index labels start) s p) ≤ manhattan_of p n + label_at xs ys labels n
    inside d p n j c m at_p at_n below =
        let most : ℕ = slice_index labels start in
        let lp = label_at-is xs ys labels p c search.short_x.ascending search.short_y.ascending at_p in
        let ln = label_at-is xs ys labels n m search.short_x.ascending search.short_y.ascending at_n in
        let up_to = rest_at_most most s n in
        let step : IsStep graph d c m (manhattan_of p n) = joined_step blocks lines walls xs ys graph goal labels search d p n c m at_p at_n j in
        let n_inside : m < length labels = (let a = at_n.inside in let b = search.valid.size in let e = search.steps.easts in omega (arith, a, b, e)) in
        let near : slice_index labels m ≤ most = omega (arith, ln, below, up_to) in
        let le : slice_index labels c ≤ slice_index labels m + manhattan_of p n =
        at_most_by_step graph labels d c m (manhattan_of p n) ((settled.from m n_inside).at near) step (omega (arith, near, reached)) in
        let left = min-le_left (label_at xs ys labels p) (rest_of most s p) in
        omega (arith, lp, ln, le, left)

    outside : (d : Direction) (p n : Half) → IsJoined blocks lines d p n → (m : ℕ) → ((c : ℕ) → Stands xs ys p c → ⊥) → Stands xs ys n m
        → min (label_at xs ys labels p) (rest_of (slice_index labels start) s p) ≤ manhattan_of p n + label_at xs ys labels n
    outside d p n j m off at_n =
        let most : ℕ = slice_index labels start in
        let ln = label_at-is xs ys labels n m search.short_x.ascending search.short_y.ascending at_n in
        let le = rest_past most s p (manhattan_of p n) (slice_index labels m) (label_at xs ys labels n) (closed.longer d p n j off m at_n) ln in
        let right = min-le_right (label_at xs ys labels p) (rest_of most s p) in
        omega (arith, le, right)

-- ---- the way down falls
whole_is : (most a b len w la lb sp sn : ℕ) → la ≡ a → lb ≡ b → a ≡ b + len → len ≡ w → a + sp ≤ most → sn ≤ sp + w
    → min la ((most + 1) - sp) ≡ w + min lb ((most + 1) - sn)
whole_is most a b len w la lb sp sn e f g h le near =
    let left : min la ((most + 1) - sp) ≡ la = min-eq_left (omega (arith, e, le)) in
    let right : min lb ((most + 1) - sn) ≡ lb = min-eq_left (omega (arith, f, g, h, le, near)) in
    omega (arith, left, right, e, f, g, h)

less_is : (most a w la lb sp hm : ℕ) → la ≡ a → a + sp ≤ most → (most + 1) - sp ≤ w + hm → a < w + lb → min la ((most + 1) - sp) < w + min lb hm
less_is most a w la lb sp hm e le step less =
    let left = min-le_left la ((most + 1) - sp) in
    by_order lb hm
    (λ below. let right : min lb hm ≡ lb = min-eq_left (omega arith) in omega (arith, left, right, e, less))
    (λ above. let right : hm ≤ min lb hm = le-min (omega arith) (omega arith) in omega (arith, left, right, e, le, step))
    (λ same. let right : hm ≤ min lb hm = le-min (omega arith) (omega arith) in omega (arith, left, right, e, le, step))

one_fall : (blocks : List Block) (lines : Lines) (walls : List Wall) (xs ys : List ℤ) (graph : Graph) (goal : ℕ) (labels : List ℕ) (most : ℕ) (s : Half)
    → IsSearch blocks lines walls xs ys graph goal labels → most < 2 ^ 64 - 1 → (c n : ℕ) (d : Direction) (len : ℕ) → c < length xs * length ys → n < length xs * length ys
    → slice_index labels c + manhattan_of s (point_at xs ys c) ≤ most → IsFirstFall graph labels d c n len
    → IsFall (IsJoined blocks lines) Anywhere (capped xs ys labels most s) (point_at xs ys c) (point_at xs ys n)
unfolding capped rest_of
one_fall blocks lines walls xs ys graph goal labels most s search reached c n d len c_in n_in below first =
    let asc_x : IsAscending xs = search.short_x.ascending in
    let asc_y : IsAscending ys = search.short_y.ascending in
    let p : Half = point_at xs ys c in
    let at_c : Stands xs ys p c = record { inside = c_in; at = refl } in
    let at_n : Stands xs ys (point_at xs ys n) n = record { inside = n_in; at = refl } in
    let lp : label_at xs ys labels p ≡ slice_index labels c = label_at-is xs ys labels p c asc_x asc_y at_c in
    let ln : label_at xs ys labels (point_at xs ys n) ≡ slice_index labels n = label_at-is xs ys labels (point_at xs ys n) n asc_x asc_y at_n in
    let to_n = step_joined blocks lines walls xs ys graph goal labels search d c n len first.fall.step in
    record {
      direction = d;
      joined = to_n.0;
      whole = whole_is most (slice_index labels c) (slice_index labels n) len (manhattan_of p (point_at xs ys n)) (label_at xs ys labels p)
          (label_at xs ys labels (point_at xs ys n)) (manhattan_of s p) (manhattan_of s (point_at xs ys n)) lp ln first.fall.whole to_n.1 below
          (triangle s p (point_at xs ys n));
      first = λ other m before j _.
          less_is most (slice_index labels c) (manhattan_of p m) (label_at xs ys labels p) (label_at xs ys labels m) (manhattan_of s p) ((most + 1) - manhattan_of s m)
          lp below (further most (manhattan_of s p) (manhattan_of s m) (manhattan_of p m) (triangle s p m)) (by_stands xs ys m
          (λ k at_m. let lm : label_at xs ys labels m ≡ slice_index labels k = label_at-is xs ys labels m k asc_x asc_y at_m in
          let step : IsStep graph other c k (manhattan_of p m) = joined_step blocks lines walls xs ys graph goal labels search other p m c k at_c at_m j in
          nearer most (slice_index labels c) (slice_index labels k) (manhattan_of p m) (label_at xs ys labels m) (manhattan_of s p) lm below
          (λ near. (first.first other before).less k (manhattan_of p m) step (omega (arith, near, reached))))
          (λ off. let none = label_at-off xs ys labels m off in unreached most (slice_index labels c) (manhattan_of p m) (label_at xs ys labels m) (manhattan_of s p) none below reached));
    }
  where
    further : (most a b w : ℕ) → b ≤ a + w → (most + 1) - a ≤ w + ((most + 1) - b)
    further most a b w le = omega arith

    nearer : (most a b w lb sp : ℕ) → lb ≡ b → a + sp ≤ most → (b ≤ most → a < b + w) → a < w + lb
    nearer most a b w lb sp e le near =
        by_order b (most + 1)
        (λ below. let lt = near (omega arith) in omega (arith, e, lt))
        (λ above. omega (arith, e, le, above))
        (λ same. omega (arith, e, le, same))

    unreached : (most a w lb sp : ℕ) → lb ≡ 2 ^ 64 - 1 → a + sp ≤ most → most < 2 ^ 64 - 1 → a < w + lb
    unreached most a w lb sp e le lt = omega arith

falls_down : (blocks : List Block) (lines : Lines) (walls : List Wall) (xs ys : List ℤ) (graph : Graph) (goal : ℕ) (labels : List ℕ) (most : ℕ) (s : Half)
    → IsSearch blocks lines walls xs ys graph goal labels → most < 2 ^ 64 - 1 → (c : ℕ) (cells : List ℕ) → c < length xs * length ys
    → slice_index labels c + manhattan_of s (point_at xs ys c) ≤ most → GoesDown graph labels c cells goal
    → Falls (IsJoined blocks lines) Anywhere (capped xs ys labels most s) (point_at xs ys c) (map (point_at xs ys) cells) (point_at xs ys goal)
unfolding Falls GoesDown
falls_down blocks lines walls xs ys graph goal labels most s search reached c [] inside below down = ap (λ (k : ℕ). point_at xs ys k) down
falls_down blocks lines walls xs ys graph goal labels most s search reached c (n ∷ cells) inside below down =
    let first : IsFirstFall graph labels down.0.direction c n down.0.len = down.0.fall in
    let n_inside : n < length xs * length ys =
    step_inside graph down.0.direction c n down.0.len (length xs * length ys) (graph_is walls xs ys graph search.short_x search.short_y search.steps) (sym search.steps.easts) inside first.fall.step in
    let to_n = step_joined blocks lines walls xs ys graph goal labels search down.0.direction c n down.0.len first.fall.step in (
      one_fall blocks lines walls xs ys graph goal labels most s search reached c n down.0.direction down.0.len inside n_inside below first,
      falls_down blocks lines walls xs ys graph goal labels most s search reached n cells n_inside
          (on most (slice_index labels c) (slice_index labels n) down.0.len _ _ _ first.fall.whole to_n.1 (triangle s (point_at xs ys c) (point_at xs ys n)) below) down.1,
    )
  where
    on : (most a b len w sp sn : ℕ) → a ≡ b + len → len ≡ w → sn ≤ sp + w → a + sp ≤ most → b + sn ≤ most
    on most a b len w sp sn e f near le = omega arith

-- ---- lengths are whole nm
abs_parity : (a b : ℤ) → (k : ℤ) × (pos (int_abs_diff a b) ≡ (a -ℤ b) +ℤ pos 2 *ℤ k)
abs_parity a b =
    by_lt_z {P = (k : ℤ) × (pos (int_abs_diff a b) ≡ (a -ℤ b) +ℤ pos 2 *ℤ k)} a b
    (λ lt. (b -ℤ a, omega (arith, ints)))
    (λ ge. (pos 0, omega (arith, ints)))

parity_step : (w l t : ℕ) (px py nx ny qx qy a b k : ℤ) → t ≡ w + l → pos w ≡ ((px -ℤ nx) +ℤ pos 2 *ℤ a) +ℤ ((py -ℤ ny) +ℤ pos 2 *ℤ b)
    → pos l ≡ ((nx +ℤ ny) -ℤ (qx +ℤ qy)) +ℤ pos 2 *ℤ k → pos t ≡ ((px +ℤ py) -ℤ (qx +ℤ qy)) +ℤ pos 2 *ℤ ((a +ℤ b) +ℤ k)
parity_step w l t px py nx ny qx qy a b k e f g = omega (arith, ints)

sum_parity : (x y : ℕ) (a b : ℤ) → pos x ≡ a → pos y ≡ b → pos (x + y) ≡ a +ℤ b
sum_parity x y a b e f = omega (arith, ints)

-- a path is as long as its ends are apart in x and y together, but for an even number
path_parity : (Joined : Direction → Half → Half → Type 0) (p q : Half) (points : List Half) → IsPath Joined p points q
    → (k : ℤ) × (pos (path_length (p ∷ points)) ≡ ((p.x +ℤ p.y) -ℤ (q.x +ℤ q.y)) +ℤ pos 2 *ℤ k)
unfolding IsPath
path_parity Joined p q [] same =
    let e = path_length-one p in
    let x : p.x ≡ q.x = ap (λ (r : Half). r.x) same in
    let y : p.y ≡ q.y = ap (λ (r : Half). r.y) same in
    (pos 0, ap pos e ∙ nothing p.x p.y q.x q.y x y)
  where
    nothing : (a b c d : ℤ) → a ≡ c → b ≡ d → pos 0 ≡ ((a +ℤ b) -ℤ (c +ℤ d)) +ℤ pos 2 *ℤ pos 0
    nothing a b c d e f = omega (arith, ints)
path_parity Joined p q (n ∷ points) path =
    let rest = path_parity Joined n q points path.1 in
    let a = abs_parity p.x n.x in
    let b = abs_parity p.y n.y in (
      (a.0 +ℤ b.0) +ℤ rest.0,
      parity_step (manhattan_of p n) (path_length (n ∷ points)) (path_length (p ∷ n ∷ points)) p.x p.y n.x n.y q.x q.y a.0 b.0 rest.0
          (path_length-step p n points) (sum_parity (int_abs_diff p.x n.x) (int_abs_diff p.y n.y) ((p.x -ℤ n.x) +ℤ pos 2 *ℤ a.0) ((p.y -ℤ n.y) +ℤ pos 2 *ℤ b.0) a.1 b.1) rest.1,
    )

even_from : (l : ℕ) (z : ℤ) → pos l ≡ pos 2 *ℤ z → 2 * (l / 2) ≡ l
even_from l z e = omega (arith, ints)

spot_ends : (l : ℕ) (a b c d k : ℤ) → pos l ≡ (((a +ℤ b) +ℤ (a -ℤ b)) -ℤ ((c +ℤ d) +ℤ (c -ℤ d))) +ℤ pos 2 *ℤ k → pos l ≡ pos 2 *ℤ ((a -ℤ c) +ℤ k)
spot_ends l a b c d k e = omega (arith, ints)

pub even_path : (Joined : Direction → Half → Half → Type 0) (from to : Spot) (points : List Half) → IsPath Joined (point_of from) points (point_of to)
    → 2 * (path_length (point_of from ∷ points) / 2) ≡ path_length (point_of from ∷ points)
even_path Joined from to points path =
    let k = path_parity Joined (point_of from) (point_of to) points path in
    even_from (path_length (point_of from ∷ points)) ((from.u -ℤ to.u) +ℤ k.0)
    (spot_ends (path_length (point_of from ∷ points)) from.u from.v to.u to.v k.0 k.1)

-- ---- the route
capped_at : (xs ys : List ℤ) (labels : List ℕ) (p : Half) (start : ℕ) → label_at xs ys labels p ≡ slice_index labels start
    → capped xs ys labels (slice_index labels start) p p ≡ slice_index labels start
unfolding capped rest_of
capped_at xs ys labels p start e =
    let here = manhattan-same p p refl in
    let least : min (label_at xs ys labels p) ((slice_index labels start + 1) - manhattan_of p p) ≡ label_at xs ys labels p = min-eq_left (at (slice_index labels start) (manhattan_of p p) (label_at xs ys labels p) e here) in
    least ∙ e
  where
    at : (most a l : ℕ) → l ≡ most → a ≡ 0 → l ≤ (most + 1) - a
    at most a l e f = omega arith

pub found_route : (blocks : List Block) (die : Die) (from to : Spot) (walls : List Wall) (xs ys : List ℤ) (graph : Graph) (start goal : ℕ) (labels cells : List ℕ) (route : Route)
    → IsSearch blocks (lines_of blocks die (point_of from) (point_of to)) walls xs ys graph goal labels
    → IsSettled graph labels start → slice_index labels start < 2 ^ 64 - 1 → IsClosed blocks (lines_of blocks die (point_of from) (point_of to)) xs ys labels (slice_index labels start) (point_of from)
    → Stands xs ys (point_of from) start → Stands xs ys (point_of to) goal → GoesDown graph labels start cells goal
    → route.corners ≡ turns_of (map (point_at xs ys) (start ∷ cells)) → route.length ≡ slice_index labels start / 2
    → IsRoute blocks die (point_of from) (point_of to) route
found_route blocks die from to walls xs ys graph start goal labels cells route search settled reached closed at_start at_goal down corners len =
    let p : Half = point_of from in
    let q : Half = point_of to in
    let lines : Lines = lines_of blocks die p q in
    let J : Direction → Half → Half → Type 0 = IsJoined blocks lines in
    let R : Half → Type 0 = Anywhere in
    let f : Half → ℕ = capped xs ys labels (slice_index labels start) p in
    let points : List Half = map (point_at xs ys) cells in
    let potential : IsPotential J R f q = capped_potential blocks lines walls xs ys graph goal start labels p q search settled reached closed at_goal in
    let falls : Falls J R f p points q =
    subst (λ (x : Half). Falls J R f x points q) at_start.at
    (subst (λ (y : Half). Falls J R f (point_at xs ys start) points y) at_goal.at
    (falls_down blocks lines walls xs ys graph goal labels (slice_index labels start) p search reached start cells at_start.inside
    (let here = manhattan-same p (point_at xs ys start) (sym at_start.at) in omega (arith, here)) down)) in
    let shortest : IsShortest J p points q = shortest_from_falls J R f q potential p points falls in
    let total : path_length (p ∷ points) ≡ slice_index labels start =
    length_of_falls J R f q potential p points falls
    ∙ capped_at xs ys labels p start (label_at-is xs ys labels p start search.short_x.ascending search.short_y.ascending at_start) in
    let even : 2 * (path_length (p ∷ points) / 2) ≡ path_length (p ∷ points) = even_path J from to points shortest.path in
    record {
      points = points;
      shortest = shortest;
      first_steps = first_steps_from_falls J R f q potential p points falls;
      follows = record {
        corners = corners ∙ ap (λ (r : Half). turns_of (r ∷ points)) at_start.at;
        length = ap (λ (l : ℕ). 2 * l) (len ∙ ap (λ (l : ℕ). l / 2) (sym total)) ∙ even;
      };
    }

pub found_cut : (blocks : List Block) (die : Die) (p q : Half) (walls : List Wall) (xs ys : List ℤ) (graph : Graph) (start goal : ℕ) (labels : List ℕ)
    → IsSearch blocks (lines_of blocks die p q) walls xs ys graph goal labels → IsSettled graph labels start → IsSealed blocks (lines_of blocks die p q) xs ys labels
    → Stands xs ys p start → Stands xs ys q goal → 2 ^ 64 - 1 ≤ slice_index labels start → IsCut blocks die p q
unfolding HasLabel
found_cut blocks die p q walls xs ys graph start goal labels search settled sealed at_start at_goal none = λ points path.
    let lines : Lines = lines_of blocks die p q in
    let potential = label_potential blocks lines walls xs ys graph goal labels q search sealed
    (λ c inside reached. (settled.from c inside).at (omega (arith, reached, none))) at_goal in
    let reached = (height_below (IsJoined blocks lines) (HasLabel xs ys labels) (label_at xs ys labels) q potential p points path).0 in
    let e = label_at-is xs ys labels p start search.short_x.ascending search.short_y.ascending at_start in
    absurd (omega (arith, reached, e, none))
