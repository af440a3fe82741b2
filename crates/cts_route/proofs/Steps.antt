-- Where the steps of a grid lead, and that they stay inside and are short.
use Rattle.std.proofs.Common.{◌≡◌, ℕ, zero, suc, ◌+◌, ◌*◌, ◌/◌, ◌%◌, ◌^◌, ◌<◌, ◌≤◌, ℤ, pos, neg_ℤ, ◌-ℤ◌, ◌≤ℤ◌, ◌<ℤ◌, List, [], ◌∷◌, ◌++◌, length, slice_index, refl, sym, ap, ◌∙◌, subst, below_more, length-append, arith}
use Rattle.std.proofs.lemmas.Int.{ints}
use Rattle.std.proofs.Math.Nat.{mul-le-mul_left}
use Rattle.cts_geom.specs.declared.points.Half.{Half}
use Rattle.std.specs.Prelude.{unsigned_abs}
use Rattle.std.proofs.lemmas.List.{get_or_append_left}
use Rattle.cts_geom.specs.Coordinate.{int_abs_diff}
use Rattle.cts_geom.specs.Points.{manhattan_of}
use Rattle.cts_route.specs.declared.wall.Wall.{Wall}
use Rattle.cts_route.specs.LineLists.{line_at}
use Rattle.cts_route.specs.Windows.{point_at, AreOrdered, IsStepLength, IsEastLength, IsNorthLength, AreEasts, AreNorths, IsGraphUpTo, IsGraphOf, AreShortLines}
use Rattle.cts_route.specs.declared.graph.Graph.{Graph}
use Rattle.cts_route.specs.Search.{IsGraph}
use Rattle.cts_route.proofs.Unique.{by_order}
use Rattle.cts_route.proofs.Cells.{cell_is, cell_parts, column_inside}

pub point_at-x : (xs ys : List ℤ) (c : ℕ) → (point_at xs ys c).x ≡ line_at xs (c / length ys)
unfolding point_at
point_at-x xs ys c = refl

pub point_at-y : (xs ys : List ℤ) (c : ℕ) → (point_at xs ys c).y ≡ line_at ys (c % length ys)
unfolding point_at
point_at-y xs ys c = refl

-- the numbers of the next column and of the next point in a column
pub east_parts : (c h : ℕ) → 0 < h → ((c + h) / h ≡ c / h + 1) × ((c + h) % h ≡ c % h)
east_parts c h some =
    let parts : (c ≡ (c / h) * h + c % h) × (c % h < h) = cell_parts c h some in
    cell_is (c + h) (c / h + 1) (c % h) h parts.1 (let e = parts.0 in omega (arith, e))

pub north_parts : (c h : ℕ) → c % h + 1 < h → ((c + 1) / h ≡ c / h) × ((c + 1) % h ≡ c % h + 1)
north_parts c h inside =
    let parts : (c ≡ (c / h) * h + c % h) × (c % h < h) = cell_parts c h (omega arith) in
    cell_is (c + 1) (c / h) (c % h + 1) h inside (let e = parts.0 in omega (arith, e))

span : (a b : ℤ) → neg_ℤ (pos (2 ^ 41)) ≤ℤ a → b ≤ℤ pos (2 ^ 41) → (b -ℤ a) ≤ℤ pos (2 ^ 42)
span a b lo hi = omega (arith, ints)

equal_lines : (a b : ℤ) → a ≡ b → (b ≤ℤ a) × ((a ≤ℤ b) × ((b -ℤ a) ≤ℤ pos (2 ^ 42)))
equal_lines a b e = (omega (arith, ints), (omega (arith, ints), omega (arith, ints)))

pub record IsEastOf (p q : Half) : Type 0 where
  pub less : p.x <ℤ q.x
  pub level : p.y ≡ q.y
  pub width : (q.x -ℤ p.x) ≤ℤ pos (2 ^ 42)

pub record IsNorthOf (p q : Half) : Type 0 where
  pub level : p.x ≡ q.x
  pub less : p.y <ℤ q.y
  pub height : (q.y -ℤ p.y) ≤ℤ pos (2 ^ 42)

pub east_of : (xs ys : List ℤ) (c : ℕ) → AreShortLines xs → AreShortLines ys → c + length ys < length xs * length ys
    → IsEastOf (point_at xs ys c) (point_at xs ys (c + length ys))
east_of xs ys c short_x short_y inside =
    let h : ℕ = length ys in
    let some : 0 < h = (column_inside (c + h) (length xs) h inside).0 in
    let column : (c + h) / h < length xs = (column_inside (c + h) (length xs) h inside).1 in
    let parts : ((c + h) / h ≡ c / h + 1) × ((c + h) % h ≡ c % h) = east_parts c h some in
    let up : c / h < (c + h) / h = (let e = parts.0 in omega (arith, e)) in
    let less : line_at xs (c / h) <ℤ line_at xs ((c + h) / h) = short_x.ascending.below (c / h) ((c + h) / h) up column in
    let low : neg_ℤ (pos (2 ^ 41)) ≤ℤ line_at xs (c / h) = short_x.low (c / h) (omega (arith, up, column)) in
    let high : line_at xs ((c + h) / h) ≤ℤ pos (2 ^ 41) = short_x.high ((c + h) / h) column in
    let px = point_at-x xs ys c in
    let qx = point_at-x xs ys (c + h) in
    record {
      less = omega (arith, ints, less, px, qx);
      level = point_at-y xs ys c ∙ ap (λ (k : ℕ). line_at ys k) (sym parts.1) ∙ sym (point_at-y xs ys (c + h));
      width = let d = span (line_at xs (c / h)) (line_at xs ((c + h) / h)) low high in omega (arith, ints, d, px, qx);
    }

pub north_of : (xs ys : List ℤ) (c : ℕ) → AreShortLines xs → AreShortLines ys → c % length ys + 1 < length ys
    → IsNorthOf (point_at xs ys c) (point_at xs ys (c + 1))
north_of xs ys c short_x short_y inside =
    let h : ℕ = length ys in
    let parts : ((c + 1) / h ≡ c / h) × ((c + 1) % h ≡ c % h + 1) = north_parts c h inside in
    let up : c % h < (c + 1) % h = (let e = parts.1 in omega (arith, e)) in
    let row : (c + 1) % h < h = (let e = parts.1 in omega (arith, e, inside)) in
    let less : line_at ys (c % h) <ℤ line_at ys ((c + 1) % h) = short_y.ascending.below (c % h) ((c + 1) % h) up row in
    let low : neg_ℤ (pos (2 ^ 41)) ≤ℤ line_at ys (c % h) = short_y.low (c % h) (omega (arith, up, row)) in
    let high : line_at ys ((c + 1) % h) ≤ℤ pos (2 ^ 41) = short_y.high ((c + 1) % h) row in
    let py = point_at-y xs ys c in
    let qy = point_at-y xs ys (c + 1) in
    record {
      level = point_at-x xs ys c ∙ ap (λ (k : ℕ). line_at xs k) (sym parts.0) ∙ sym (point_at-x xs ys (c + 1));
      less = omega (arith, ints, less, py, qy);
      height = let d = span (line_at ys (c % h)) (line_at ys ((c + 1) % h)) low high in omega (arith, ints, d, py, qy);
    }

pub ordered_east : (p q : Half) → IsEastOf p q → AreOrdered p q
ordered_east p q is =
    let less : p.x <ℤ q.x = is.less in
    let level : p.y ≡ q.y = is.level in
    record { x = omega (arith, ints); y = omega (arith, ints); width = is.width; height = omega (arith, ints) }

pub ordered_north : (p q : Half) → IsNorthOf p q → AreOrdered p q
ordered_north p q is =
    let less : p.y <ℤ q.y = is.less in
    let level : p.x ≡ q.x = is.level in
    record { x = omega (arith, ints); y = omega (arith, ints); width = omega (arith, ints); height = is.height }

-- the next point up stays in the column
pub north_inside : (c w h : ℕ) → c < w * h → c % h + 1 < h → c + 1 < w * h
north_inside c w h inside row =
    let column : c / h < w = (column_inside c w h inside).1 in
    let parts : (c ≡ (c / h) * h + c % h) × (c % h < h) = cell_parts c h (omega arith) in
    let more = mul-le-mul_left h (up column) in
    let e = parts.0 in omega (arith, more, e, row)
  where
    up : {a b : ℕ} → a < b → a + 1 ≤ b
    up lt = omega arith

pub few_cells : (w h : ℕ) → w ≤ 132 → h ≤ 132 → w * h ≤ 2 ^ 18
few_cells w h few_w few_h =
    let a = mul-le-mul_left h few_w in
    omega (arith, a, few_h)

-- ---- the lengths of steps
pub abs_back : (a b : ℤ) → unsigned_abs (b -ℤ a) ≡ int_abs_diff a b
abs_back a b = omega (arith, ints)

pub sum_is : (x y : ℕ) (p q : Half) → x ≡ int_abs_diff p.x q.x → y ≡ int_abs_diff p.y q.y → x + y ≡ manhattan_of p q
sum_is x y p q e f = cc

pub no_east : (walls : List Wall) (xs ys : List ℤ) (c : ℕ) → length xs * length ys ≤ c + length ys → IsEastLength walls xs ys c 0
no_east walls xs ys c past = record { there = λ lt. absurd (omega arith); inside = λ lt. absurd (omega arith) }

pub an_east : (walls : List Wall) (xs ys : List ℤ) (c len : ℕ) → c + length ys < length xs * length ys
    → IsStepLength walls (point_at xs ys c) (point_at xs ys (c + length ys)) len → IsEastLength walls xs ys c len
an_east walls xs ys c len inside is = record { there = λ lt. is; inside = λ some. inside }

pub no_north : (walls : List Wall) (xs ys : List ℤ) (c : ℕ) → length ys ≤ c % length ys + 1 → IsNorthLength walls xs ys c 0
no_north walls xs ys c past = record { there = λ lt. absurd (omega arith); inside = λ lt. absurd (omega arith) }

pub a_north : (walls : List Wall) (xs ys : List ℤ) (c len : ℕ) → c % length ys + 1 < length ys
    → IsStepLength walls (point_at xs ys c) (point_at xs ys (c + 1)) len → IsNorthLength walls xs ys c len
a_north walls xs ys c len inside is = record { there = λ lt. is; inside = λ some. inside }

pub push_each : (P : ℕ → ℕ → Type 0) (lens after : List ℕ) (upto len : ℕ) → length lens ≡ upto → after ≡ lens ++ len ∷ []
    → ((c : ℕ) → c < upto → P c (slice_index lens c)) → P upto len → (c : ℕ) → c < upto + 1 → P c (slice_index after c)
push_each P lens after upto len size e each here =
    below_more (λ c. P c (slice_index after c)) upto
    (λ c lt. subst (λ (l : ℕ). P c l) (sym (ap (λ (ls : List ℕ). slice_index ls c) e ∙ get_or_append_left lens (len ∷ []) 0 c (omega arith))) (each c lt))
    (subst (λ (l : ℕ). P upto l) (sym (ap (λ (ls : List ℕ). slice_index ls upto) e ∙ last_at lens upto len size)) here)
  where
    last_at : (lens : List ℕ) (upto len : ℕ) → length lens ≡ upto → slice_index (lens ++ len ∷ []) upto ≡ len
    last_at [] zero len size = refl
    last_at [] (suc upto) len size = absurd (omega arith)
    last_at (x ∷ lens) zero len size = absurd (omega arith)
    last_at (x ∷ lens) (suc upto) len size = last_at lens upto len (omega arith)

pub more_easts : (walls : List Wall) (xs ys : List ℤ) (upto len : ℕ) (lens after : List ℕ) → AreEasts walls xs ys upto lens
    → after ≡ lens ++ len ∷ [] → IsEastLength walls xs ys upto len → AreEasts walls xs ys (upto + 1) after
more_easts walls xs ys upto len lens after are e here =
    record {
      count = let a = ap length e in let b = length-append lens (len ∷ []) in let d = are.count in omega (arith, a, b, d);
      each = push_each (λ c l. IsEastLength walls xs ys c l) lens after upto len are.count e are.each here;
    }

pub more_norths : (walls : List Wall) (xs ys : List ℤ) (upto len : ℕ) (lens after : List ℕ) → AreNorths walls xs ys upto lens
    → after ≡ lens ++ len ∷ [] → IsNorthLength walls xs ys upto len → AreNorths walls xs ys (upto + 1) after
more_norths walls xs ys upto len lens after are e here =
    record {
      count = let a = ap length e in let b = length-append lens (len ∷ []) in let d = are.count in omega (arith, a, b, d);
      each = push_each (λ c l. IsNorthLength walls xs ys c l) lens after upto len are.count e are.each here;
    }

pub no_easts : (walls : List Wall) (xs ys : List ℤ) (lens : List ℕ) → lens ≡ [] → AreEasts walls xs ys 0 lens
no_easts walls xs ys lens e = record { count = ap length e; each = λ c lt. absurd (omega arith) }

pub no_norths : (walls : List Wall) (xs ys : List ℤ) (lens : List ℕ) → lens ≡ [] → AreNorths walls xs ys 0 lens
no_norths walls xs ys lens e = record { count = ap length e; each = λ c lt. absurd (omega arith) }

-- ---- the graph
pub no_steps : (walls : List Wall) (xs ys : List ℤ) (graph : Graph) → graph.height ≡ length ys → graph.east.items ≡ [] → graph.north.items ≡ []
    → IsGraphUpTo walls xs ys (0 * length ys) graph
no_steps walls xs ys graph same no_east no_north =
    record {
      height = same;
      easts = record { count = let e = ap length no_east in omega (arith, e); each = λ c lt. absurd (omega arith) };
      norths = record { count = let e = ap length no_north in omega (arith, e); each = λ c lt. absurd (omega arith) };
    }

pub graph_steps : (walls : List Wall) (xs ys : List ℤ) (graph : Graph) (count : ℕ) → count ≡ length xs * length ys → graph.height ≡ length ys
    → AreEasts walls xs ys count graph.east.items → AreNorths walls xs ys count graph.north.items → IsGraphOf walls xs ys graph
graph_steps walls xs ys graph count e height easts norths =
    record {
      height = height;
      easts = easts.count ∙ e;
      norths = norths.count ∙ e;
      east = λ c lt. easts.each c (subst (λ (n : ℕ). c < n) (sym e) lt);
      north = λ c lt. norths.each c (subst (λ (n : ℕ). c < n) (sym e) lt);
    }

past_end : (lens : List ℕ) (c : ℕ) → length lens ≤ c → slice_index lens c ≡ 0
past_end [] c le = refl
past_end (x ∷ lens) zero le = absurd (omega arith)
past_end (x ∷ lens) (suc c) le = past_end lens c (omega arith)

pub inside_or_past : {P : Type 0} (lens : List ℕ) (c : ℕ) → (c < length lens → P) → (slice_index lens c ≡ 0 → P) → P
inside_or_past lens c inside past =
    by_order c (length lens) inside (λ gt. past (past_end lens c (omega arith))) (λ same. past (past_end lens c (omega arith)))

-- a distance of two ordered points
short_distance : (p q : Half) → AreOrdered p q → manhattan_of p q ≤ 2 ^ 43
short_distance p q is =
    let x = is.x in let y = is.y in let w = is.width in let h = is.height in
    let dx : int_abs_diff p.x q.x ≤ 2 ^ 42 = omega (arith, ints) in
    let dy : int_abs_diff p.y q.y ≤ 2 ^ 42 = omega (arith, ints) in
    omega (arith, dx, dy)

pub graph_is : (walls : List Wall) (xs ys : List ℤ) (graph : Graph) → AreShortLines xs → AreShortLines ys
    → IsGraphOf walls xs ys graph → IsGraph graph
graph_is walls xs ys graph short_x short_y is =
    record {
      cells = is.norths ∙ sym is.easts;
      size = let few = few_cells (length xs) (length ys) short_x.count short_y.count in let e = is.easts in omega (arith, few, e);
      height = let e = is.height in let few = short_y.count in omega (arith, e, few);
      east_inside = λ c some. inside_or_past graph.east.items c
          (λ lt. let e = is.easts in let h = is.height in
          let inside = (is.east c (omega (arith, lt, e))).inside some in omega (arith, inside, e, h))
          (λ none. absurd (omega (arith, some, none)));
      north_inside = λ c some. inside_or_past graph.north.items c
          (λ lt. let e = is.easts in let f = is.norths in
          let row = (is.north c (omega (arith, lt, f))).inside some in
          let inside = north_inside c (length xs) (length ys) (omega (arith, lt, f)) row in omega (arith, inside, e))
          (λ none. absurd (omega (arith, some, none)));
      east_short = λ c. inside_or_past graph.east.items c
          (λ lt. let e = is.easts in let l = is.east c (omega (arith, lt, e)) in
          east_short walls xs ys c (slice_index graph.east.items c) short_x short_y l)
          (λ none. omega (arith, none));
      north_short = λ c. inside_or_past graph.north.items c
          (λ lt. let e = is.norths in let l = is.north c (omega (arith, lt, e)) in
          north_short walls xs ys c (slice_index graph.north.items c) short_x short_y l)
          (λ none. omega (arith, none));
    }
  where
    some_or_none : {P : Type 0} (n : ℕ) → (0 < n → P) → (n ≡ 0 → P) → P
    some_or_none zero some none = none refl
    some_or_none (suc n) some none = some (omega arith)

    east_short : (walls : List Wall) (xs ys : List ℤ) (c len : ℕ) → AreShortLines xs → AreShortLines ys → IsEastLength walls xs ys c len → len ≤ 2 ^ 43
    east_short walls xs ys c len short_x short_y is =
        some_or_none len
        (λ some. let inside = is.inside some in
        let l = is.there inside in
        let e : len ≡ manhattan_of (point_at xs ys c) (point_at xs ys (c + length ys)) = l.whole (l.misses some) in
        let short = short_distance _ _ (ordered_east _ _ (east_of xs ys c short_x short_y inside)) in omega (arith, e, short))
        (λ none. omega (arith, none))

    north_short : (walls : List Wall) (xs ys : List ℤ) (c len : ℕ) → AreShortLines xs → AreShortLines ys → IsNorthLength walls xs ys c len → len ≤ 2 ^ 43
    north_short walls xs ys c len short_x short_y is =
        some_or_none len
        (λ some. let inside = is.inside some in
        let l = is.there inside in
        let e : len ≡ manhattan_of (point_at xs ys c) (point_at xs ys (c + 1)) = l.whole (l.misses some) in
        let short = short_distance _ _ (ordered_north _ _ (north_of xs ys c short_x short_y inside)) in omega (arith, e, short))
        (λ none. omega (arith, none))
