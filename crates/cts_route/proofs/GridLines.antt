-- The lines of a grid are few and near, and those of its window make a search.
use Rattle.std.proofs.Common.{Vec, Global, ◌≡◌, ℕ, ◌+◌, ◌*◌, ◌/◌, ◌%◌, ◌^◌, ◌≤◌, inl, inr, cond, ℤ, pos, neg_ℤ, ◌*ℤ◌, ◌≤ℤ◌, w64, FitsSigned, to_z, of_z, List, [], ◌∷◌, length, refl, ap, ◌∙◌, subst, arith, length-append}
use Rattle.std.specs.Prelude.{All, count_by}
use Rattle.std.specs.List.{Contains, flat_map}
use Rattle.std.proofs.lemmas.Int.{ints, to_z-of_z}
use Rattle.std.proofs.lemmas.List.Sums.{sum_by-cons, count_by-le-length}
use Rattle.std.proofs.lemmas.List.Elements.{Contains-append_cases, All-head, All-tail}
use Rattle.cts_geom.specs.declared.bounds.Die.{Die}
use Rattle.cts_geom.specs.declared.points.Half.{Half}
use Rattle.cts_geom.specs.declared.points.Spot.{Spot}
use Rattle.cts_geom.specs.Coordinate.{IsCoordinate}
use Rattle.cts_geom.specs.Points.{IsSpotInRange, point_of}
use Rattle.cts_geom.proofs.PointLemmas.{half_same}
use Rattle.cts_block.specs.declared.blocks.Block.{Block}
use Rattle.cts_block.specs.declared.blocks.Kind.{Kind}
use Rattle.cts_block.specs.declared.blocks.Kind.TheVariants.{Buffer, All as KindAll}
use Rattle.cts_route.specs.declared.wall.Wall.{Wall}
use Rattle.cts_route.specs.Walls.{AreWallsOf}
use Rattle.cts_route.specs.declared.frame.Frame.{Frame}
use Rattle.cts_route.specs.declared.grid.Grid.{Grid}
use Rattle.cts_route.specs.declared.view.Window.{Window}
use Rattle.cts_route.specs.WindowOf.{IsWindowOf}
use Rattle.cts_route.specs.Grid.{edges_of, fixed_xs, fixed_ys, lines_of}
use Rattle.cts_route.specs.Grids.{IsNear, IsGrid, IsGridOf}
use Rattle.cts_block.specs.FreePoints.{stops_wires}
use Rattle.cts_block.specs.NearestFree.{IsDieInRange}
use Rattle.cts_route.specs.Limits.{IsBlockInRange, AreBlocksInRange}
use Rattle.cts_route.specs.LineLists.{line_at, AreLinesOf, AreLinesBetween, IsNumberOf}
use Rattle.cts_route.specs.Search.{AreLabels}
use Rattle.cts_route.specs.Windows.{point_at, Stands, AreShortLines}
use Rattle.cts_route.proofs.Cells.{cell_is}
use Rattle.cts_route.proofs.Insertions.{contains_at}
use Rattle.cts_route.proofs.NextLine.{Contains-cases, Contains-first, Contains-later}
use Rattle.cts_route.proofs.Searches.{IsSearch, column_end}
use Rattle.cts_route.proofs.Steps.{point_at-x, point_at-y}

-- ---- few
pub two_edges : (kind : Kind) (low high : ℤ) → length (edges_of kind low high) ≡ 2 * cond (stops_wires kind) 1 0
two_edges Buffer low high = refl
two_edges KindAll low high = refl

pub edges_count : (edges : Block → List ℤ) (blocks : List Block) → ((b : Block) → length (edges b) ≡ 2 * cond (stops_wires b.kind) 1 0)
    → length (flat_map edges blocks) ≡ 2 * count_by (λ block. stops_wires block.kind) blocks
edges_count edges [] each = refl
edges_count edges (b ∷ blocks) each =
    let e = length-append (edges b) (flat_map edges blocks) in
    let here = each b in
    let rest = edges_count edges blocks each in
    let more = sum_by-cons (λ (block : Block). cond (stops_wires block.kind) 1 0) b blocks in
    omega (arith, e, here, rest, more)

few_lines : (n m k : ℕ) → n ≤ m → m ≡ 2 + 2 * k → k ≤ 64 → n ≤ 130
few_lines n m k le e few = omega arith

-- ---- near
near_double : (z : ℤ) → IsCoordinate z → IsNear (pos 2 *ℤ z)
near_double z is =
    record { low = let lo = is.low in omega (arith, ints); high = let hi = is.high in omega (arith, ints) }

nothing_there : (c : ℤ) → Contains {X = ℤ} [] c → ⊥
nothing_there c (k, lt, at) = absurd (omega arith)

near_edge : (kind : Kind) (low high c : ℤ) → IsCoordinate low → IsCoordinate high → Contains (edges_of kind low high) c → IsNear c
near_edge Buffer low high c lo hi (k, lt, at) = absurd (omega arith)
near_edge KindAll low high c lo hi there =
    elim (Contains-cases (pos 2 *ℤ low) ((pos 2 *ℤ high) ∷ []) c there) [
      | inl same ↦ subst IsNear same (near_double low lo)
      | inr rest ↦ elim (Contains-cases (pos 2 *ℤ high) [] c rest) [
        | inl same ↦ subst IsNear same (near_double high hi)
        | inr none ↦ absurd (nothing_there c none)
      ]
    ]

near_edges : (edges : Block → List ℤ) (blocks : List Block) (c : ℤ) → ((b : Block) → IsBlockInRange b → Contains (edges b) c → IsNear c)
    → All IsBlockInRange blocks → Contains (flat_map edges blocks) c → IsNear c
near_edges edges [] c each all (k, lt, at) = absurd (omega arith)
near_edges edges (b ∷ blocks) c each all there =
    elim (Contains-append_cases (edges b) (flat_map edges blocks) c there) [
      | inl here ↦ each b (All-head IsBlockInRange b blocks all) here
      | inr rest ↦ near_edges edges blocks c each (All-tail IsBlockInRange b blocks all) rest
    ]

near_fixed : (edges : Block → List ℤ) (x1 x2 : ℤ) (blocks : List Block) (c : ℤ) → IsCoordinate x1 → IsCoordinate x2
    → ((b : Block) → IsBlockInRange b → Contains (edges b) c → IsNear c) → All IsBlockInRange blocks
    → Contains ((pos 2 *ℤ x1) ∷ (pos 2 *ℤ x2) ∷ flat_map edges blocks) c → IsNear c
near_fixed edges x1 x2 blocks c lo hi each all there =
    elim (Contains-cases (pos 2 *ℤ x1) ((pos 2 *ℤ x2) ∷ flat_map edges blocks) c there) [
      | inl same ↦ subst IsNear same (near_double x1 lo)
      | inr rest ↦ elim (Contains-cases (pos 2 *ℤ x2) (flat_map edges blocks) c rest) [
        | inl same ↦ subst IsNear same (near_double x2 hi)
        | inr more ↦ near_edges edges blocks c each all more
      ]
    ]

pub grid_is : (blocks : List Block) (die : Die) (grid : Grid) → AreBlocksInRange blocks → IsDieInRange die → IsGridOf blocks die grid → IsGrid grid
grid_is blocks die grid in_range die_in is =
    let xs : Block → List ℤ = λ b. edges_of b.kind b.x1 b.x2 in
    let ys : Block → List ℤ = λ b. edges_of b.kind b.y1 b.y2 in
    record {
      few_x = few_lines (length grid.xs.items) (length (fixed_xs blocks die)) (count_by (λ block. stops_wires block.kind) blocks) is.xs.count
          (let e = edges_count xs blocks (λ b. two_edges b.kind b.x1 b.x2) in omega (arith, e)) in_range.count;
      few_y = few_lines (length grid.ys.items) (length (fixed_ys blocks die)) (count_by (λ block. stops_wires block.kind) blocks) is.ys.count
          (let e = edges_count ys blocks (λ b. two_edges b.kind b.y1 b.y2) in omega (arith, e)) in_range.count;
      near_x = λ c there. near_fixed xs die.x1 die.x2 blocks c die_in.x1 die_in.x2 (λ b b_in on. near_edge b.kind b.x1 b.x2 c b_in.x1 b_in.x2 on) in_range.each (is.xs.sound c there);
      near_y = λ c there. near_fixed ys die.y1 die.y2 blocks c die_in.y1 die_in.y2 (λ b b_in on. near_edge b.kind b.y1 b.y2 c b_in.y1 b_in.y2 on) in_range.each (is.ys.sound c there);
    }

-- ---- the lines of a window
pub short_lines : (wanted lines : List ℤ) (low high : ℤ) → neg_ℤ (pos (2 ^ 41)) ≤ℤ low → high ≤ℤ pos (2 ^ 41)
    → AreLinesBetween wanted low high lines → length wanted ≤ 132 → AreShortLines lines
short_lines wanted lines low high far_low far_high are few =
    record {
      ascending = are.ascending;
      count = let le = are.count in omega (arith, le, few);
      low = λ k lt. let le = (are.sound (line_at lines k) (contains_at lines k lt)).1.0 in omega (arith, ints);
      high = λ k lt. let le = (are.sound (line_at lines k) (contains_at lines k lt)).1.1 in omega (arith, ints);
    }

pub swap_fixed : (a b : ℤ) (fixed others : List ℤ) → ((c : ℤ) → Contains fixed c → Contains others c) → (c : ℤ) → Contains (a ∷ b ∷ fixed) c → Contains (a ∷ b ∷ others) c
swap_fixed a b fixed others into c there =
    elim (Contains-cases a (b ∷ fixed) c there) [
      | inl same ↦ subst (λ (z : ℤ). Contains (a ∷ b ∷ others) z) same (Contains-first a (b ∷ others))
      | inr rest ↦ elim (Contains-cases b fixed c rest) [
        | inl same ↦ subst (λ (z : ℤ). Contains (a ∷ b ∷ others) z) same (Contains-later a (b ∷ others) b (Contains-first b others))
        | inr more ↦ Contains-later a (b ∷ others) c (Contains-later b others c (into c more))
      ]
    ]

pub near_all : (a b : ℤ) (fixed : List ℤ) → IsNear a → IsNear b → ((c : ℤ) → Contains fixed c → IsNear c) → (c : ℤ) → Contains (a ∷ b ∷ fixed) c → IsNear c
near_all a b fixed near_a near_b near c there =
    elim (Contains-cases a (b ∷ fixed) c there) [
      | inl same ↦ subst IsNear same near_a
      | inr rest ↦ elim (Contains-cases b fixed c rest) [ inl same ↦ subst IsNear same near_b | inr more ↦ near c more ]
    ]

pub near_point-x : (p : Spot) → IsSpotInRange p → IsNear (point_of p).x
near_point-x p is =
    record { low = let a = is.u.low in let b = is.v.low in omega (arith, ints); high = let a = is.u.high in let b = is.v.high in omega (arith, ints) }

pub near_point-y : (p : Spot) → IsSpotInRange p → IsNear (point_of p).y
near_point-y p is =
    record { low = let a = is.u.low in let b = is.v.high in omega (arith, ints); high = let a = is.u.high in let b = is.v.low in omega (arith, ints) }

convex_lines : (wanted lines : List ℤ) (low high : ℤ) → AreLinesBetween wanted low high lines → (a b c : ℤ) → Contains lines a → Contains lines b
    → a ≤ℤ c → c ≤ℤ b → Contains wanted c → Contains lines c
convex_lines wanted lines low high are a b c at_a at_b lo hi there =
    let from : low ≤ℤ a = (are.sound a at_a).1.0 in
    let to : b ≤ℤ high = (are.sound b at_b).1.1 in
    are.complete c there (omega (arith, ints)) (omega (arith, ints))

pub search_of : (blocks : List Block) (die : Die) (grid : Grid) (from to : Spot) (frame : Frame) (window : Window) (goal : ℕ) (labels : List ℕ)
    → IsGridOf blocks die grid → IsWindowOf grid from to frame window → AreLabels window.graph goal labels
    → IsSearch blocks (lines_of blocks die (point_of from) (point_of to)) grid.walls.items window.xs.items window.ys.items window.graph goal labels
search_of blocks die grid from to frame window goal labels of is valid =
    let p : Half = point_of from in
    let q : Half = point_of to in
    record {
      walls_of = of.walls;
      short_x = is.is.short_x;
      short_y = is.is.short_y;
      sound_x = λ c there. swap_fixed p.x q.x grid.xs.items (fixed_xs blocks die) of.xs.sound c (is.xs.sound c there).0;
      sound_y = λ c there. swap_fixed p.y q.y grid.ys.items (fixed_ys blocks die) of.ys.sound c (is.ys.sound c there).0;
      convex_x = λ a b c at_a at_b lo hi there.
          convex_lines (p.x ∷ q.x ∷ grid.xs.items) window.xs.items frame.low.x frame.high.x is.xs a b c at_a at_b lo hi
          (swap_fixed p.x q.x (fixed_xs blocks die) grid.xs.items of.xs.complete c there);
      convex_y = λ a b c at_a at_b lo hi there.
          convex_lines (p.y ∷ q.y ∷ grid.ys.items) window.ys.items frame.low.y frame.high.y is.ys a b c at_a at_b lo hi
          (swap_fixed p.y q.y (fixed_ys blocks die) grid.ys.items of.ys.complete c there);
      steps = is.steps;
      valid = valid;
    }

pub stands_at : (xs ys : List ℤ) (p : Half) (i j : ℕ) → IsNumberOf xs p.x i → IsNumberOf ys p.y j → Stands xs ys p (i * length ys + j)
stands_at xs ys p i j column row =
    let parts : ((i * length ys + j) / length ys ≡ i) × ((i * length ys + j) % length ys ≡ j) = cell_is (i * length ys + j) i j (length ys) row.inside refl in
    record {
      inside = column_end i j (length xs) (length ys) column.inside row.inside;
      at = half_same (point_at xs ys (i * length ys + j)) p
          (point_at-x xs ys (i * length ys + j) ∙ ap (λ (k : ℕ). line_at xs k) parts.0 ∙ column.at)
          (point_at-y xs ys (i * length ys + j) ∙ ap (λ (k : ℕ). line_at ys k) parts.1 ∙ row.at);
    }

pub grid_prepared : (blocks : List Block) (die : Die) (walls : Vec Wall Global) (xs ys : Vec ℤ Global) → AreWallsOf blocks walls.items
    → AreLinesOf (fixed_xs blocks die) xs.items → AreLinesOf (fixed_ys blocks die) ys.items
    → IsGridOf blocks die (record { walls = walls; xs = xs; ys = ys })
grid_prepared blocks die walls xs ys w x y = record { walls = w; xs = x; ys = y }

-- the same lines, as they are named elsewhere
pub same_between : (a b a' b' low high low' high' : ℤ) (fixed fixed' lines lines' : List ℤ) → AreLinesBetween (a ∷ b ∷ fixed) low high lines
    → a ≡ a' → b ≡ b' → fixed ≡ fixed' → low ≡ low' → high ≡ high' → lines ≡ lines' → AreLinesBetween (a' ∷ b' ∷ fixed') low' high' lines'
same_between a b a' b' low high low' high' fixed fixed' lines lines' are e f g h k l =
    subst (λ (x : ℤ). AreLinesBetween (x ∷ b' ∷ fixed') low' high' lines') e
    (subst (λ (x : ℤ). AreLinesBetween (a ∷ x ∷ fixed') low' high' lines') f
    (subst (λ (xs : List ℤ). AreLinesBetween (a ∷ b ∷ xs) low' high' lines') g
    (subst (λ (x : ℤ). AreLinesBetween (a ∷ b ∷ fixed) x high' lines') h
    (subst (λ (x : ℤ). AreLinesBetween (a ∷ b ∷ fixed) low x lines') k
    (subst (λ (xs : List ℤ). AreLinesBetween (a ∷ b ∷ fixed) low high xs) l are)))))

pub first_between : (a b low high : ℤ) (fixed lines : List ℤ) → AreLinesBetween (a ∷ b ∷ fixed) low high lines → low ≤ℤ a → a ≤ℤ high → Contains lines a
first_between a b low high fixed lines are lo hi = are.complete a (Contains-first a (b ∷ fixed)) lo hi

pub second_between : (a b low high : ℤ) (fixed lines : List ℤ) → AreLinesBetween (a ∷ b ∷ fixed) low high lines → low ≤ℤ b → b ≤ℤ high → Contains lines b
second_between a b low high fixed lines are lo hi = are.complete b (Contains-later a (b ∷ fixed) b (Contains-first b fixed)) lo hi

pub few_more : (a b : ℤ) (lines : List ℤ) → length lines ≤ 130 → length (a ∷ b ∷ lines) ≤ 132
few_more a b lines le = omega arith

pub few_blocks : (blocks : List Block) → length blocks ≤ 64 → All IsBlockInRange blocks → AreBlocksInRange blocks
few_blocks blocks few each = record { each = each; count = let le = count_by-le-length (λ (block : Block). stops_wires block.kind) blocks in omega (arith, le, few) }

-- a line between two others, as all three are read
pub read_between : (low at high p : ℤ) → FitsSigned w64 low → FitsSigned w64 at → FitsSigned w64 high → at ≡ p → low ≤ℤ p → p ≤ℤ high
    → (to_z w64 (of_z w64 low) ≤ℤ to_z w64 (of_z w64 at)) × (to_z w64 (of_z w64 at) ≤ℤ to_z w64 (of_z w64 high))
read_between low at high p fits_low fits_at fits_high is above below =
    let l = to_z-of_z w64 low fits_low in
    let m = to_z-of_z w64 at fits_at in
    let h = to_z-of_z w64 high fits_high in
    (omega (arith, ints, l, m), omega (arith, ints, m, h))
