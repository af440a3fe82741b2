-- The edges of a window: where the grid goes on past them, and why no shorter path does where they are shut.
use Rattle.std.proofs.Common.{◌≡◌, false, ℕ, zero, suc, ◌+◌, ◌-◌, ◌*◌, ◌/◌, ◌%◌, ◌/◌, ◌%◌, ◌^◌, ◌<◌, ◌≤◌, inl, inr, ℤ, pos, neg_ℤ, ◌≤ℤ◌, ◌<ℤ◌, List, ◌∷◌, length, slice_index, refl, sym, ap, ◌∙◌, subst, arith}
use Rattle.std.specs.Prelude.{nat_lt}
use Rattle.std.specs.List.{Contains}
use Rattle.std.proofs.lemmas.Bool.{ltb-false}
use Rattle.std.proofs.lemmas.Int.{ints, by_lt_z}
use Rattle.cts_geom.specs.declared.bounds.Die.{Die}
use Rattle.cts_geom.specs.declared.points.Half.{Half}
use Rattle.cts_geom.specs.declared.points.Spot.{Spot}
use Rattle.cts_geom.specs.Points.{manhattan_of, point_of}
use Rattle.cts_geom.specs.Coordinate.{int_abs_diff}
use Rattle.cts_block.specs.declared.blocks.Block.{Block}
use Rattle.cts_route.specs.declared.direction.Direction.{Direction}
use Rattle.cts_route.specs.declared.direction.Direction.TheVariants.{East, West, North, South}
use Rattle.cts_route.specs.declared.frame.Frame.{Frame}
use Rattle.cts_route.specs.declared.grid.Grid.{Grid}
use Rattle.cts_route.specs.declared.view.Edge.{Edge}
use Rattle.cts_route.specs.declared.view.View.{View}
use Rattle.cts_route.specs.Grid.{fixed_xs, fixed_ys, Lines, lines_of, IsJoined}
use Rattle.cts_route.specs.Grids.{IsNear, IsGridOf}
use Rattle.cts_route.specs.LineLists.{line_at, IsAscending, AreLinesBetween}
use Rattle.cts_route.specs.Windows.{point_at, Stands, AreShortLines}
use Rattle.cts_route.specs.WindowOf.{EndsAt, IsOutermost, IsEdge, IsShutTo, IsSearched, IsNoDetour, IsDone}
use Rattle.cts_route.proofs.Cells.{cell_parts, column_inside, row_inside}
use Rattle.cts_route.proofs.Found.{IsClosed, IsSealed}
use Rattle.cts_route.proofs.GridLines.{swap_fixed, near_all, near_point-x, near_point-y, search_of}
use Rattle.cts_route.proofs.Insertions.{contains_at}
use Rattle.cts_route.proofs.Labels.{opposite, sum_short}
use Rattle.cts_route.proofs.Searches.{IsSearch, column_end, stands_on, stands-x, stands-y}
use Rattle.cts_route.proofs.Unique.{by_order}

-- ---- the outermost of some lines
-- of all lines, those from a low one up to a high one
record ArePart (lines part : List ℤ) : Type 0 where
  ascending : IsAscending part
  sound : (c : ℤ) → Contains part c → Contains lines c
  convex : (a b c : ℤ) → Contains part a → Contains part b → a ≤ℤ c → c ≤ℤ b → Contains lines c → Contains part c

-- no line lies between a line outside and the first one
first_line : (lines part : List ℤ) (k : ℕ) (a b : ℤ) → ArePart lines part → k < length part → line_at part k ≡ b → a <ℤ b → Contains lines a
    → ((z : ℤ) → Contains lines z → a <ℤ z → z <ℤ b → ⊥) → (Contains part a → ⊥) → k ≡ 0
first_line lines part zero a b are lt at less there next off = refl
first_line lines part (suc k) a b are lt at less there next off =
    let z : ℤ = line_at part k in
    let below : z <ℤ line_at part (suc k) = are.ascending.below k (suc k) (omega arith) lt in
    let on : Contains part z = contains_at part k (omega arith) in
    by_lt_z {P = suc k ≡ 0} a z
    (λ after. absurd (next z (are.sound z on) after (omega (arith, ints))))
    (λ before. absurd (off (are.convex z b a on (subst (λ (y : ℤ). Contains part y) at (contains_at part (suc k) lt)) before (omega (arith, ints)) there)))

last_line : (lines part : List ℤ) (k : ℕ) (a b : ℤ) → ArePart lines part → k < length part → line_at part k ≡ b → b <ℤ a → Contains lines a
    → ((z : ℤ) → Contains lines z → z <ℤ a → b <ℤ z → ⊥) → (Contains part a → ⊥) → k + 1 ≡ length part
last_line lines part k a b are lt at less there next off =
    by_order (k + 1) (length part)
    (λ inner. let z : ℤ = line_at part (k + 1) in
    let above : line_at part k <ℤ z = are.ascending.below k (k + 1) (omega arith) inner in
    let on : Contains part z = contains_at part (k + 1) inner in
    by_lt_z {P = k + 1 ≡ length part} z a
    (λ before. absurd (next z (are.sound z on) before (omega (arith, ints))))
    (λ after. absurd (off (are.convex b z a (subst (λ (y : ℤ). Contains part y) at (contains_at part k lt)) on (omega (arith, ints)) after there))))
    (λ past. absurd (omega arith))
    (λ same. same)

first_least : (part : List ℤ) (k i : ℕ) → IsAscending part → k ≡ 0 → i < length part → line_at part k ≤ℤ line_at part i
first_least part k zero asc e lt = let at : line_at part k ≡ line_at part 0 = ap (λ (n : ℕ). line_at part n) e in omega (arith, ints)
first_least part k (suc i) asc e lt = let less : line_at part k <ℤ line_at part (suc i) = asc.below k (suc i) (omega (arith, e)) lt in omega (arith, ints)

last_greatest : (part : List ℤ) (k i : ℕ) → IsAscending part → k + 1 ≡ length part → i < length part → line_at part i ≤ℤ line_at part k
last_greatest part k i asc e lt =
    by_order i k
    (λ below. let less : line_at part i <ℤ line_at part k = asc.below i k below (omega (arith, e)) in omega (arith, ints))
    (λ above. absurd (omega (arith, e)))
    (λ same. let at : line_at part i ≡ line_at part k = ap (λ (n : ℕ). line_at part n) same in omega (arith, ints))

-- ---- past an edge
-- what is near and wanted is among the lines where the frame ends
none_below : (wanted lines : List ℤ) (low high a b : ℤ) → AreLinesBetween wanted low high lines → IsNear a → Contains wanted a → Contains lines b → a <ℤ b
    → low ≡ neg_ℤ (pos (2 ^ 41)) → Contains lines a
none_below wanted lines low high a b are near there at_b less e =
    let to : b ≤ℤ high = (are.sound b at_b).1.1 in
    let far : neg_ℤ (pos (2 ^ 41)) ≤ℤ a = near.low in
    are.complete a there (omega (arith, ints)) (omega (arith, ints))

none_above : (wanted lines : List ℤ) (low high a b : ℤ) → AreLinesBetween wanted low high lines → IsNear a → Contains wanted a → Contains lines b → b <ℤ a
    → high ≡ pos (2 ^ 41) → Contains lines a
none_above wanted lines low high a b are near there at_b less e =
    let from : low ≤ℤ b = (are.sound b at_b).1.0 in
    let far : a ≤ℤ pos (2 ^ 41) = near.high in
    are.complete a there (omega (arith, ints)) (omega (arith, ints))

-- a step from p outside the window leads to n in it
record IsEntry (blocks : List Block) (die : Die) (grid : Grid) (from to : Spot) (frame : Frame) (view : View) (d : Direction) (p n : Half) (c : ℕ) : Type 0 where
  done : IsDone grid from to frame view
  of : IsGridOf blocks die grid
  joined : IsJoined blocks (lines_of blocks die (point_of from) (point_of to)) d p n
  off : (k : ℕ) → Stands view.window.xs.items view.window.ys.items p k → ⊥
  at : Stands view.window.xs.items view.window.ys.items n c

entry_search : (blocks : List Block) (die : Die) (grid : Grid) (from to : Spot) (frame : Frame) (view : View) (d : Direction) (p n : Half) (c : ℕ)
    → IsEntry blocks die grid from to frame view d p n c
    → IsSearch blocks (lines_of blocks die (point_of from) (point_of to)) grid.walls.items view.window.xs.items view.window.ys.items view.window.graph view.table.goal view.table.labels.items
entry_search blocks die grid from to frame view d p n c entry =
    search_of blocks die grid from to frame view.window view.table.goal view.table.labels.items entry.of entry.done.view_is.window_is entry.done.view_is.searched.valid

-- what a line outside along x is like
record IsPastX (blocks : List Block) (die : Die) (grid : Grid) (from to : Spot) (frame : Frame) (view : View) (p n : Half) (c : ℕ) : Type 0 where
  part : ArePart (lines_of blocks die (point_of from) (point_of to)).xs view.window.xs.items
  wanted : Contains ((point_of from).x ∷ (point_of to).x ∷ grid.xs.items) p.x
  near : IsNear p.x
  number : c / length view.window.ys.items < length view.window.xs.items
  at : line_at view.window.xs.items (c / length view.window.ys.items) ≡ n.x
  there : Contains view.window.xs.items n.x
  off : Contains view.window.xs.items p.x → ⊥

past_x : (blocks : List Block) (die : Die) (grid : Grid) (from to : Spot) (frame : Frame) (view : View) (d : Direction) (p n : Half) (c : ℕ)
    → IsEntry blocks die grid from to frame view d p n c → p.y ≡ n.y → IsPastX blocks die grid from to frame view p n c
past_x blocks die grid from to frame view d p n c entry same =
    let xs : List ℤ = view.window.xs.items in
    let ys : List ℤ = view.window.ys.items in
    let search = entry_search blocks die grid from to frame view d p n c entry in
    let inside = column_inside c (length xs) (length ys) entry.at.inside in
    let at : line_at xs (c / length ys) ≡ n.x = stands-x xs ys n c entry.at in
    let row : Contains ys n.y = subst (λ (z : ℤ). Contains ys z) (stands-y xs ys n c entry.at) (contains_at ys (c % length ys) (row_inside c (length xs) (length ys) entry.at.inside)) in
    let wanted : Contains ((point_of from).x ∷ (point_of to).x ∷ grid.xs.items) p.x =
    swap_fixed (point_of from).x (point_of to).x (fixed_xs blocks die) grid.xs.items entry.of.xs.complete p.x entry.joined.start.x in
    record {
      part = record { ascending = search.short_x.ascending; sound = search.sound_x; convex = search.convex_x };
      wanted = wanted;
      near = near_all (point_of from).x (point_of to).x grid.xs.items (near_point-x from entry.done.from_in) (near_point-x to entry.done.to_in) entry.done.grid_is.near_x p.x wanted;
      number = inside.1;
      at = at;
      there = subst (λ (z : ℤ). Contains xs z) at (contains_at xs (c / length ys) inside.1);
      off = λ on. let stands = stands_on xs ys p on (subst (λ (z : ℤ). Contains ys z) (sym same) row) in entry.off stands.0 stands.1;
    }

-- and along y
record IsPastY (blocks : List Block) (die : Die) (grid : Grid) (from to : Spot) (frame : Frame) (view : View) (p n : Half) (c : ℕ) : Type 0 where
  part : ArePart (lines_of blocks die (point_of from) (point_of to)).ys view.window.ys.items
  wanted : Contains ((point_of from).y ∷ (point_of to).y ∷ grid.ys.items) p.y
  near : IsNear p.y
  number : c % length view.window.ys.items < length view.window.ys.items
  at : line_at view.window.ys.items (c % length view.window.ys.items) ≡ n.y
  there : Contains view.window.ys.items n.y
  off : Contains view.window.ys.items p.y → ⊥

past_y : (blocks : List Block) (die : Die) (grid : Grid) (from to : Spot) (frame : Frame) (view : View) (d : Direction) (p n : Half) (c : ℕ)
    → IsEntry blocks die grid from to frame view d p n c → p.x ≡ n.x → IsPastY blocks die grid from to frame view p n c
past_y blocks die grid from to frame view d p n c entry same =
    let xs : List ℤ = view.window.xs.items in
    let ys : List ℤ = view.window.ys.items in
    let search = entry_search blocks die grid from to frame view d p n c entry in
    let inside = row_inside c (length xs) (length ys) entry.at.inside in
    let at : line_at ys (c % length ys) ≡ n.y = stands-y xs ys n c entry.at in
    let column : Contains xs n.x = subst (λ (z : ℤ). Contains xs z) (stands-x xs ys n c entry.at) (contains_at xs (c / length ys) (column_inside c (length xs) (length ys) entry.at.inside).1) in
    let wanted : Contains ((point_of from).y ∷ (point_of to).y ∷ grid.ys.items) p.y =
    swap_fixed (point_of from).y (point_of to).y (fixed_ys blocks die) grid.ys.items entry.of.ys.complete p.y entry.joined.start.y in
    record {
      part = record { ascending = search.short_y.ascending; sound = search.sound_y; convex = search.convex_y };
      wanted = wanted;
      near = near_all (point_of from).y (point_of to).y grid.ys.items (near_point-y from entry.done.from_in) (near_point-y to entry.done.to_in) entry.done.grid_is.near_y p.y wanted;
      number = inside;
      at = at;
      there = subst (λ (z : ℤ). Contains ys z) at (contains_at ys (c % length ys) inside);
      off = λ on. let stands = stands_on xs ys p (subst (λ (z : ℤ). Contains xs z) (sym same) column) on in entry.off stands.0 stands.1;
    }

-- the step comes in over the edge, where the frame does not end
leads_over : (blocks : List Block) (die : Die) (grid : Grid) (from to : Spot) (frame : Frame) (view : View) (d : Direction) (p n : Half) (c : ℕ)
    → IsEntry blocks die grid from to frame view d p n c
    → IsOutermost (length view.window.xs.items) (length view.window.ys.items) (opposite d) c × (EndsAt frame (opposite d) → ⊥)
unfolding opposite
leads_over blocks die grid from to frame view East p n c entry =
    let j = entry.joined in
    let past = past_x blocks die grid from to frame view East p n c entry j.ahead.1 in (
      first_line (lines_of blocks die (point_of from) (point_of to)).xs view.window.xs.items (c / length view.window.ys.items) p.x n.x past.part past.number past.at j.ahead.0 j.start.x
          (λ z there after before. j.nearest (record { x = z; y = p.y }) (record { x = there; y = j.start.y }) (after, refl) (before, j.ahead.1)) past.off,
      λ ends. past.off (none_below _ view.window.xs.items frame.low.x frame.high.x p.x n.x entry.done.view_is.window_is.xs past.near past.wanted past.there j.ahead.0 ends),
    )
leads_over blocks die grid from to frame view West p n c entry =
    let j = entry.joined in
    let past = past_x blocks die grid from to frame view West p n c entry j.ahead.1 in (
      last_line (lines_of blocks die (point_of from) (point_of to)).xs view.window.xs.items (c / length view.window.ys.items) p.x n.x past.part past.number past.at j.ahead.0 j.start.x
          (λ z there before after. j.nearest (record { x = z; y = p.y }) (record { x = there; y = j.start.y }) (before, refl) (after, j.ahead.1)) past.off,
      λ ends. past.off (none_above _ view.window.xs.items frame.low.x frame.high.x p.x n.x entry.done.view_is.window_is.xs past.near past.wanted past.there j.ahead.0 ends),
    )
leads_over blocks die grid from to frame view North p n c entry =
    let j = entry.joined in
    let past = past_y blocks die grid from to frame view North p n c entry j.ahead.0 in (
      first_line (lines_of blocks die (point_of from) (point_of to)).ys view.window.ys.items (c % length view.window.ys.items) p.y n.y past.part past.number past.at j.ahead.1 j.start.y
          (λ z there after before. j.nearest (record { x = p.x; y = z }) (record { x = j.start.x; y = there }) (refl, after) (j.ahead.0, before)) past.off,
      λ ends. past.off (none_below _ view.window.ys.items frame.low.y frame.high.y p.y n.y entry.done.view_is.window_is.ys past.near past.wanted past.there j.ahead.1 ends),
    )
leads_over blocks die grid from to frame view South p n c entry =
    let j = entry.joined in
    let past = past_y blocks die grid from to frame view South p n c entry j.ahead.0 in (
      last_line (lines_of blocks die (point_of from) (point_of to)).ys view.window.ys.items (c % length view.window.ys.items) p.y n.y past.part past.number past.at j.ahead.1 j.start.y
          (λ z there before after. j.nearest (record { x = p.x; y = z }) (record { x = j.start.x; y = there }) (refl, before) (j.ahead.0, after)) past.off,
      λ ends. past.off (none_above _ view.window.ys.items frame.low.y frame.high.y p.y n.y entry.done.view_is.window_is.ys past.near past.wanted past.there j.ahead.1 ends),
    )

-- ---- what a way over an edge costs
past_low : (s p n : ℤ) → p <ℤ n → n ≤ℤ s → int_abs_diff s n < int_abs_diff p n + int_abs_diff s p
past_low s p n less le = omega (arith, ints)

past_high : (s p n : ℤ) → n <ℤ p → s ≤ℤ n → int_abs_diff s n < int_abs_diff p n + int_abs_diff s p
past_high s p n less le = omega (arith, ints)

level : (s p n : ℤ) → p ≡ n → int_abs_diff s n ≤ int_abs_diff p n + int_abs_diff s p
level s p n e = omega (arith, ints)

sum_x : (x y x1 y1 x2 y2 : ℕ) → x < x1 + x2 → y ≤ y1 + y2 → x + y < (x1 + y1) + (x2 + y2)
sum_x x y x1 y1 x2 y2 h k = omega arith

sum_y : (x y x1 y1 x2 y2 : ℕ) → x ≤ x1 + x2 → y < y1 + y2 → x + y < (x1 + y1) + (x2 + y2)
sum_y x y x1 y1 x2 y2 h k = omega arith

line_le : (a b x y : ℤ) → a ≡ x → b ≡ y → a ≤ℤ b → x ≤ℤ y
line_le a b x y e f le = omega (arith, ints)

-- from a point s of the window to n, by p outside
way_over : (blocks : List Block) (lines : Lines) (xs ys : List ℤ) (d : Direction) (s p n : Half) (start c : ℕ) → IsAscending xs → IsAscending ys
    → IsJoined blocks lines d p n → IsOutermost (length xs) (length ys) (opposite d) c → Stands xs ys s start → Stands xs ys n c
    → manhattan_of s n < manhattan_of p n + manhattan_of s p
unfolding opposite
way_over blocks lines xs ys East s p n start c asc_x asc_y j outer at_s at_n =
    sum_x _ _ _ _ _ _
    (past_low s.x p.x n.x j.ahead.0 (line_le _ _ n.x s.x (stands-x xs ys n c at_n) (stands-x xs ys s start at_s)
    (first_least xs (c / length ys) (start / length ys) asc_x outer (column_inside start (length xs) (length ys) at_s.inside).1)))
    (level s.y p.y n.y j.ahead.1)
way_over blocks lines xs ys West s p n start c asc_x asc_y j outer at_s at_n =
    sum_x _ _ _ _ _ _
    (past_high s.x p.x n.x j.ahead.0 (line_le _ _ s.x n.x (stands-x xs ys s start at_s) (stands-x xs ys n c at_n)
    (last_greatest xs (c / length ys) (start / length ys) asc_x outer (column_inside start (length xs) (length ys) at_s.inside).1)))
    (level s.y p.y n.y j.ahead.1)
way_over blocks lines xs ys North s p n start c asc_x asc_y j outer at_s at_n =
    sum_y _ _ _ _ _ _ (level s.x p.x n.x j.ahead.0)
    (past_low s.y p.y n.y j.ahead.1 (line_le _ _ n.y s.y (stands-y xs ys n c at_n) (stands-y xs ys s start at_s)
    (first_least ys (c % length ys) (start % length ys) asc_y outer (row_inside start (length xs) (length ys) at_s.inside))))
way_over blocks lines xs ys South s p n start c asc_x asc_y j outer at_s at_n =
    sum_y _ _ _ _ _ _ (level s.x p.x n.x j.ahead.0)
    (past_high s.y p.y n.y j.ahead.1 (line_le _ _ s.y n.y (stands-y xs ys s start at_s) (stands-y xs ys n c at_n)
    (last_greatest ys (c % length ys) (start % length ys) asc_y outer (row_inside start (length xs) (length ys) at_s.inside))))

-- ---- where the edges are shut
no_detour : (blocks : List Block) (die : Die) (grid : Grid) (from to : Spot) (frame : Frame) (view : View) (d : Direction) (p n : Half) (c : ℕ)
    → IsEntry blocks die grid from to frame view d p n c
    → slice_index view.table.labels.items view.start ≤ slice_index view.table.labels.items c + manhattan_of (point_of from) n
no_detour blocks die grid from to frame view d p n c entry =
    let view_is = entry.done.view_is in
    let over = leads_over blocks die grid from to frame view d p n c entry in
    let inside : c < length view.table.labels.items =
    (let a = entry.at.inside in let b = view_is.searched.valid.size in let e = view_is.searched.window.cells in omega (arith, a, b, e)) in
    elim (entry.done.shut.to (opposite d)).either [
      | inl ends ↦ absurd (over.1 ends)
      | inr all ↦
          let le = (all c inside over.0).no_shorter in
          let s = ap (λ (r : Half). manhattan_of r (point_at view.window.xs.items view.window.ys.items c)) view_is.at_start.at in
          let e = ap (λ (r : Half). manhattan_of (point_of from) r) entry.at.at in
          omega (arith, le, s, e)
    ]

pub shut_closed : (blocks : List Block) (die : Die) (grid : Grid) (from to : Spot) (frame : Frame) (view : View) → IsDone grid from to frame view → IsGridOf blocks die grid
    → IsClosed blocks (lines_of blocks die (point_of from) (point_of to)) view.window.xs.items view.window.ys.items view.table.labels.items
    (slice_index view.table.labels.items view.start) (point_of from)
shut_closed blocks die grid from to frame view done of =
    record {
      longer = λ d p n j off c at.
          let entry : IsEntry blocks die grid from to frame view d p n c = record { done = done; of = of; joined = j; off = off; at = at } in
          let over = leads_over blocks die grid from to frame view d p n c entry in
          let window = done.view_is.searched.window in
          let way = way_over blocks (lines_of blocks die (point_of from) (point_of to)) view.window.xs.items view.window.ys.items d (point_of from) p n view.start c
          window.short_x.ascending window.short_y.ascending j over.0 done.view_is.at_start at in
          let le = no_detour blocks die grid from to frame view d p n c entry in
          omega (arith, way, le);
    }

-- ---- where they are, no label leads out
near_apart : (a b : ℤ) → neg_ℤ (pos (2 ^ 41)) ≤ℤ a → a ≤ℤ pos (2 ^ 41) → neg_ℤ (pos (2 ^ 41)) ≤ℤ b → b ≤ℤ pos (2 ^ 41) → int_abs_diff a b ≤ 2 ^ 42
near_apart a b h k l m = omega (arith, ints)

pub apart_in_window : (xs ys : List ℤ) (p q : Half) (c n : ℕ) → AreShortLines xs → AreShortLines ys → Stands xs ys p c → Stands xs ys q n
    → (int_abs_diff p.x q.x ≤ 2 ^ 42) × (int_abs_diff p.y q.y ≤ 2 ^ 42)
apart_in_window xs ys p q c n short_x short_y at_p at_q =
    let px : line_at xs (c / length ys) ≡ p.x = stands-x xs ys p c at_p in
    let qx : line_at xs (n / length ys) ≡ q.x = stands-x xs ys q n at_q in
    let py : line_at ys (c % length ys) ≡ p.y = stands-y xs ys p c at_p in
    let qy : line_at ys (n % length ys) ≡ q.y = stands-y xs ys q n at_q in
    let ci = (column_inside c (length xs) (length ys) at_p.inside).1 in
    let ni = (column_inside n (length xs) (length ys) at_q.inside).1 in
    let cj = row_inside c (length xs) (length ys) at_p.inside in
    let nj = row_inside n (length xs) (length ys) at_q.inside in (
      near_apart p.x q.x (low px (short_x.low (c / length ys) ci)) (high px (short_x.high (c / length ys) ci))
          (low qx (short_x.low (n / length ys) ni)) (high qx (short_x.high (n / length ys) ni)),
      near_apart p.y q.y (low py (short_y.low (c % length ys) cj)) (high py (short_y.high (c % length ys) cj))
          (low qy (short_y.low (n % length ys) nj)) (high qy (short_y.high (n % length ys) nj)),
    )
  where
    low : {a b : ℤ} → a ≡ b → neg_ℤ (pos (2 ^ 41)) ≤ℤ a → neg_ℤ (pos (2 ^ 41)) ≤ℤ b
    low e le = omega (arith, ints)

    high : {a b : ℤ} → a ≡ b → a ≤ℤ pos (2 ^ 41) → b ≤ℤ pos (2 ^ 41)
    high e le = omega (arith, ints)

-- ---- one point of an edge
-- how far a point of the window is from the start, along x and along y
pub start_apart : (view : View) (c : ℕ) → IsSearched view → c < length view.table.labels.items
    → (int_abs_diff (point_at view.window.xs.items view.window.ys.items view.start).x (point_at view.window.xs.items view.window.ys.items c).x ≤ 2 ^ 42)
    × (int_abs_diff (point_at view.window.xs.items view.window.ys.items view.start).y (point_at view.window.xs.items view.window.ys.items c).y ≤ 2 ^ 42)
start_apart view c searched inside =
    let xs : List ℤ = view.window.xs.items in
    let ys : List ℤ = view.window.ys.items in
    let size = searched.valid.size in
    let cells = searched.window.cells in
    let start_in = searched.start_inside in
    apart_in_window xs ys (point_at xs ys view.start) (point_at xs ys c) view.start c searched.window.short_x searched.window.short_y
    (record { inside = omega (arith, size, cells, start_in); at = refl }) (record { inside = omega (arith, size, cells, inside); at = refl })

pub shut_sealed : (blocks : List Block) (die : Die) (grid : Grid) (from to : Spot) (frame : Frame) (view : View) → IsDone grid from to frame view → IsGridOf blocks die grid
    → 2 ^ 64 - 1 ≤ slice_index view.table.labels.items view.start
    → IsSealed blocks (lines_of blocks die (point_of from) (point_of to)) view.window.xs.items view.window.ys.items view.table.labels.items
shut_sealed blocks die grid from to frame view done of none =
    record {
      sealed = λ d p n j off c at reached.
          let entry : IsEntry blocks die grid from to frame view d p n c = record { done = done; of = of; joined = j; off = off; at = at } in
          let searched = done.view_is.searched in
          let le = no_detour blocks die grid from to frame view d p n c entry in
          let far = apart_in_window view.window.xs.items view.window.ys.items (point_of from) n view.start c searched.window.short_x searched.window.short_y done.view_is.at_start at in
          let inside : c < length view.table.labels.items =
          (let a = at.inside in let b = searched.valid.size in let e = searched.window.cells in omega (arith, a, b, e)) in
          let bound = sum_short view.window.graph view.table.goal view.table.labels.items c (manhattan_of (point_of from) n) searched.window.graph searched.valid inside reached
          (let x = far.0 in let y = far.1 in omega (arith, x, y)) in
          absurd (omega (arith, none, le, bound));
    }

-- the label and the distance, as they were read
pub at_most_over : (view : View) (c : ℕ) (p q : Half) (x y found label less : ℕ) → p ≡ point_at view.window.xs.items view.window.ys.items view.start
    → q ≡ point_at view.window.xs.items view.window.ys.items c → x ≡ int_abs_diff p.x q.x → y ≡ int_abs_diff p.y q.y
    → found ≡ slice_index view.table.labels.items view.start → label ≡ slice_index view.table.labels.items c → less ≡ found - label → nat_lt (x + y) less ≡ false → IsNoDetour view c
at_most_over view c p q x y found label less at_p at_q far_x far_y e f g le =
    let px = ap (λ (r : Half). int_abs_diff r.x q.x) at_p in
    let qx = ap (λ (r : Half). int_abs_diff (point_at view.window.xs.items view.window.ys.items view.start).x r.x) at_q in
    let py = ap (λ (r : Half). int_abs_diff r.y q.y) at_p in
    let qy = ap (λ (r : Half). int_abs_diff (point_at view.window.xs.items view.window.ys.items view.start).y r.y) at_q in
    let dx = far_x ∙ px ∙ qx in
    let dy = far_y ∙ py ∙ qy in
    record { no_shorter = over _ _ found label x y _ _ e f (g_le found label less x y g le) dx dy }
  where
    g_le : (found label less x y : ℕ) → less ≡ found - label → nat_lt (x + y) less ≡ false → found ≤ label + (x + y)
    g_le found label less x y g le = let at = ltb-false (x + y) less le in omega (arith, at)

    over : (a b found label x y dx dy : ℕ) → found ≡ a → label ≡ b → found ≤ label + (x + y) → x ≡ dx → y ≡ dy → a ≤ b + (dx + dy)
    over a b found label x y dx dy e f le h k = omega arith

pub read_point : (c : ℕ) (p : Half) (xs ys xs' ys' : List ℤ) → p ≡ point_at xs ys c → xs ≡ xs' → ys ≡ ys' → p ≡ point_at xs' ys' c
read_point c p xs ys xs' ys' at e f = at ∙ ap (λ (ls : List ℤ). point_at ls ys c) e ∙ ap (λ (ls : List ℤ). point_at xs' ls c) f

-- ---- the points of an edge by number
pub east_edge : (w h : ℕ) (d : Direction) → 0 < w → d ≡ East → IsEdge w h d (record { first = (w - 1) * h; step = 1; count = h })
east_edge w h d some e =
    subst (λ (f : Direction). IsEdge w h f (record { first = (w - 1) * h; step = 1; count = h })) (sym e)
    (record {
      inside = λ k lt. let lt' = column_end (w - 1) k w h (omega arith) lt in omega (arith, lt');
      all = λ c inside outer.
          let parts = cell_parts c h (column_inside c w h inside).0 in
          let column : (c / h) * h ≡ (w - 1) * h = ap (λ (n : ℕ). n * h) (before (c / h) w outer) in
          (c % h, (parts.1, (let at = parts.0 in omega (arith, at, column))));
    })
  where
    before : (n w : ℕ) → n + 1 ≡ w → n ≡ w - 1
    before n w e = omega arith

pub west_edge : (w h : ℕ) (d : Direction) → 0 < w → d ≡ West → IsEdge w h d (record { first = 0; step = 1; count = h })
west_edge w h d some e =
    subst (λ (f : Direction). IsEdge w h f (record { first = 0; step = 1; count = h })) (sym e)
    (record {
      inside = λ k lt. let lt' = column_end 0 k w h some lt in omega (arith, lt');
      all = λ c inside outer.
          let parts = cell_parts c h (column_inside c w h inside).0 in
          let column : (c / h) * h ≡ 0 * h = ap (λ (n : ℕ). n * h) outer in
          (c % h, (parts.1, (let at = parts.0 in omega (arith, at, column))));
    })

pub north_edge : (w h : ℕ) (d : Direction) → 0 < h → d ≡ North → IsEdge w h d (record { first = h - 1; step = h; count = w })
north_edge w h d some e =
    subst (λ (f : Direction). IsEdge w h f (record { first = h - 1; step = h; count = w })) (sym e)
    (record {
      inside = λ k lt. let lt' = column_end k (h - 1) w h lt (omega arith) in omega (arith, lt');
      all = λ c inside outer.
          let parts = cell_parts c h (column_inside c w h inside).0 in
          (c / h, ((column_inside c w h inside).1, (let at = parts.0 in omega (arith, at, outer))));
    })

pub south_edge : (w h : ℕ) (d : Direction) → 0 < h → d ≡ South → IsEdge w h d (record { first = 0; step = h; count = w })
south_edge w h d some e =
    subst (λ (f : Direction). IsEdge w h f (record { first = 0; step = h; count = w })) (sym e)
    (record {
      inside = λ k lt. let lt' = column_end k 0 w h lt some in omega (arith, lt');
      all = λ c inside outer.
          let parts = cell_parts c h (column_inside c w h inside).0 in
          (c / h, ((column_inside c w h inside).1, (let at = parts.0 in omega (arith, at, outer))));
    })

-- a window has lines along both axes
pub some_lines : (view : View) → IsSearched view → (0 < length view.window.xs.items) × (0 < length view.window.ys.items)
some_lines view searched =
    let start_in : view.start < length view.window.xs.items * length view.window.ys.items =
    (let a = searched.start_inside in let b = searched.valid.size in let e = searched.window.cells in omega (arith, a, b, e)) in
    let inside = column_inside view.start (length view.window.xs.items) (length view.window.ys.items) start_in in
    (let lt = inside.1 in omega (arith, lt), inside.0)

pub edge_shut : (frame : Frame) (view : View) (d : Direction) (w h : ℕ) (edge : Edge) → IsSearched view → w ≡ length view.window.xs.items → h ≡ length view.window.ys.items
    → IsEdge w h d edge → ((k : ℕ) → k < edge.count → IsNoDetour view (edge.first + k * edge.step)) → IsShutTo frame view d
edge_shut frame view d w h edge searched e f is all =
    let here : IsEdge (length view.window.xs.items) (length view.window.ys.items) d edge =
    subst (λ (n : ℕ). IsEdge n (length view.window.ys.items) d edge) e (subst (λ (n : ℕ). IsEdge w n d edge) f is) in
    record {
      either = inr (λ c inside outer.
          let k = here.all c (let a = searched.valid.size in let b = searched.window.cells in omega (arith, inside, a, b)) outer in
          subst (IsNoDetour view) (sym k.1.1) (all k.0 k.1.0));
    }

-- a point of an edge is one of the window, and its number is small
pub edge_inside : (view : View) (d : Direction) (w h k : ℕ) (edge : Edge) → IsSearched view → w ≡ length view.window.xs.items → h ≡ length view.window.ys.items
    → IsEdge w h d edge → k < edge.count → (edge.first + k * edge.step < length view.table.labels.items) × (edge.first + k * edge.step < 2 ^ 18)
edge_inside view d w h k edge searched e f is lt =
    let a = searched.valid.size in
    let b = searched.window.cells in
    let g = searched.window.graph.size in
    let size : w * h ≡ length view.window.xs.items * length view.window.ys.items = ap (λ (n : ℕ). n * h) e ∙ ap (λ (n : ℕ). length view.window.xs.items * n) f in
    let inside = is.inside k lt in
    (omega (arith, a, b, size, inside), omega (arith, a, b, g, size, inside))
