-- The setting of a search in a window of a grid: its steps and the joined points of the grid.
use Rattle.std.proofs.Common.{◌≡◌, ℕ, ◌+◌, ◌*◌, ◌/◌, ◌%◌, ◌<◌, ◌≤◌, inl, inr, ℤ, ◌≤ℤ◌, ◌<ℤ◌, List, length, slice_index, refl, sym, ap, ◌∙◌, subst, arith}
use Rattle.std.specs.List.{Contains}
use Rattle.std.proofs.lemmas.Int.{ints}
use Rattle.std.proofs.Math.Nat.{mul-le-mul_left}
use Rattle.cts_geom.specs.declared.points.Half.{Half}
use Rattle.cts_geom.specs.Coordinate.{int_abs_diff}
use Rattle.cts_geom.specs.Points.{manhattan_of}
use Rattle.cts_geom.proofs.PointLemmas.{half_same}
use Rattle.cts_block.specs.declared.blocks.Block.{Block}
use Rattle.cts_route.specs.declared.direction.Direction.{Direction}
use Rattle.cts_route.specs.declared.direction.Direction.TheVariants.{East, West, North, South}
use Rattle.cts_route.specs.declared.graph.Graph.{Graph}
use Rattle.cts_route.specs.declared.wall.Wall.{Wall}
use Rattle.cts_tree.specs.Path.{IsWithin}
use Rattle.cts_route.specs.Grid.{IsAhead, Lines, IsGridPoint, IsClear, IsJoined}
use Rattle.cts_route.specs.LineLists.{line_at, IsAscending}
use Rattle.cts_route.specs.Search.{IsStep, AreLabels}
use Rattle.cts_route.specs.Walls.{MissesWalls, AreWallsOf}
use Rattle.cts_route.specs.Windows.{point_at, Stands, IsStepLength, IsGraphOf, AreShortLines}
use Rattle.cts_route.proofs.Ahead.{IsEastStep, IsNorthStep, east_step, north_step}
use Rattle.cts_route.proofs.Cells.{cell_is, cell_parts, column_inside, row_inside}
use Rattle.cts_route.proofs.Insertions.{contains_at, number_of}
use Rattle.cts_route.proofs.Labels.{opposite, step_back}
use Rattle.cts_route.proofs.Steps.{point_at-x, point_at-y, east_parts, north_parts, north_inside, IsEastOf, IsNorthOf, east_of, north_of}
use Rattle.cts_route.proofs.Unique.{by_order, ahead-apart}

-- ---- the setting: the graph has the walls of a grid, and those of its lines that lie between two bounds
pub record IsSearch (blocks : List Block) (lines : Lines) (walls : List Wall) (xs ys : List ℤ) (graph : Graph) (goal : ℕ) (labels : List ℕ) : Type 0 where
  pub walls_of : AreWallsOf blocks walls
  pub short_x : AreShortLines xs
  pub short_y : AreShortLines ys
  pub sound_x : (c : ℤ) → Contains xs c → Contains lines.xs c
  pub sound_y : (c : ℤ) → Contains ys c → Contains lines.ys c
  pub convex_x : (a b c : ℤ) → Contains xs a → Contains xs b → a ≤ℤ c → c ≤ℤ b → Contains lines.xs c → Contains xs c
  pub convex_y : (a b c : ℤ) → Contains ys a → Contains ys b → a ≤ℤ c → c ≤ℤ b → Contains lines.ys c → Contains ys c
  pub steps : IsGraphOf walls xs ys graph
  pub valid : AreLabels graph goal labels

-- ---- clear segments
turn_within : (a b c : ℤ) → IsWithin a b c → IsWithin b a c
turn_within a b c (inl h) = inr h
turn_within a b c (inr h) = inl h

pub clear_back_way : (blocks : List Block) (p q : Half) → IsClear blocks p q → IsClear blocks q p
clear_back_way blocks p q clear = λ r on.
    clear r (record { x = turn_within q.x p.x r.x on.x; y = turn_within q.y p.y r.y on.y })

pub clear_from_misses : (blocks : List Block) (walls : List Wall) (p q : Half) → AreWallsOf blocks walls → MissesWalls walls p q → IsClear blocks p q
unfolding MissesWalls
clear_from_misses blocks walls p q are misses = λ r on. are.open_there r (misses r on)

pub misses_from_clear : (blocks : List Block) (walls : List Wall) (p q : Half) → AreWallsOf blocks walls → IsClear blocks p q → MissesWalls walls p q
unfolding MissesWalls
misses_from_clear blocks walls p q are clear = λ r on. are.outside r (clear r on)

-- ---- joined points turned round
pub ahead_back : (d : Direction) (p q : Half) → IsAhead d p q → IsAhead (opposite d) q p
unfolding opposite
ahead_back East p q ahead = (ahead.0, sym ahead.1)
ahead_back West p q ahead = (ahead.0, sym ahead.1)
ahead_back North p q ahead = (sym ahead.0, ahead.1)
ahead_back South p q ahead = (sym ahead.0, ahead.1)

pub joined_back : (blocks : List Block) (lines : Lines) (d : Direction) (p q : Half) → IsJoined blocks lines d p q → IsJoined blocks lines (opposite d) q p
unfolding opposite
joined_back blocks lines East p q j = record { start = j.next; next = j.start; ahead = ahead_back East p q j.ahead; nearest = λ r on a b. j.nearest r on (b.0, sym b.1) (a.0, sym a.1); clear = clear_back_way blocks p q j.clear }
joined_back blocks lines West p q j = record { start = j.next; next = j.start; ahead = ahead_back West p q j.ahead; nearest = λ r on a b. j.nearest r on (b.0, sym b.1) (a.0, sym a.1); clear = clear_back_way blocks p q j.clear }
joined_back blocks lines North p q j = record { start = j.next; next = j.start; ahead = ahead_back North p q j.ahead; nearest = λ r on a b. j.nearest r on (sym b.0, b.1) (sym a.0, a.1); clear = clear_back_way blocks p q j.clear }
joined_back blocks lines South p q j = record { start = j.next; next = j.start; ahead = ahead_back South p q j.ahead; nearest = λ r on a b. j.nearest r on (sym b.0, b.1) (sym a.0, a.1); clear = clear_back_way blocks p q j.clear }

pub manhattan-back : (p q : Half) → manhattan_of p q ≡ manhattan_of q p
manhattan-back p q =
    let x : int_abs_diff p.x q.x ≡ int_abs_diff q.x p.x = omega (arith, ints) in
    let y : int_abs_diff p.y q.y ≡ int_abs_diff q.y p.y = omega (arith, ints) in
    omega (arith, x, y)

-- ---- lines in ascending order
-- between a line and the next one there is none
none_between_next : (lines : List ℤ) (i : ℕ) (c : ℤ) → IsAscending lines → i + 1 < length lines → Contains lines c
    → line_at lines i <ℤ c → c <ℤ line_at lines (i + 1) → ⊥
none_between_next lines i c asc inside there above below =
    let k : (k : ℕ) × ((k < length lines) × (line_at lines k ≡ c)) = number_of lines c there in
    let at : line_at lines k.0 ≡ c = k.1.1 in
    let lt : k.0 < length lines = k.1.0 in
    by_order k.0 i
    (λ less. let l : line_at lines k.0 <ℤ line_at lines i = asc.below k.0 i less (omega arith) in absurd (omega (arith, ints)))
    (λ more. by_order k.0 (i + 1)
    (λ less. absurd (omega arith))
    (λ past. let l : line_at lines (i + 1) <ℤ line_at lines k.0 = asc.below (i + 1) k.0 past lt in absurd (omega (arith, ints)))
    (λ same. let l : line_at lines k.0 ≡ line_at lines (i + 1) = ap (λ (x : ℕ). line_at lines x) same in absurd (omega (arith, ints))))
    (λ same. let l : line_at lines k.0 ≡ line_at lines i = ap (λ (x : ℕ). line_at lines x) same in absurd (omega (arith, ints)))

-- the line with a number above another one's, and none between, is the next
next_number : (lines : List ℤ) (i k : ℕ) → IsAscending lines → i < length lines → k < length lines → line_at lines i <ℤ line_at lines k
    → ((c : ℤ) → Contains lines c → line_at lines i <ℤ c → c <ℤ line_at lines k → ⊥) → k ≡ i + 1
next_number lines i k asc i_in k_in less none =
    by_order k (i + 1)
    (λ below. by_order k i
    (λ under. let l : line_at lines k <ℤ line_at lines i = asc.below k i under i_in in absurd (omega (arith, ints)))
    (λ over. absurd (omega arith))
    (λ same. let l : line_at lines k ≡ line_at lines i = ap (λ (x : ℕ). line_at lines x) same in absurd (omega (arith, ints))))
    (λ above. absurd (none (line_at lines (i + 1)) (contains_at lines (i + 1) (omega arith))
    (asc.below i (i + 1) (omega arith) (omega arith)) (asc.below (i + 1) k above k_in)))
    (λ same. same)

same_number : (lines : List ℤ) (i k : ℕ) → IsAscending lines → i < length lines → k < length lines → line_at lines i ≡ line_at lines k → i ≡ k
same_number lines i k asc i_in k_in e =
    by_order i k
    (λ less. let l : line_at lines i <ℤ line_at lines k = asc.below i k less k_in in absurd (omega (arith, ints)))
    (λ more. let l : line_at lines k <ℤ line_at lines i = asc.below k i more i_in in absurd (omega (arith, ints)))
    (λ same. same)

-- ---- points and their numbers
pub column_end : (k l w h : ℕ) → k < w → l < h → k * h + l < w * h
column_end k l w h column row =
    let le = mul-le-mul_left h (up column) in omega (arith, le)
  where
    up : {a b : ℕ} → a < b → a + 1 ≤ b
    up lt = omega arith

pub grid_point : (blocks : List Block) (lines : Lines) (walls : List Wall) (xs ys : List ℤ) (graph : Graph) (goal : ℕ) (labels : List ℕ)
    → IsSearch blocks lines walls xs ys graph goal labels → (c : ℕ) → c < length xs * length ys → IsGridPoint lines (point_at xs ys c)
grid_point blocks lines walls xs ys graph goal labels search c inside =
    record {
      x = subst (λ (z : ℤ). Contains lines.xs z) (sym (point_at-x xs ys c))
          (search.sound_x (line_at xs (c / length ys)) (contains_at xs (c / length ys) (column_inside c (length xs) (length ys) inside).1));
      y = subst (λ (z : ℤ). Contains lines.ys z) (sym (point_at-y xs ys c))
          (search.sound_y (line_at ys (c % length ys)) (contains_at ys (c % length ys) (row_inside c (length xs) (length ys) inside)));
    }

pub stands_on : (xs ys : List ℤ) (p : Half) → Contains xs p.x → Contains ys p.y → (c : ℕ) × Stands xs ys p c
stands_on xs ys p on_x on_y =
    let k : (k : ℕ) × ((k < length xs) × (line_at xs k ≡ p.x)) = number_of xs p.x on_x in
    let l : (l : ℕ) × ((l < length ys) × (line_at ys l ≡ p.y)) = number_of ys p.y on_y in
    let parts : ((k.0 * length ys + l.0) / length ys ≡ k.0) × ((k.0 * length ys + l.0) % length ys ≡ l.0) =
    cell_is (k.0 * length ys + l.0) k.0 l.0 (length ys) l.1.0 refl in (
      k.0 * length ys + l.0,
      record {
        inside = column_end k.0 l.0 (length xs) (length ys) k.1.0 l.1.0;
        at = half_same (point_at xs ys (k.0 * length ys + l.0)) p
            (point_at-x xs ys (k.0 * length ys + l.0) ∙ ap (λ (i : ℕ). line_at xs i) parts.0 ∙ k.1.1)
            (point_at-y xs ys (k.0 * length ys + l.0) ∙ ap (λ (i : ℕ). line_at ys i) parts.1 ∙ l.1.1);
      },
    )

-- ---- a step of the graph joins its points
east_joined : (blocks : List Block) (lines : Lines) (walls : List Wall) (xs ys : List ℤ) (graph : Graph) (goal : ℕ) (labels : List ℕ)
    → IsSearch blocks lines walls xs ys graph goal labels → (c n len : ℕ) → IsEastStep walls xs ys c n len
    → IsJoined blocks lines East (point_at xs ys c) (point_at xs ys n) × (len ≡ manhattan_of (point_at xs ys c) (point_at xs ys n))
east_joined blocks lines walls xs ys graph goal labels search c n len step =
    let h : ℕ = length ys in
    let n_in : n < length xs * h = (let e = step.next in let lt = step.inside in omega (arith, e, lt)) in
    let c_in : c < length xs * h = (let lt = step.inside in omega (arith, lt)) in
    let some : 0 < h = (column_inside c (length xs) h c_in).0 in
    let parts : ((c + h) / h ≡ c / h + 1) × ((c + h) % h ≡ c % h) = east_parts c h some in
    let next_x : (point_at xs ys n).x ≡ line_at xs (c / h + 1) =
    point_at-x xs ys n ∙ ap (λ (m : ℕ). line_at xs (m / h)) step.next ∙ ap (λ (k : ℕ). line_at xs k) parts.0 in
    let column : c / h + 1 < length xs =
    (let last = (column_inside (c + h) (length xs) h step.inside).1 in let e = parts.0 in omega (arith, last, e)) in
    let a : IsEastOf (point_at xs ys c) (point_at xs ys n) =
    subst (λ (m : ℕ). IsEastOf (point_at xs ys c) (point_at xs ys m)) (sym step.next) (east_of xs ys c search.short_x search.short_y step.inside) in
    let misses : MissesWalls walls (point_at xs ys c) (point_at xs ys n) = step.is.misses step.some in (
      record {
        start = grid_point blocks lines walls xs ys graph goal labels search c c_in;
        next = grid_point blocks lines walls xs ys graph goal labels search n n_in;
        ahead = (a.less, a.level);
        nearest = λ r on after before.
            let low : line_at xs (c / h) <ℤ r.x = subst (λ (z : ℤ). z <ℤ r.x) (point_at-x xs ys c) after.0 in
            let high : r.x <ℤ line_at xs (c / h + 1) = subst (λ (z : ℤ). r.x <ℤ z) next_x before.0 in
            none_between_next xs (c / h) r.x search.short_x.ascending column
            (search.convex_x (line_at xs (c / h)) (line_at xs (c / h + 1)) r.x (contains_at xs (c / h) (omega arith)) (contains_at xs (c / h + 1) column)
            (omega (arith, ints)) (omega (arith, ints)) on.x) low high;
        clear = clear_from_misses blocks walls (point_at xs ys c) (point_at xs ys n) search.walls_of misses;
      },
      step.is.whole misses,
    )

north_joined : (blocks : List Block) (lines : Lines) (walls : List Wall) (xs ys : List ℤ) (graph : Graph) (goal : ℕ) (labels : List ℕ)
    → IsSearch blocks lines walls xs ys graph goal labels → (c n len : ℕ) → IsNorthStep walls xs ys c n len
    → IsJoined blocks lines North (point_at xs ys c) (point_at xs ys n) × (len ≡ manhattan_of (point_at xs ys c) (point_at xs ys n))
north_joined blocks lines walls xs ys graph goal labels search c n len step =
    let h : ℕ = length ys in
    let n_in : n < length xs * h = (let e = step.next in let lt = north_inside c (length xs) h step.inside step.row in omega (arith, e, lt)) in
    let parts : ((c + 1) / h ≡ c / h) × ((c + 1) % h ≡ c % h + 1) = north_parts c h step.row in
    let next_y : (point_at xs ys n).y ≡ line_at ys (c % h + 1) =
    point_at-y xs ys n ∙ ap (λ (m : ℕ). line_at ys (m % h)) step.next ∙ ap (λ (k : ℕ). line_at ys k) parts.1 in
    let a : IsNorthOf (point_at xs ys c) (point_at xs ys n) =
    subst (λ (m : ℕ). IsNorthOf (point_at xs ys c) (point_at xs ys m)) (sym step.next) (north_of xs ys c search.short_x search.short_y step.row) in
    let misses : MissesWalls walls (point_at xs ys c) (point_at xs ys n) = step.is.misses step.some in (
      record {
        start = grid_point blocks lines walls xs ys graph goal labels search c step.inside;
        next = grid_point blocks lines walls xs ys graph goal labels search n n_in;
        ahead = (a.level, a.less);
        nearest = λ r on after before.
            let low : line_at ys (c % h) <ℤ r.y = subst (λ (z : ℤ). z <ℤ r.y) (point_at-y xs ys c) after.1 in
            let high : r.y <ℤ line_at ys (c % h + 1) = subst (λ (z : ℤ). r.y <ℤ z) next_y before.1 in
            none_between_next ys (c % h) r.y search.short_y.ascending step.row
            (search.convex_y (line_at ys (c % h)) (line_at ys (c % h + 1)) r.y (contains_at ys (c % h) (let row = step.row in omega (arith, row))) (contains_at ys (c % h + 1) step.row)
            (omega (arith, ints)) (omega (arith, ints)) on.y) low high;
        clear = clear_from_misses blocks walls (point_at xs ys c) (point_at xs ys n) search.walls_of misses;
      },
      step.is.whole misses,
    )

pub step_joined : (blocks : List Block) (lines : Lines) (walls : List Wall) (xs ys : List ℤ) (graph : Graph) (goal : ℕ) (labels : List ℕ)
    → IsSearch blocks lines walls xs ys graph goal labels → (d : Direction) (c n len : ℕ) → IsStep graph d c n len
    → IsJoined blocks lines d (point_at xs ys c) (point_at xs ys n) × (len ≡ manhattan_of (point_at xs ys c) (point_at xs ys n))
unfolding opposite
step_joined blocks lines walls xs ys graph goal labels search East c n len step =
    east_joined blocks lines walls xs ys graph goal labels search c n len
    (east_step walls xs ys graph c n len search.steps step.next step.length step.positive)
step_joined blocks lines walls xs ys graph goal labels search West c n len step =
    let j = east_joined blocks lines walls xs ys graph goal labels search n c len
    (east_step walls xs ys graph n c len search.steps step.next step.length step.positive) in
    (joined_back blocks lines East (point_at xs ys n) (point_at xs ys c) j.0, j.1 ∙ manhattan-back (point_at xs ys n) (point_at xs ys c))
step_joined blocks lines walls xs ys graph goal labels search North c n len step =
    north_joined blocks lines walls xs ys graph goal labels search c n len
    (north_step walls xs ys graph c n len search.steps step.next step.length step.positive)
step_joined blocks lines walls xs ys graph goal labels search South c n len step =
    let j = north_joined blocks lines walls xs ys graph goal labels search n c len
    (north_step walls xs ys graph n c len search.steps step.next step.length step.positive) in
    (joined_back blocks lines North (point_at xs ys n) (point_at xs ys c) j.0, j.1 ∙ manhattan-back (point_at xs ys n) (point_at xs ys c))

-- ---- joined points are a step of the graph apart
pub stands-x : (xs ys : List ℤ) (p : Half) (c : ℕ) → Stands xs ys p c → line_at xs (c / length ys) ≡ p.x
stands-x xs ys p c stands = sym (point_at-x xs ys c) ∙ ap (λ (r : Half). r.x) stands.at

pub stands-y : (xs ys : List ℤ) (p : Half) (c : ℕ) → Stands xs ys p c → line_at ys (c % length ys) ≡ p.y
stands-y xs ys p c stands = sym (point_at-y xs ys c) ∙ ap (λ (r : Half). r.y) stands.at

joined_east : (blocks : List Block) (lines : Lines) (walls : List Wall) (xs ys : List ℤ) (graph : Graph) (goal : ℕ) (labels : List ℕ)
    → IsSearch blocks lines walls xs ys graph goal labels → (p q : Half) (c n : ℕ) → Stands xs ys p c → Stands xs ys q n
    → IsJoined blocks lines East p q → IsStep graph East c n (manhattan_of p q)
joined_east blocks lines walls xs ys graph goal labels search p q c n at_p at_q j =
    let h : ℕ = length ys in
    let some : 0 < h = (column_inside c (length xs) h at_p.inside).0 in
    let px : line_at xs (c / h) ≡ p.x = stands-x xs ys p c at_p in
    let qx : line_at xs (n / h) ≡ q.x = stands-x xs ys q n at_q in
    let py : line_at ys (c % h) ≡ p.y = stands-y xs ys p c at_p in
    let qy : line_at ys (n % h) ≡ q.y = stands-y xs ys q n at_q in
    let row : c % h ≡ n % h = same_number ys (c % h) (n % h) search.short_y.ascending
    (row_inside c (length xs) h at_p.inside) (row_inside n (length xs) h at_q.inside) (py ∙ j.ahead.1 ∙ sym qy) in
    let column : n / h ≡ c / h + 1 = next_number xs (c / h) (n / h) search.short_x.ascending
    (column_inside c (length xs) h at_p.inside).1 (column_inside n (length xs) h at_q.inside).1
    (let less : p.x <ℤ q.x = j.ahead.0 in omega (arith, ints))
    (λ z there above below. j.nearest (record { x = z; y = p.y }) (record { x = search.sound_x z there; y = j.start.y })
    (omega (arith, ints), refl) (omega (arith, ints), j.ahead.1)) in
    let parts_c = cell_parts c h some in
    let parts_n = cell_parts n h some in
    let next : n ≡ c + h =
    (let e = parts_c.0 in let f = parts_n.0 in let g : (n / h) * h ≡ (c / h + 1) * h = ap (λ (k : ℕ). k * h) column in omega (arith, e, f, g, row)) in
    let inside : c + h < length xs * h = (let lt = at_q.inside in omega (arith, next, lt)) in
    let is : IsStepLength walls (point_at xs ys c) (point_at xs ys (c + h)) (slice_index graph.east.items c) = (search.steps.east c at_p.inside).there inside in
    let to_q : point_at xs ys (c + h) ≡ q = ap (λ (m : ℕ). point_at xs ys m) (sym next) ∙ at_q.at in
    let whole : slice_index graph.east.items c ≡ manhattan_of p q =
    is.whole (subst (λ (r : Half). MissesWalls walls r (point_at xs ys (c + h))) (sym at_p.at)
    (subst (λ (r : Half). MissesWalls walls p r) (sym to_q) (misses_from_clear blocks walls p q search.walls_of j.clear)))
    ∙ ap (λ (r : Half). manhattan_of r (point_at xs ys (c + h))) at_p.at ∙ ap (λ (r : Half). manhattan_of p r) to_q in
    record {
      next = next ∙ ap (λ (k : ℕ). c + k) (sym search.steps.height);
      length = sym whole;
      positive = ahead-apart East p q j.ahead;
    }

joined_north : (blocks : List Block) (lines : Lines) (walls : List Wall) (xs ys : List ℤ) (graph : Graph) (goal : ℕ) (labels : List ℕ)
    → IsSearch blocks lines walls xs ys graph goal labels → (p q : Half) (c n : ℕ) → Stands xs ys p c → Stands xs ys q n
    → IsJoined blocks lines North p q → IsStep graph North c n (manhattan_of p q)
joined_north blocks lines walls xs ys graph goal labels search p q c n at_p at_q j =
    let h : ℕ = length ys in
    let some : 0 < h = (column_inside c (length xs) h at_p.inside).0 in
    let px : line_at xs (c / h) ≡ p.x = stands-x xs ys p c at_p in
    let qx : line_at xs (n / h) ≡ q.x = stands-x xs ys q n at_q in
    let py : line_at ys (c % h) ≡ p.y = stands-y xs ys p c at_p in
    let qy : line_at ys (n % h) ≡ q.y = stands-y xs ys q n at_q in
    let column : c / h ≡ n / h = same_number xs (c / h) (n / h) search.short_x.ascending
    (column_inside c (length xs) h at_p.inside).1 (column_inside n (length xs) h at_q.inside).1 (px ∙ j.ahead.0 ∙ sym qx) in
    let row : n % h ≡ c % h + 1 = next_number ys (c % h) (n % h) search.short_y.ascending
    (row_inside c (length xs) h at_p.inside) (row_inside n (length xs) h at_q.inside)
    (let less : p.y <ℤ q.y = j.ahead.1 in omega (arith, ints))
    (λ z there above below. j.nearest (record { x = p.x; y = z }) (record { x = j.start.x; y = search.sound_y z there })
    (refl, omega (arith, ints)) (j.ahead.0, omega (arith, ints))) in
    let parts_c = cell_parts c h some in
    let parts_n = cell_parts n h some in
    let next : n ≡ c + 1 =
    (let e = parts_c.0 in let f = parts_n.0 in let g : (n / h) * h ≡ (c / h) * h = ap (λ (k : ℕ). k * h) (sym column) in omega (arith, e, f, g, row)) in
    let inside : c % h + 1 < h = (let lt = row_inside n (length xs) h at_q.inside in omega (arith, row, lt)) in
    let is : IsStepLength walls (point_at xs ys c) (point_at xs ys (c + 1)) (slice_index graph.north.items c) = (search.steps.north c at_p.inside).there inside in
    let to_q : point_at xs ys (c + 1) ≡ q = ap (λ (m : ℕ). point_at xs ys m) (sym next) ∙ at_q.at in
    let whole : slice_index graph.north.items c ≡ manhattan_of p q =
    is.whole (subst (λ (r : Half). MissesWalls walls r (point_at xs ys (c + 1))) (sym at_p.at)
    (subst (λ (r : Half). MissesWalls walls p r) (sym to_q) (misses_from_clear blocks walls p q search.walls_of j.clear)))
    ∙ ap (λ (r : Half). manhattan_of r (point_at xs ys (c + 1))) at_p.at ∙ ap (λ (r : Half). manhattan_of p r) to_q in
    record { next = next; length = sym whole; positive = ahead-apart North p q j.ahead }

pub joined_step : (blocks : List Block) (lines : Lines) (walls : List Wall) (xs ys : List ℤ) (graph : Graph) (goal : ℕ) (labels : List ℕ)
    → IsSearch blocks lines walls xs ys graph goal labels → (d : Direction) (p q : Half) (c n : ℕ) → Stands xs ys p c → Stands xs ys q n
    → IsJoined blocks lines d p q → IsStep graph d c n (manhattan_of p q)
unfolding opposite
joined_step blocks lines walls xs ys graph goal labels search East p q c n at_p at_q j =
    joined_east blocks lines walls xs ys graph goal labels search p q c n at_p at_q j
joined_step blocks lines walls xs ys graph goal labels search West p q c n at_p at_q j =
    subst (λ (l : ℕ). IsStep graph West c n l) (manhattan-back q p)
    (step_back graph East n c (manhattan_of q p) (joined_east blocks lines walls xs ys graph goal labels search q p n c at_q at_p (joined_back blocks lines West p q j)))
joined_step blocks lines walls xs ys graph goal labels search North p q c n at_p at_q j =
    joined_north blocks lines walls xs ys graph goal labels search p q c n at_p at_q j
joined_step blocks lines walls xs ys graph goal labels search South p q c n at_p at_q j =
    subst (λ (l : ℕ). IsStep graph South c n l) (manhattan-back q p)
    (step_back graph North n c (manhattan_of q p) (joined_north blocks lines walls xs ys graph goal labels search q p n c at_q at_p (joined_back blocks lines South p q j)))
