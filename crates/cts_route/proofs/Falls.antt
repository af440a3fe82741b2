-- Labels of paths that no step makes shorter: from each point but the goal the label falls by the whole of a step.
use Rattle.std.proofs.Common.{◌≡◌, ◌≢◌, ℕ, ◌+◌, ◌-◌, ◌^◌, ◌<◌, ◌≤◌, inl, inr, List, length, slice_index, get_or, set, replicate, sym, ap, ◌∙◌, arith}
use Rattle.std.proofs.lemmas.List.{length-set, get_or-set_same, get_or-set_other, length-replicate, get_or-replicate}
use Rattle.std.proofs.lemmas.List.Sums.{sum_by-le}
use Rattle.cts_route.specs.declared.direction.Direction.{Direction}
use Rattle.cts_route.specs.declared.direction.Direction.TheVariants.{East, West, North, South}
use Rattle.cts_route.specs.declared.graph.Graph.{Graph}
use Rattle.cts_route.specs.Grid.{rank}
use Rattle.cts_route.specs.Search.{IsStep, HasNoStep, no_path, unreached, AreLabels, IsSettledFrom, IsSettled, IsFall, HasNoFall, IsFirstFall}
use Rattle.cts_route.proofs.Unique.{by_order}
use Rattle.cts_route.proofs.Labels.{opposite, step_back, step_one, no_path-reached, no_path-none}

-- a step to a reached point: the label is at most that of the point and the step's length
pub at_most_by_step : (graph : Graph) (labels : List ℕ) (d : Direction) (c n len : ℕ) → IsSettledFrom graph labels n
    → IsStep graph d c n len → slice_index labels n < 2 ^ 64 - 1 → slice_index labels c ≤ slice_index labels n + len
at_most_by_step graph labels d c n len settled step reached =
    (settled.at (opposite d)).no_shorter c len (step_back graph d c n len step) reached

pub no_fall_no_step : (graph : Graph) (labels : List ℕ) (d : Direction) (c : ℕ) → HasNoStep graph d c → HasNoFall graph labels d c
no_fall_no_step graph labels d c stepless = record { less = λ n len step reached. absurd (stepless.none n len step) }

pub no_fall_unreached : (graph : Graph) (labels : List ℕ) (d : Direction) (c to len : ℕ) → IsStep graph d c to len
    → slice_index labels to ≡ 2 ^ 64 - 1 → HasNoFall graph labels d c
no_fall_unreached graph labels d c to len step none =
    record {
      less = λ n l other reached.
          let at : slice_index labels n ≡ slice_index labels to = ap (λ (x : ℕ). slice_index labels x) (step_one graph d c n to l len other step).0 in
          absurd (omega arith);
    }

pub no_fall_less : (graph : Graph) (labels : List ℕ) (d : Direction) (c to len : ℕ) → IsSettled graph labels c → to < length labels
    → IsStep graph d c to len → slice_index labels to + len ≢ slice_index labels c → HasNoFall graph labels d c
no_fall_less graph labels d c to len settled inside step apart =
    record {
      less = λ n l other reached.
          let same : (n ≡ to) × (l ≡ len) = step_one graph d c n to l len other step in
          let at : slice_index labels n ≡ slice_index labels to = ap (λ (x : ℕ). slice_index labels x) same.0 in
          let e : l ≡ len = same.1 in
          by_order (slice_index labels c) (slice_index labels to)
          (λ farther. omega (arith, farther, at))
          (λ nearer. below (omega arith) n l at e reached)
          (λ level. below (omega (arith, level)) n l at e reached);
    }
  where
    strictly : (a b c : ℕ) → b ≡ c → a ≤ c → c ≢ a → a < b
    strictly a b c e le ne = by_order a c (λ lt. omega arith) (λ gt. absurd (omega arith)) (λ same. absurd (ne (sym same)))

    below : slice_index labels to ≤ slice_index labels c → (n l : ℕ) → slice_index labels n ≡ slice_index labels to → l ≡ len
        → slice_index labels n < 2 ^ 64 - 1 → slice_index labels c < slice_index labels n + l
    below near n l at e reached =
        let le : slice_index labels c ≤ slice_index labels to + len =
        at_most_by_step graph labels d c to len ((settled.from to inside).at near) step (omega (arith, at, reached)) in
        strictly (slice_index labels c) (slice_index labels n + l) (slice_index labels to + len) (omega (arith, at, e)) le apart

-- where the label falls in no direction there is the goal
pub no_fall_at_goal : (graph : Graph) (goal : ℕ) (labels : List ℕ) (c : ℕ) → AreLabels graph goal labels → c < length labels
    → slice_index labels c < 2 ^ 64 - 1 → ((d : Direction) → HasNoFall graph labels d c) → c ≡ goal
no_fall_at_goal graph goal labels c are inside reached none =
    elim (are.supported c inside reached) [
      | inl at_goal ↦ at_goal
      | inr by ↦ (let less = by.less in
          let more = (none by.direction).less by.next by.len by.step (let some = by.step.positive in omega arith) in
          absurd (omega arith))
    ]

pub all_directions : (P : Direction → Type 0) → P East → P West → P North → P South → (d : Direction) → P d
all_directions P e w n s East = e
all_directions P e w n s West = w
all_directions P e w n s North = n
all_directions P e w n s South = s

pub before_east : (P : Direction → Type 0) (other : Direction) → rank other < 0 → P other
before_east P other lt = absurd (omega arith)

pub before_west : (P : Direction → Type 0) → P East → (other : Direction) → rank other < 1 → P other
before_west P e East lt = e
before_west P e West lt = absurd (omega arith)
before_west P e North lt = absurd (omega arith)
before_west P e South lt = absurd (omega arith)

pub before_north : (P : Direction → Type 0) → P East → P West → (other : Direction) → rank other < 2 → P other
before_north P e w East lt = e
before_north P e w West lt = w
before_north P e w North lt = absurd (omega arith)
before_north P e w South lt = absurd (omega arith)

pub before_south : (P : Direction → Type 0) → P East → P West → P North → (other : Direction) → rank other < 3 → P other
before_south P e w n East lt = e
before_south P e w n West lt = w
before_south P e w n North lt = n
before_south P e w n South lt = absurd (omega arith)

-- a fall in a direction before which there is none
pub first_from : (graph : Graph) (labels : List ℕ) (d at : Direction) (c n len : ℕ) → IsFall graph labels at c n len → at ≡ d
    → ((other : Direction) → rank other < rank d → HasNoFall graph labels other c) → IsFirstFall graph labels at c n len
first_from graph labels d at c n len fall same first =
    record { fall = fall; first = λ other lt. first other (let e = ap rank same in omega (arith, e)) }

-- ---- the first labels
no_path-at_most : (l : ℕ) → no_path l ≤ 1
no_path-at_most l =
    by_order l (2 ^ 64 - 1)
    (λ lt. let e = no_path-reached l lt in omega (arith, e))
    (λ gt. let e = no_path-none l (omega arith) in omega (arith, e))
    (λ same. let e = no_path-none l (omega arith) in omega (arith, e))

unreached-at_most : (labels : List ℕ) → unreached labels ≤ length labels
unreached-at_most labels =
    let le = sum_by-le no_path 1 labels (λ k d lt. no_path-at_most (get_or labels k d)) in omega (arith, le)

pub first_labels : (graph : Graph) (goal : ℕ) (labels : List ℕ) → goal < length graph.east.items
    → labels ≡ set (replicate (length graph.east.items) (2 ^ 64 - 1)) goal 0 → AreLabels graph goal labels
first_labels graph goal labels inside e =
    let n : ℕ = length graph.east.items in
    let base : List ℕ = replicate n (2 ^ 64 - 1) in
    let base_size : length base ≡ n = length-replicate n (2 ^ 64 - 1) in
    let size : length labels ≡ n = ap length e ∙ length-set base goal 0 ∙ base_size in
    let at_goal : slice_index labels goal ≡ 0 =
    ap (λ (ls : List ℕ). slice_index ls goal) e ∙ get_or-set_same base goal 0 0 (omega arith) in
    let off : (c : ℕ) → c < n → c ≢ goal → slice_index labels c ≡ 2 ^ 64 - 1 = λ c lt ne.
    ap (λ (ls : List ℕ). slice_index ls c) e ∙ get_or-set_other base goal c 0 0 ne ∙ get_or-replicate n c (2 ^ 64 - 1) 0 lt in
    record {
      size = size;
      goal_inside = omega arith;
      at_goal = at_goal;
      supported = λ c lt reached. by_equal c goal (λ same. inl same)
          (λ ne. let none = off c (omega arith) ne in absurd (omega arith));
      short = λ c lt reached. by_equal c goal
          (λ same. let here : slice_index labels c ≡ 0 = ap (λ (x : ℕ). slice_index labels x) same ∙ at_goal in
          let le = unreached-at_most labels in omega (arith, here, le))
          (λ ne. let none = off c (omega arith) ne in absurd (omega arith));
    }
  where
    by_equal : {P : Type 0} (a b : ℕ) → (a ≡ b → P) → (a ≢ b → P) → P
    by_equal a b same apart =
        by_order a b (λ lt. apart (λ e. absurd (omega arith))) (λ gt. apart (λ e. absurd (omega arith))) same
