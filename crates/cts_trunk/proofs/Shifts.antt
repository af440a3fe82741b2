-- How delays and stages shift: the path to each node of a tree ends at the root, where the trunk leads.
use Rattle.std.proofs.Common.{◌≡◌, ℕ, ◌+◌, ◌*◌, ◌≤◌, Bool, true, false, ◌||◌, List, [], ◌∷◌, ◌++◌, map, take, length, get_or, Option, Some, None, refl, sym, ap, subst, ◌∙◌, arith}
use Rattle.std.specs.Prelude.{if◌then◌else◌, sum_by, is_some}
use Rattle.std.specs.List.{All, list_any}
use Rattle.std.specs.Option.{option_map_or}
use Rattle.std.proofs.lemmas.List.Elements.{All-cons, All-nil, All-append, All-weaker}
use Rattle.std.proofs.lemmas.List.Sums.{sum_by-cons}
use Rattle.cts_units.specs.declared.params.Buffer.{Buffer}
use Rattle.cts_units.specs.Delay.{buffer_delay_of}
use Rattle.cts_postorder.specs.BinaryTree.{BinaryTree, tip, fork}
use Rattle.cts_postorder.specs.Occurrence.{Occurrence, occurrence, occurrences, tips}
use Rattle.cts_postorder.proofs.Tips.{some_tip}
use Rattle.cts_tree.specs.declared.nodes.TreeNode.{TreeNode}
use Rattle.cts_instance.specs.declared.parts.Parts.{Parts}
use Rattle.cts_elmore.specs.Loads.{buffer_at, is_buffered, load_below, offset_at}
use Rattle.cts_elmore.specs.Delays.{wire_delay, output_delay, source_delay, delay_at, stage_at}
use Rattle.cts_elmore.specs.Skew.{delay_down, arrival_down, greatest_of, least_of, greatest_below, least_below, greatest_delay_below, least_delay_below, skew}
use Rattle.cts_elmore.proofs.Paths.{delay_at_root, delay_at_part, stage_at_root, stage_at_part}
use Rattle.cts_elmore.proofs.Below.{greatest_arrival, least_arrival}
use Rattle.cts_elmore.proofs.Numbers.{map_same, greatest_of-shift, least_of-shift}
use Rattle.cts_trunk.specs.Extended.{delay_in, stage_in, root_delay, root_stage, delays_in, arrivals_in, skew_in}
use Rattle.cts_trunk.specs.Laws.{DelaysShiftAlike, SkewStays, StageShifts, StagesShiftAlike}

-- the last of the pairs above a tree is the root, or the tree is the root itself
abbrev pub IsBelow : {N : Type 0} → BinaryTree N → List (BinaryTree N) → BinaryTree N → Type 0
IsBelow root [] t = t ≡ root
IsBelow root (pair ∷ up) t = IsBelow root up pair

pub all_below : {N : Type 0} (root : BinaryTree N) (up : List (BinaryTree N)) (t : BinaryTree N) → IsBelow root up t
    → All (λ (o : Occurrence N). IsBelow root o.above o.here) (occurrences up t)
unfolding occurrences
all_below {N} root up (tip n) below =
    let P : Occurrence N → Type 0 = λ o. IsBelow root o.above o.here in
    All-cons P (occurrence up (tip n)) [] below (All-nil P)
all_below {N} root up (fork l r n) below =
    let P : Occurrence N → Type 0 = λ o. IsBelow root o.above o.here in
    let top : BinaryTree N = fork l r n in
    All-append P (occurrences (top ∷ up) l ++ occurrences (top ∷ up) r) (occurrence up top ∷ [])
    (All-append P (occurrences (top ∷ up) l) (occurrences (top ∷ up) r) (all_below root (top ∷ up) l below) (all_below root (top ∷ up) r below))
    (All-cons P (occurrence up top) [] below (All-nil P))

-- the sum over such a path, without the root
pub sum_below : {N : Type 0} (f : BinaryTree N → ℕ) (root : BinaryTree N) (up : List (BinaryTree N)) (t : BinaryTree N)
    → IsBelow root up t → sum_by f (t ∷ up) ≡ sum_by f (take (length up) (t ∷ up)) + f root
sum_below f root [] t below = sum_by-cons f t [] ∙ omega (arith, ap f below)
sum_below f root (pair ∷ up) t below =
    omega (
      arith,
      sum_by-cons f t (pair ∷ up),
      sum_by-cons f t (take (length up) (pair ∷ up)),
      sum_below f root up pair below,
    )

module _ (i : Parts) (root : BinaryTree TreeNode) where
  -- the delay at the root
  abbrev led : ℕ
  led = source_delay i root + wire_delay i root

  pub delay_led : (up : List (BinaryTree TreeNode)) (t : BinaryTree TreeNode) → IsBelow root up t
      → delay_at i root (occurrence up t) ≡ delay_down i (occurrence up t) + led
  unfolding delay_at
  delay_led up t below = omega (arith, sum_below (wire_delay i) root up t below)

  either : (a b : Bool) → (a || b) ≡ false → (a ≡ false) × (b ≡ false)
  either true b is = absurd (cc)
  either false b is = (refl, is)

  no_buffer : (o : Option Buffer) (f : Buffer → ℕ) → is_some o ≡ false → option_map_or f o 0 ≡ 0
  no_buffer None f is = refl
  no_buffer (Some b) f is = absurd (cc)

  -- where no buffer is above, stage and delay are those of the source and of the wires
  pub record IsOpen (up : List (BinaryTree TreeNode)) (t : BinaryTree TreeNode) : Type 0 where
    pub stage : stage_at i root (occurrence up t) ≡ led + sum_by (wire_delay i) (take (length up) (t ∷ up))
    pub delay : delay_at i root (occurrence up t) ≡ led + sum_by (wire_delay i) (take (length up) (t ∷ up))

  pub open_path : (up : List (BinaryTree TreeNode)) (t : BinaryTree TreeNode) → IsBelow root up t
      → list_any (is_buffered i) up ≡ false → IsOpen up t
  open_path [] t below none =
      subst (IsOpen []) (sym below) (record {
        stage = stage_at_root i root ∙ omega arith;
        delay = delay_at_root i root ∙ omega arith;
      })
  open_path (pair ∷ up) t below none =
      let parts : (is_buffered i pair ≡ false) × (list_any (is_buffered i) up ≡ false) = either (is_buffered i pair) (list_any (is_buffered i) up) none in
      let above : IsOpen up pair = open_path up pair below parts.1 in
      let taken : sum_by (wire_delay i) (t ∷ take (length up) (pair ∷ up)) ≡ wire_delay i t + sum_by (wire_delay i) (take (length up) (pair ∷ up)) =
      sum_by-cons (wire_delay i) t (take (length up) (pair ∷ up)) in
      let on : stage_at i root (occurrence (pair ∷ up) t) ≡ stage_at i root (occurrence up pair) + wire_delay i t =
      stage_at_part i root pair t up ∙ ap (λ b. (if b then output_delay i pair else stage_at i root (occurrence up pair)) + wire_delay i t) (parts.0) in
      record {
        stage = omega (arith, on, above.stage, taken);
        delay = omega (
          arith,
          delay_at_part i root pair t up,
          no_buffer (buffer_at i pair) (λ b. buffer_delay_of b (load_below i pair)) (parts.0),
          above.delay,
          taken,
        );
      }

  -- no delay is before the root's
  pub delay_from_root : (up : List (BinaryTree TreeNode)) (t : BinaryTree TreeNode) → IsBelow root up t
      → led ≤ delay_at i root (occurrence up t)
  delay_from_root up t below = omega (arith, delay_led up t below)

  output_le : (o : Option Buffer) (load : ℕ)
      → option_map_or (λ (b : Buffer). 2 * b.rout * load) o 0 ≤ option_map_or (λ (b : Buffer). buffer_delay_of b load) o 0
  unfolding buffer_delay_of
  output_le None load = omega arith
  output_le (Some b) load = omega arith

  -- a stage that begins at a buffer is behind the delay by the root's at least
  pub buffered_path : (up : List (BinaryTree TreeNode)) (t : BinaryTree TreeNode) → IsBelow root up t
      → list_any (is_buffered i) up ≡ true → stage_at i root (occurrence up t) + led ≤ delay_at i root (occurrence up t)
  buffered_path [] t below some = absurd (cc)
  buffered_path (pair ∷ up) t below some = by_pair (λ rest. buffered_path up pair below rest) (is_buffered i pair) refl
    where
      on : (b : Bool) → is_buffered i pair ≡ b
          → stage_at i root (occurrence (pair ∷ up) t) ≡ (if b then output_delay i pair else stage_at i root (occurrence up pair)) + wire_delay i t
      on b is = stage_at_part i root pair t up ∙ ap (λ x. (if x then output_delay i pair else stage_at i root (occurrence up pair)) + wire_delay i t) is

      by_pair : (list_any (is_buffered i) up ≡ true → stage_at i root (occurrence up pair) + led ≤ delay_at i root (occurrence up pair)) → (b : Bool) → is_buffered i pair ≡ b → stage_at i root (occurrence (pair ∷ up) t) + led ≤ delay_at i root (occurrence (pair ∷ up) t)
      by_pair above true is =
          omega (
            arith,
            on true is,
            delay_at_part i root pair t up,
            output_le (buffer_at i pair) (load_below i pair),
            delay_from_root up pair below,
          )
      by_pair above false is =
          let rest : list_any (is_buffered i) up ≡ true = ap (λ x. x || list_any (is_buffered i) up) (sym is) ∙ some in
          omega (arith, on false is, delay_at_part i root pair t up, above rest)

module _ (i : Parts) (root : BinaryTree TreeNode) (repeater : Buffer) (cuts : List ℕ) where
  nodes_below : All (λ (o : Occurrence TreeNode). IsBelow root o.above o.here) (occurrences [] root)
  nodes_below = all_below root [] root refl

  shift_at : (o : Occurrence TreeNode) → IsBelow root o.above o.here
      → delay_in i root repeater cuts o + delay_at i root (occurrence [] root) ≡ delay_at i root o + root_delay i root repeater cuts
  shift_at o below = omega (arith, delay_at_root i root, delay_led i root o.above o.here below)

  pub delays_shift : All (λ o. delay_in i root repeater cuts o + delay_at i root (occurrence [] root) ≡ delay_at i root o + root_delay i root repeater cuts) (occurrences [] root)
  delays_shift =
      All-weaker (λ (o : Occurrence TreeNode). IsBelow root o.above o.here)
      (λ o. delay_in i root repeater cuts o + delay_at i root (occurrence [] root) ≡ delay_at i root o + root_delay i root repeater cuts)
      shift_at (occurrences [] root) nodes_below

  pub stage_shift_at : (o : Occurrence TreeNode) → IsBelow root o.above o.here → StageShifts i root repeater cuts o
  unfolding stage_in
  stage_shift_at o below =
      let wires : ℕ = root_stage i root repeater cuts + sum_by (wire_delay i) (take (length o.above) (o.here ∷ o.above)) in
      let choice : Bool → ℕ = λ b. if b then stage_at i root o else wires in
      record {
        buffered = λ some. ap choice some;
        unbuffered = λ none.
            let here : stage_in i root repeater cuts o ≡ wires = ap choice none in
            omega (arith, here, stage_at_root i root, (open_path i root o.above o.here below none).stage);
      }

  pub stages_shift : All (StageShifts i root repeater cuts) (occurrences [] root)
  stages_shift =
      All-weaker (λ (o : Occurrence TreeNode). IsBelow root o.above o.here) (StageShifts i root repeater cuts)
      stage_shift_at (occurrences [] root) nodes_below

  -- the greatest and the least delay and arrival of a leaf
  shifted : (f g : Occurrence TreeNode → ℕ) → ((o : Occurrence TreeNode) → g o ≡ f o + root_delay i root repeater cuts)
      → map g (tips [] root) ≡ map (λ o. f o + root_delay i root repeater cuts) (tips [] root)
  shifted f g same = map_same g (λ o. f o + root_delay i root repeater cuts) (tips [] root) (λ k d h. same (get_or (tips [] root) k d))

  pub greatest_in : greatest_of (delays_in i root repeater cuts) ≡ greatest_delay_below i root + root_delay i root repeater cuts
  unfolding greatest_delay_below
  greatest_in =
      ap greatest_of (shifted (delay_down i) (delay_in i root repeater cuts) (λ o. omega arith))
      ∙ greatest_of-shift (delay_down i) (root_delay i root repeater cuts) (tips [] root) (some_tip [] root)

  pub least_in : least_of (delays_in i root repeater cuts) ≡ least_delay_below i root + root_delay i root repeater cuts
  unfolding least_delay_below
  least_in =
      ap least_of (shifted (delay_down i) (delay_in i root repeater cuts) (λ o. omega arith))
      ∙ least_of-shift (delay_down i) (root_delay i root repeater cuts) (tips [] root) (some_tip [] root)

  abbrev arrival_in : Occurrence TreeNode → ℕ
  arrival_in o = delay_in i root repeater cuts o + 2 * offset_at i o.here

  greatest_arrival_in : greatest_of (arrivals_in i root repeater cuts) ≡ greatest_below i root + root_delay i root repeater cuts
  unfolding greatest_below
  greatest_arrival_in =
      ap greatest_of (shifted (arrival_down i) arrival_in (λ o. omega arith))
      ∙ greatest_of-shift (arrival_down i) (root_delay i root repeater cuts) (tips [] root) (some_tip [] root)

  least_arrival_in : least_of (arrivals_in i root repeater cuts) ≡ least_below i root + root_delay i root repeater cuts
  unfolding least_below
  least_arrival_in =
      ap least_of (shifted (arrival_down i) arrival_in (λ o. omega arith))
      ∙ least_of-shift (arrival_down i) (root_delay i root repeater cuts) (tips [] root) (some_tip [] root)

  pub skew_same : skew_in i root repeater cuts ≡ skew i root
  unfolding skew
  skew_same = omega (arith, greatest_arrival_in, least_arrival_in, greatest_arrival i root, least_arrival i root)

pub delays_shift_alike_lem : DelaysShiftAlike
delays_shift_alike_lem i root repeater cuts = delays_shift i root repeater cuts

pub stages_shift_alike_lem : StagesShiftAlike
stages_shift_alike_lem i root repeater cuts = stages_shift i root repeater cuts

pub skew_stays_lem : SkewStays
skew_stays_lem i root repeater cuts = skew_same i root repeater cuts
