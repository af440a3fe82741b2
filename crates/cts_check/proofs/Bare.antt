-- Trees with and without the lengths of their routes: a report does not print them, and nothing that is asked of a tree
-- looks at them.
use Rattle.std.proofs.Common.{◌≡◌, ℕ, ◌+◌, ◌*◌, Bool, List, [], ◌∷◌, ◌++◌, map, Some, refl, sym, ap, ap₂, subst, ◌∙◌, arith}
use Rattle.std.specs.Prelude.{◌-◌, sum_by, max, if◌then◌else◌}
use Rattle.std.specs.Int.{abs_diff}
use Rattle.std.specs.Option.{is_some, option_map_or}
use Rattle.std.proofs.lemmas.List.{map-append}
use Rattle.std.proofs.lemmas.List.Sums.{sum_by-cons}
use Rattle.std.proofs.lemmas.Simd.{map-map}
use Rattle.cts_geom.specs.Points.{point_of}
use Rattle.cts_units.specs.declared.params.Buffer.{Buffer}
use Rattle.cts_units.specs.Delay.{wire_delay_of, buffer_delay_of}
use Rattle.cts_postorder.specs.BinaryTree.{BinaryTree, tip, fork, label, size, labels, subtrees, is_tip, root_number, IsNumbered}
use Rattle.cts_postorder.specs.Occurrence.{Occurrence, occurrence, occurrences, tips}
use Rattle.cts_tree.specs.declared.nodes.TreeNode.{TreeNode}
use Rattle.cts_tree.specs.Nodes.{tree_children}
use Rattle.cts_instance.specs.declared.parts.Parts.{Parts}
use Rattle.cts_elmore.specs.Loads.{buffer_at, is_buffered, wire_load, load_below, load_seen, offset_at, source_load}
use Rattle.cts_elmore.specs.Delays.{wire_delay, buffer_delay, output_delay, source_delay, delay_at, stage_at}
use Rattle.cts_elmore.specs.Skew.{greatest_below, residue, bound, leaf_delays, arrival_at, leaf_arrivals, skew, greatest_of, least_of}
use Rattle.cts_elmore.specs.Sound.{upper_end}
use Rattle.cts_elmore.proofs.Paths.{load_at_pair, stage_at_part}
use Rattle.cts_elmore.proofs.Below.{greatest_at_tip, greatest_at_pair, bound_at_tip, bound_at_pair}

-- the node without the length of its route
abbrev pub bare : TreeNode → TreeNode
bare n = record { kind = n.kind; place = n.place; wire = n.wire; route = record { corners = n.route.corners; length = 0 } }

unfoldable pub bare_tree : BinaryTree TreeNode → BinaryTree TreeNode
bare_tree (tip n) = tip (bare n)
bare_tree (fork l r n) = fork (bare_tree l) (bare_tree r) (bare n)

abbrev pub bare_occurrence : Occurrence TreeNode → Occurrence TreeNode
bare_occurrence o = occurrence (map bare_tree o.above) (bare_tree o.here)

pub label-bare : (t : BinaryTree TreeNode) → label (bare_tree t) ≡ bare (label t)
unfolding bare_tree label
label-bare (tip n) = refl
label-bare (fork l r n) = refl

pub labels-bare : (t : BinaryTree TreeNode) → labels (bare_tree t) ≡ map bare (labels t)
unfolding bare_tree labels
labels-bare (tip n) = refl
labels-bare (fork l r n) =
    ap₂ (λ x y. x ++ y ++ bare n ∷ []) (labels-bare l) (labels-bare r)
    ∙ ap (λ y. y ++ bare n ∷ []) (sym (map-append bare (labels l) (labels r)))
    ∙ sym (map-append bare (labels l ++ labels r) (n ∷ []))

pub subtrees-bare : (t : BinaryTree TreeNode) → subtrees (bare_tree t) ≡ map bare_tree (subtrees t)
unfolding bare_tree subtrees
subtrees-bare (tip n) = refl
subtrees-bare (fork l r n) =
    ap₂ (λ x y. x ++ y ++ bare_tree (fork l r n) ∷ []) (subtrees-bare l) (subtrees-bare r)
    ∙ ap (λ y. y ++ bare_tree (fork l r n) ∷ []) (sym (map-append bare_tree (subtrees l) (subtrees r)))
    ∙ sym (map-append bare_tree (subtrees l ++ subtrees r) (fork l r n ∷ []))

pub size-bare : (t : BinaryTree TreeNode) → size (bare_tree t) ≡ size t
unfolding bare_tree size
size-bare (tip n) = refl
size-bare (fork l r n) = ap₂ (λ x y. x + y + 1) (size-bare l) (size-bare r)

pub root_number-bare : (offset : ℕ) (t : BinaryTree TreeNode) → root_number offset (bare_tree t) ≡ root_number offset t
unfolding bare_tree root_number
root_number-bare offset (tip n) = refl
root_number-bare offset (fork l r n) = ap₂ (λ x y. offset + x + y) (size-bare l) (size-bare r)

pub numbered-bare : (offset : ℕ) (t : BinaryTree TreeNode) → IsNumbered tree_children offset t → IsNumbered tree_children offset (bare_tree t)
unfolding bare_tree IsNumbered
numbered-bare offset (tip n) h = h
numbered-bare offset (fork l r n) h = (
  numbered-bare offset l (h.0),
  subst (λ s. IsNumbered tree_children (offset + s) (bare_tree r)) (sym (size-bare l)) (numbered-bare (offset + size l) r (h.1)),
  h.2 ∙ ap Some (ap₂ (λ x y. (x, y)) (sym (root_number-bare offset l))
      (sym (root_number-bare (offset + size l) r) ∙ ap (λ s. root_number (offset + s) (bare_tree r)) (sym (size-bare l)))),
)

pub occurrences-bare : (up : List (BinaryTree TreeNode)) (t : BinaryTree TreeNode)
    → occurrences (map bare_tree up) (bare_tree t) ≡ map bare_occurrence (occurrences up t)
unfolding bare_tree occurrences
occurrences-bare up (tip n) = refl
occurrences-bare up (fork l r n) =
    let top : BinaryTree TreeNode = fork l r n in
    ap₂ (λ x y. x ++ y ++ bare_occurrence (occurrence up top) ∷ []) (occurrences-bare (top ∷ up) l) (occurrences-bare (top ∷ up) r)
    ∙ ap (λ y. y ++ bare_occurrence (occurrence up top) ∷ [])
    (sym (map-append bare_occurrence (occurrences (top ∷ up) l) (occurrences (top ∷ up) r)))
    ∙ sym (map-append bare_occurrence (occurrences (top ∷ up) l ++ occurrences (top ∷ up) r) (occurrence up top ∷ []))

pub tips-bare : (up : List (BinaryTree TreeNode)) (t : BinaryTree TreeNode)
    → tips (map bare_tree up) (bare_tree t) ≡ map bare_occurrence (tips up t)
unfolding bare_tree tips
tips-bare up (tip n) = refl
tips-bare up (fork l r n) =
    let top : BinaryTree TreeNode = fork l r n in
    ap₂ (λ x y. x ++ y) (tips-bare (top ∷ up) l) (tips-bare (top ∷ up) r)
    ∙ sym (map-append bare_occurrence (tips (top ∷ up) l) (tips (top ∷ up) r))

map_each : {A B : Type 0} (f g : A → B) → ((x : A) → f x ≡ g x) → (xs : List A) → map f xs ≡ map g xs
map_each f g same [] = refl
map_each f g same (x ∷ xs) = ap₂ (λ y ys. y ∷ ys) (same x) (map_each f g same xs)

-- a sum over subtrees, each of which gives the same without the length
sum-bare : (f : BinaryTree TreeNode → ℕ) → ((t : BinaryTree TreeNode) → f (bare_tree t) ≡ f t) → (ts : List (BinaryTree TreeNode))
    → sum_by f (map bare_tree ts) ≡ sum_by f ts
sum-bare f same [] = refl
sum-bare f same (t ∷ ts) =
    sum_by-cons f (bare_tree t) (map bare_tree ts) ∙ ap₂ (λ x y. x + y) (same t) (sum-bare f same ts) ∙ sym (sum_by-cons f t ts)

module _ (i : Parts) where
  pub buffer_at-bare : (t : BinaryTree TreeNode) → buffer_at i (bare_tree t) ≡ buffer_at i t
  unfolding bare_tree
  buffer_at-bare (tip n) = refl
  buffer_at-bare (fork l r n) = refl

  pub offset_at-bare : (t : BinaryTree TreeNode) → offset_at i (bare_tree t) ≡ offset_at i t
  unfolding bare_tree
  offset_at-bare (tip n) = refl
  offset_at-bare (fork l r n) = refl

  pub is_tip-bare : (t : BinaryTree TreeNode) → is_tip (bare_tree t) ≡ is_tip t
  unfolding bare_tree
  is_tip-bare (tip n) = refl
  is_tip-bare (fork l r n) = refl

  pub wire_load-bare : (t : BinaryTree TreeNode) → wire_load i (bare_tree t) ≡ wire_load i t
  wire_load-bare t = ap (λ (n : TreeNode). i.params.wire.c * n.wire) (label-bare t)

  seen-bare : (t : BinaryTree TreeNode) → load_below i (bare_tree t) ≡ load_below i t → load_seen i (bare_tree t) ≡ load_seen i t
  seen-bare t same = ap₂ (λ b load. option_map_or (λ (buffer : Buffer). buffer.cin) b load) (buffer_at-bare t) same

  pub load_below-bare : (t : BinaryTree TreeNode) → load_below i (bare_tree t) ≡ load_below i t
  unfolding bare_tree load_below
  load_below-bare (tip n) = refl
  load_below-bare (fork l r n) =
      load_at_pair i (bare_tree l) (bare_tree r) (bare n)
      ∙ ap₂ (λ x y. x + y) (ap₂ (λ x y. x + y) (seen-bare l (load_below-bare l)) (wire_load-bare l))
      (ap₂ (λ x y. x + y) (seen-bare r (load_below-bare r)) (wire_load-bare r))
      ∙ sym (load_at_pair i l r n)

  pub load_seen-bare : (t : BinaryTree TreeNode) → load_seen i (bare_tree t) ≡ load_seen i t
  load_seen-bare t = seen-bare t (load_below-bare t)

  pub source_load-bare : (root : BinaryTree TreeNode) → source_load i (bare_tree root) ≡ source_load i root
  source_load-bare root = ap₂ (λ x y. x + y) (load_seen-bare root) (wire_load-bare root)

  pub wire_delay-bare : (t : BinaryTree TreeNode) → wire_delay i (bare_tree t) ≡ wire_delay i t
  wire_delay-bare t =
      ap₂ (λ (n : TreeNode) load. wire_delay_of i.params.wire.r i.params.wire.c n.wire load) (label-bare t) (load_seen-bare t)

  pub buffer_delay-bare : (t : BinaryTree TreeNode) → buffer_delay i (bare_tree t) ≡ buffer_delay i t
  buffer_delay-bare t =
      ap₂ (λ b load. option_map_or (λ (buffer : Buffer). buffer_delay_of buffer load) b 0) (buffer_at-bare t) (load_below-bare t)

  pub output_delay-bare : (t : BinaryTree TreeNode) → output_delay i (bare_tree t) ≡ output_delay i t
  output_delay-bare t =
      ap₂ (λ b load. option_map_or (λ (buffer : Buffer). 2 * buffer.rout * load) b 0) (buffer_at-bare t) (load_below-bare t)

  pub source_delay-bare : (root : BinaryTree TreeNode) → source_delay i (bare_tree root) ≡ source_delay i root
  source_delay-bare root = ap (λ load. 2 * i.source_r * load) (source_load-bare root)

  pub greatest-bare : (t : BinaryTree TreeNode) → greatest_below i (bare_tree t) ≡ greatest_below i t
  unfolding bare_tree
  greatest-bare (tip n) = greatest_at_tip i (bare n) ∙ sym (greatest_at_tip i n)
  greatest-bare (fork l r n) =
      greatest_at_pair i (bare_tree l) (bare_tree r) (bare n)
      ∙ ap₂ (λ x y. x + y)
      (ap₂ max (ap₂ (λ x y. x + y) (greatest-bare l) (wire_delay-bare l)) (ap₂ (λ x y. x + y) (greatest-bare r) (wire_delay-bare r)))
      (buffer_delay-bare (fork l r n))
      ∙ sym (greatest_at_pair i l r n)

  pub residue-bare : (t : BinaryTree TreeNode) → residue i (bare_tree t) ≡ residue i t
  unfolding bare_tree residue
  residue-bare (tip n) = refl
  residue-bare (fork l r n) =
      ap₂ abs_diff (ap₂ (λ x y. x + y) (greatest-bare l) (wire_delay-bare l)) (ap₂ (λ x y. x + y) (greatest-bare r) (wire_delay-bare r))

  pub bound-bare : (t : BinaryTree TreeNode) → bound i (bare_tree t) ≡ bound i t
  unfolding bare_tree
  bound-bare (tip n) = bound_at_tip i (bare n) ∙ sym (bound_at_tip i n)
  bound-bare (fork l r n) =
      bound_at_pair i (bare_tree l) (bare_tree r) (bare n)
      ∙ ap₂ (λ x y. x + y) (ap₂ max (bound-bare l) (bound-bare r)) (residue-bare (fork l r n))
      ∙ sym (bound_at_pair i l r n)

  module _ (root : BinaryTree TreeNode) where
    pub delay_at-bare : (o : Occurrence TreeNode) → delay_at i (bare_tree root) (bare_occurrence o) ≡ delay_at i root o
    unfolding delay_at
    delay_at-bare o =
        ap₂ (λ x y. x + y)
        (ap₂ (λ x y. x + y) (source_delay-bare root) (sum-bare (wire_delay i) wire_delay-bare (o.here ∷ o.above)))
        (sum-bare (buffer_delay i) buffer_delay-bare o.above)

    stage_alone : (whole t : BinaryTree TreeNode) → stage_at i whole (occurrence [] t) ≡ source_delay i whole + wire_delay i t
    unfolding stage_at
    stage_alone whole t = omega arith

    stage-bare : (above : List (BinaryTree TreeNode)) (t : BinaryTree TreeNode)
        → stage_at i (bare_tree root) (occurrence (map bare_tree above) (bare_tree t)) ≡ stage_at i root (occurrence above t)
    stage-bare [] t =
        stage_alone (bare_tree root) (bare_tree t) ∙ ap₂ (λ x y. x + y) (source_delay-bare root) (wire_delay-bare t)
        ∙ sym (stage_alone root t)
    stage-bare (pair ∷ above) t =
        stage_at_part i (bare_tree root) (bare_tree pair) (bare_tree t) (map bare_tree above)
        ∙ ap₂ (λ x y. x + y)
        (ap₂ (λ (b : Bool) (d : ℕ). if b then d else stage_at i (bare_tree root) (occurrence (map bare_tree above) (bare_tree pair)))
        (ap is_some (buffer_at-bare pair)) (output_delay-bare pair)
        ∙ ap (λ d. if is_buffered i pair then output_delay i pair else d) (stage-bare above pair))
        (wire_delay-bare t)
        ∙ sym (stage_at_part i root pair t above)

    pub stage_at-bare : (o : Occurrence TreeNode) → stage_at i (bare_tree root) (bare_occurrence o) ≡ stage_at i root o
    stage_at-bare o = stage-bare o.above o.here

    pub leaf_delays-bare : leaf_delays i (bare_tree root) ≡ leaf_delays i root
    leaf_delays-bare =
        ap (map (delay_at i (bare_tree root))) (tips-bare [] root)
        ∙ map-map (delay_at i (bare_tree root)) bare_occurrence (tips [] root)
        ∙ map_each (λ o. delay_at i (bare_tree root) (bare_occurrence o)) (delay_at i root) delay_at-bare (tips [] root)

    arrival_at-bare : (o : Occurrence TreeNode) → arrival_at i (bare_tree root) (bare_occurrence o) ≡ arrival_at i root o
    arrival_at-bare o = ap₂ (λ delay offset. delay + 2 * offset) (delay_at-bare o) (offset_at-bare o.here)

    pub leaf_arrivals-bare : leaf_arrivals i (bare_tree root) ≡ leaf_arrivals i root
    leaf_arrivals-bare =
        ap (map (arrival_at i (bare_tree root))) (tips-bare [] root)
        ∙ map-map (arrival_at i (bare_tree root)) bare_occurrence (tips [] root)
        ∙ map_each (λ o. arrival_at i (bare_tree root) (bare_occurrence o)) (arrival_at i root) arrival_at-bare (tips [] root)

    pub skew-bare : skew i (bare_tree root) ≡ skew i root
    unfolding skew
    skew-bare = ap (λ arrivals. greatest_of arrivals - least_of arrivals) leaf_arrivals-bare

  pub upper_end-bare : (above : List (BinaryTree TreeNode)) → upper_end i (map bare_tree above) ≡ upper_end i above
  upper_end-bare [] = refl
  upper_end-bare (pair ∷ above) = ap (λ (n : TreeNode). point_of n.place) (label-bare pair)
