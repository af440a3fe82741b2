-- Limits that are met node by node are met by the extended tree.
use Rattle.std.proofs.Common.{◌≡◌, ℕ, zero, suc, ◌+◌, ◌-◌, ◌*◌, ◌/◌, ◌<◌, ◌≤◌, ◌↔◌, Bool, true, false, ◌||◌, ◌==◌, List, [], ◌∷◌, ◌++◌, length, get_or, slice_get, Some, None, IsTrue, eq-eqb, refl, sym, ap, subst, ◌∙◌, arith}
use Rattle.std.specs.Prelude.{if◌then◌else◌}
use Rattle.std.specs.List.{All, AllZip, list_any}
use Rattle.std.specs.Option.{option_and_then}
use Rattle.std.proofs.Math.Nat.{div-le_self, mul-le-mul_right}
use Rattle.std.proofs.lemmas.Bool.{eqb-true}
use Rattle.std.proofs.lemmas.List.{get_or-map, get_or_default}
use Rattle.std.proofs.lemmas.List.Elements.{All-cons, All-nil, All-append}
use Rattle.cts_units.specs.declared.params.Buffer.{Buffer}
use Rattle.cts_units.specs.Delay.{wire_delay_of, slew_of}
use Rattle.cts_units.specs.Limits.{IsWire}
use Rattle.cts_postorder.specs.BinaryTree.{BinaryTree, tip, fork, label, labels, size, subtrees, is_tip, IsNumbered}
use Rattle.cts_postorder.specs.Occurrence.{Occurrence, occurrence, occurrences}
use Rattle.cts_postorder.proofs.Sizes.{length-labels, length-subtrees, length-occurrences, map-label-subtrees, map-here-occurrences}
use Rattle.cts_postorder.proofs.Zips.{all_zip-at}
use Rattle.cts_tree.specs.declared.nodes.NodeKind.{NodeKind}
use Rattle.cts_tree.specs.declared.nodes.NodeKind.TheVariants.{Leaf, Pair}
use Rattle.cts_tree.specs.declared.nodes.TreeNode.{TreeNode}
use Rattle.cts_tree.specs.Nodes.{children_of, buffer_of, tree_children}
use Rattle.cts_instance.specs.declared.parts.Parts.{Parts}
use Rattle.cts_elmore.specs.declared.figures.NodeFigure.{NodeFigure}
use Rattle.cts_elmore.specs.Fits.{FitsInstance}
use Rattle.cts_elmore.specs.Loads.{buffer_at, is_buffered, load_below, load_seen}
use Rattle.cts_elmore.specs.Delays.{source_delay, wire_delay, delay_at, stage_at}
use Rattle.cts_elmore.specs.Figures.{IsNodeFigure}
use Rattle.cts_elmore.specs.Outputs.{LoadIsMet, SlewIsMet}
use Rattle.cts_elmore.proofs.Down.{is_leaf, load_told, slew_told}
use Rattle.cts_elmore.proofs.Paths.{stage_at_root}
use Rattle.cts_trunk.specs.Places.{chosen, is_free_at, stands, trunk_way}
use Rattle.cts_trunk.specs.Extended.{spans, stage_on, stage_in, root_stage}
use Rattle.cts_trunk.specs.Laws.{StageShifts}
use Rattle.cts_trunk.specs.Met.{LoadsAreMet, SlewsAreMet, shifted_stage}
use Rattle.cts_trunk.proofs.Shifts.{IsBelow, all_below, open_path, buffered_path, stage_shift_at}

-- what the kind of a node tells of its tree
record IsKind (i : Parts) (t : BinaryTree TreeNode) : Type 0 where
  leaf : is_tip t ≡ is_leaf (label t).kind
  buffer : buffer_at i t ≡ option_and_then (slice_get i.params.library) (buffer_of (label t).kind)

module _ (i : Parts) where
  kind_at_tip : (n : TreeNode) → tree_children n ≡ None → IsKind i (tip n)
  unfolding label
  kind_at_tip n none = let both = by_kind n.kind none in record { leaf = both.0; buffer = both.1 }
    where
      by_kind : (k : NodeKind) → children_of k ≡ None
          → (true ≡ is_leaf k) × (None ≡ option_and_then (slice_get i.params.library) (buffer_of k))
      by_kind (Leaf id sink) e = (refl, refl)
      by_kind (Pair left right buffer) e = absurd (cc)

  kind_at_fork : (l r : BinaryTree TreeNode) (n : TreeNode) (children : ℕ × ℕ) → tree_children n ≡ Some children → IsKind i (fork l r n)
  unfolding label
  kind_at_fork l r n children some = record { leaf = by_kind n.kind some; buffer = refl }
    where
      by_kind : (k : NodeKind) → children_of k ≡ Some children → false ≡ is_leaf k
      by_kind (Leaf id sink) e = absurd (cc)
      by_kind (Pair left right buffer) e = refl

  kinds : (up : List (BinaryTree TreeNode)) (t : BinaryTree TreeNode) (offset : ℕ) → IsNumbered tree_children offset t
      → All (λ (o : Occurrence TreeNode). IsKind i o.here) (occurrences up t)
  unfolding IsNumbered occurrences
  kinds up (tip n) offset numbered =
      let P : Occurrence TreeNode → Type 0 = λ o. IsKind i o.here in
      All-cons P (occurrence up (tip n)) [] (kind_at_tip n numbered) (All-nil P)
  kinds up (fork l r n) offset numbered =
      let P : Occurrence TreeNode → Type 0 = λ o. IsKind i o.here in
      let top : BinaryTree TreeNode = fork l r n in
      All-append P (occurrences (top ∷ up) l ++ occurrences (top ∷ up) r) (occurrence up top ∷ [])
      (All-append P (occurrences (top ∷ up) l) (occurrences (top ∷ up) r) (kinds (top ∷ up) l offset (numbered.0))
      (kinds (top ∷ up) r (offset + size l) (numbered.1)))
      (All-cons P (occurrence up top) [] (kind_at_fork l r n _ (numbered.2)) (All-nil P))

-- a wire without delay has no length
zero_wire : (r c len seen : ℕ) → 1 ≤ r → 1 ≤ c → r * len * (c * len + 2 * seen) ≡ 0 → len ≡ 0
zero_wire r c zero seen some_r some_c none = refl
zero_wire r c (suc n) seen some_r some_c none =
    let resists : 1 ≤ r * suc n = omega (arith, mul-le-mul_right (suc n) some_r) in
    let drives : 1 ≤ c * suc n + 2 * seen = omega (arith, mul-le-mul_right (suc n) some_c) in
    absurd (omega (arith, none, mul-le-mul_right (c * suc n + 2 * seen) resists, drives))

no_delay : (i : Parts) (root : BinaryTree TreeNode) → IsWire i.params.wire → source_delay i root + wire_delay i root ≡ 0
    → (label root).wire ≡ 0
unfolding wire_delay_of
no_delay i root wire none =
    zero_wire i.params.wire.r i.params.wire.c (label root).wire (load_seen i root) wire.r_low wire.c_low (omega (arith, none))

none_stand : (i : Parts) (root : TreeNode) (step : ℕ) → root.wire ≡ 0 → stands i root step ≡ []
unfolding stands
none_stand i root step none =
    let known : (root.wire - 1) / step ≤ root.wire - 1 = div-le_self (root.wire - 1) step in
    let count : (root.wire - 1) / step ≡ 0 = omega (arith, known, none) in
    ap (chosen (λ s. is_free_at i.blocks i.die (trunk_way i root) (2 * s)) step) count

-- without repeaters the stage at the root is that of the tree
whole_stage : (i : Parts) (root : BinaryTree TreeNode) (repeater : Buffer)
    → root_stage i root repeater [] ≡ source_delay i root + wire_delay i root
unfolding spans stage_on
whole_stage i root repeater =
    let whole : (label root).wire - 0 ≡ (label root).wire = omega arith in
    ap (λ len. 2 * i.source_r * (load_seen i root + i.params.wire.c * len) + wire_delay_of i.params.wire.r i.params.wire.c len (load_seen i root))
    whole

-- where the root has no delay, it has none with repeaters
pub still_none : (i : Parts) (root : BinaryTree TreeNode) (repeater : Buffer) (step : ℕ) → IsWire i.params.wire
    → source_delay i root + wire_delay i root ≡ 0 → root_stage i root repeater (stands i (label root) step) ≡ 0
still_none i root repeater step wire none =
    ap (root_stage i root repeater) (none_stand i (label root) step (no_delay i root wire none)) ∙ whole_stage i root repeater ∙ none

module _ (i : Parts) (root : BinaryTree TreeNode) (nodes : List TreeNode) (figures : List NodeFigure)
    (numbered : IsNumbered tree_children 0 root) (labels_are : labels root ≡ nodes) (fits : FitsInstance i nodes)
    (each_node : AllZip (IsNodeFigure i root) (occurrences [] root) figures) where
  abbrev at : ℕ → Occurrence TreeNode
  at k = get_or (occurrences [] root) k (occurrence [] root)

  inside : (k : ℕ) → k < length nodes → k < length (occurrences [] root)
  inside k h = omega (arith, h, length-occurrences [] root, length-labels root, ap length labels_are)

  tree_at : (k : ℕ) (d : BinaryTree TreeNode) → k < length nodes → get_or (subtrees root) k d ≡ (at k).here
  tree_at k d h =
      ap (λ ts. get_or ts k d) (sym (map-here-occurrences [] root))
      ∙ get_or-map (λ (o : Occurrence TreeNode). o.here) (occurrences [] root) k (occurrence [] root) d (inside k h)

  node_at : (k : ℕ) (node : TreeNode) → k < length nodes → label (at k).here ≡ get_or nodes k node
  node_at k node h =
      let within : k < length (subtrees root) = omega (arith, h, length-subtrees root, length-labels root, ap length labels_are) in
      sym (ap (λ ns. get_or ns k node) (sym labels_are) ∙ ap (λ ns. get_or ns k node) (sym (map-label-subtrees root))
      ∙ get_or-map label (subtrees root) k root node within ∙ ap label (tree_at k root h))

  kind_at : (k : ℕ) (node : TreeNode) → k < length nodes → (label (at k).here).kind ≡ (get_or nodes k node).kind
  kind_at k node h = ap (λ (n : TreeNode). n.kind) (node_at k node h)

  figure_at : (k : ℕ) (figure : NodeFigure) → k < length nodes → IsNodeFigure i root (at k) (get_or figures k figure)
  figure_at k figure h =
      all_zip-at (IsNodeFigure i root) (occurrences [] root) figures k (occurrence [] root) figure each_node (inside k h)

  below_at : (k : ℕ) → k < length nodes → IsBelow root (at k).above (at k).here
  below_at k h = all_below root [] root refl k (occurrence [] root) (inside k h)

  buffer_is : (k : ℕ) (node : TreeNode) → k < length nodes
      → buffer_at i (at k).here ≡ option_and_then (slice_get i.params.library) (buffer_of (get_or nodes k node).kind)
  buffer_is k node h =
      (kinds i [] root 0 numbered k (occurrence [] root) (inside k h)).buffer
      ∙ ap (λ kind. option_and_then (slice_get i.params.library) (buffer_of kind)) (kind_at k node h)

  leaf_is : (k : ℕ) (node : TreeNode) → k < length nodes → is_tip (at k).here ≡ is_leaf (get_or nodes k node).kind
  leaf_is k node h = (kinds i [] root 0 numbered k (occurrence [] root) (inside k h)).leaf ∙ ap is_leaf (kind_at k node h)

  module _ (limit : ℕ) where
    abbrev LoadMet : BinaryTree TreeNode → Type 0
    LoadMet t = IsTrue (is_buffered i t) → load_below i t ≤ limit

    load_at : (k : ℕ) (node : TreeNode) (figure : NodeFigure) → k < length nodes
        → LoadIsMet limit (get_or nodes k node).kind (get_or figures k figure).below ↔ LoadMet (at k).here
    load_at k node figure h =
        load_told i (at k).here (get_or nodes k node).kind (fits.buffers k node h) (buffer_is k node h) limit
        (get_or figures k figure).below (figure_at k figure h).below

    pub loads_told : LoadsAreMet limit nodes figures ↔ All LoadMet (subtrees root)
    loads_told = (
      (λ all k d h.
          let within : k < length nodes = omega (arith, h, length-subtrees root, length-labels root, ap length labels_are) in
          subst LoadMet (sym (tree_at k d within)) ((load_at k (label root) no_figure within).0 (all k (label root) no_figure within))),
      (λ all k node figure h.
          let within : k < length (subtrees root) = omega (arith, h, length-subtrees root, length-labels root, ap length labels_are) in
          (load_at k node figure h).1 (subst LoadMet (tree_at k root h) (all k root within))),
    )
      where
        no_figure : NodeFigure
        no_figure = record { below = 0; residue = 0; delay = 0; stage = 0; offset = 0 }

  module _ (repeater : Buffer) (cuts : List ℕ) (old new : ℕ) (old_is : old ≡ source_delay i root + wire_delay i root)
      (new_is : new ≡ root_stage i root repeater cuts) (none : source_delay i root + wire_delay i root ≡ 0 → root_stage i root repeater cuts ≡ 0) where
    -- the stage that is told from the figures is that of the extended tree
    shifted_is : (o : Occurrence TreeNode) → IsBelow root o.above o.here → (f : NodeFigure) → f.delay ≡ delay_at i root o
        → f.stage ≡ stage_at i root o → shifted_stage old new f ≡ stage_in i root repeater cuts o
    shifted_is o below f delay stage = by_any (list_any (is_buffered i) o.above) refl
      where
        shift : StageShifts i root repeater cuts o
        shift = stage_shift_at i root repeater cuts o below

        by_test : (b : Bool) → (f.delay == f.stage) ≡ b → list_any (is_buffered i) o.above ≡ true
            → (if b then f.stage - old + new else f.stage) ≡ stage_in i root repeater cuts o
        by_test false is some = stage ∙ sym (shift.buffered some)
        by_test true is some =
            let same : f.delay ≡ f.stage = eqb-true f.delay f.stage is in
            let lead : source_delay i root + wire_delay i root ≡ 0 =
            omega (arith, same, delay, stage, buffered_path i root o.above o.here below some) in
            omega (arith, stage, shift.buffered some, old_is, lead, new_is, none lead)

        by_any : (b : Bool) → list_any (is_buffered i) o.above ≡ b → shifted_stage old new f ≡ stage_in i root repeater cuts o
        by_any true is = by_test (f.delay == f.stage) refl is
        by_any false is =
            let path = open_path i root o.above o.here below is in
            let same : f.delay ≡ f.stage = omega (arith, delay, stage, path.stage, path.delay) in
            ap (λ b. if b then f.stage - old + new else f.stage) (eq-eqb f.delay f.stage same)
            ∙ omega (arith, stage, old_is, new_is, shift.unbuffered is, stage_at_root i root, path.stage)

    module _ (limit : ℕ) where
      abbrev SlewMet : Occurrence TreeNode → Type 0
      SlewMet o = IsTrue (is_tip o.here || is_buffered i o.here) → slew_of (stage_in i root repeater cuts o) ≤ 10 * limit

      slew_at : (k : ℕ) (node : TreeNode) (figure : NodeFigure) → k < length nodes
          → SlewIsMet limit (get_or nodes k node).kind (shifted_stage old new (get_or figures k figure)) ↔ SlewMet (at k)
      slew_at k node figure h =
          let f : NodeFigure = get_or figures k figure in
          let told : SlewIsMet limit (get_or nodes k node).kind (shifted_stage old new f)
          ↔ (IsTrue (is_tip (at k).here || is_buffered i (at k).here) → slew_of (shifted_stage old new f) ≤ 10 * limit) =
          slew_told i (at k).here (get_or nodes k node).kind (fits.buffers k node h) (buffer_is k node h) limit
          (shifted_stage old new f) (leaf_is k node h) in
          let same : shifted_stage old new f ≡ stage_in i root repeater cuts (at k) =
          shifted_is (at k) (below_at k h) f (figure_at k figure h).delay (figure_at k figure h).stage in (
            (λ met last. subst (λ s. slew_of s ≤ 10 * limit) same (told.0 met last)),
            (λ met. told.1 (λ last. subst (λ s. slew_of s ≤ 10 * limit) (sym same) (met last))),
          )

      pub slews_told : SlewsAreMet limit old new nodes figures ↔ All SlewMet (occurrences [] root)
      slews_told = (
        (λ all k d h.
            let within : k < length nodes = omega (arith, h, length-occurrences [] root, length-labels root, ap length labels_are) in
            subst SlewMet (get_or_default (occurrences [] root) k (occurrence [] root) d h)
            ((slew_at k (label root) no_figure within).0 (all k (label root) no_figure within))),
        (λ all k node figure h. (slew_at k node figure h).1 (all k (occurrence [] root) (inside k h))),
      )
        where
          no_figure : NodeFigure
          no_figure = record { below = 0; residue = 0; delay = 0; stage = 0; offset = 0 }
