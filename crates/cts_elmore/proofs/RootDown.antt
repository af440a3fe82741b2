-- The first step of the pass downward: from the source to the root, and what the root hands down to its parts.
use Rattle.std.proofs.Common.{◌≡◌, ℕ, ◌-◌, ◌*◌, ◌<◌, ◌≤◌, ◌↔◌, Bool, true, false, ◌&&◌, ◌||◌, List, [], map, leb, length, get_or, slice_get, Option, Some, None, IsTrue, refl, sym, ap, ap₂, subst, ◌∙◌, arith}
use Rattle.std.specs.Prelude.{IfSome}
use Rattle.std.specs.Option.{option_and_then}
use Rattle.std.proofs.lemmas.Bool.{leb-true, le-leb}
use Rattle.cts_units.specs.declared.params.Params.{Params}
use Rattle.cts_units.specs.declared.params.Buffer.{Buffer}
use Rattle.cts_units.specs.Choice.{seen_load_of}
use Rattle.cts_units.specs.Limits.{max_length, max_load, max_delay}
use Rattle.cts_postorder.specs.BinaryTree.{BinaryTree, tip, fork, label, is_tip, IsNumbered}
use Rattle.cts_postorder.specs.PostOrder.{IsPostOrder, root_of}
use Rattle.cts_postorder.specs.Occurrence.{occurrence}
use Rattle.cts_postorder.proofs.Lists.{Whole, whole_of}
use Rattle.cts_tree.specs.declared.nodes.NodeKind.{NodeKind}
use Rattle.cts_tree.specs.declared.nodes.NodeKind.TheVariants.{Leaf, Pair}
use Rattle.cts_tree.specs.declared.nodes.TreeNode.{TreeNode}
use Rattle.cts_tree.specs.Nodes.{buffer_of, children_of, tree_children}
use Rattle.cts_instance.specs.declared.parts.Parts.{Parts}
use Rattle.cts_instance.specs.Validity.{IsValid}
use Rattle.cts_elmore.specs.declared.figures.NodeFigure.{NodeFigure}
use Rattle.cts_elmore.specs.declared.drive.Drive.{Drive}
use Rattle.cts_elmore.specs.declared.descent.Output.{Output}
use Rattle.cts_elmore.specs.declared.descent.RootDescent.{RootDescent}
use Rattle.cts_elmore.specs.Fits.{FitsInstance, NamesBuffer}
use Rattle.cts_units.specs.Delay.{slew_of}
use Rattle.cts_elmore.specs.Figures.{IsNodeFigure, IsFigureInRange}
use Rattle.cts_elmore.specs.Loads.{buffer_at, is_buffered, load_below, load_seen, source_load}
use Rattle.cts_elmore.specs.Limits.{IsPairOver, great_load, MeetsLoadAt, MeetsSlewAt}
use Rattle.cts_elmore.specs.Outputs.{IsOutput, IsPartFigure, IsSourceOutput, LoadIsMet, SlewIsMet, IsHandedTo, IsHandedToParts, IsRootDescent}
use Rattle.cts_elmore.specs.Subtrees.{IsKnownBelow, IsDrive}
use Rattle.cts_elmore.proofs.Rising.{not_above, load_seen_le, sink_load_le}
use Rattle.cts_elmore.proofs.Root.{AtRoot, at_root}
use Rattle.cts_elmore.proofs.Down.{IsRight, handed_right, root_handed, left_handed, right_handed, figure_in_range, is_leaf, load_told, slew_told}
use Rattle.cts_elmore.proofs.HandedDown.{both, through, source_small}

-- the root's buffer is the one that its node names, and a leaf stands at a tip
told_by_kind : (i : Parts) (t : BinaryTree TreeNode) → IsNumbered tree_children 0 t
    → (buffer_at i t ≡ option_and_then (slice_get i.params.library) (buffer_of (label t).kind))
    × (is_tip t ≡ is_leaf (label t).kind)
unfolding IsNumbered label
told_by_kind i (tip n) numbered = at_tip n.kind numbered
  where
    at_tip : (kind : NodeKind) → children_of kind ≡ None
        → (None ≡ option_and_then (slice_get i.params.library) (buffer_of kind)) × (true ≡ is_leaf kind)
    at_tip (Leaf id sink) none = (refl, refl)
    at_tip (Pair left right buffer) none = cc
told_by_kind i (fork l r n) numbered = (refl, at_fork n.kind _ (numbered.2))
  where
    at_fork : (kind : NodeKind) (c : ℕ × ℕ) → children_of kind ≡ Some c → false ≡ is_leaf kind
    at_fork (Leaf id sink) c some = cc
    at_fork (Pair left right buffer) c some = refl

-- the load of a subtree that is not over the limits
below_le : (i : Parts) → IsValid i → (t : BinaryTree TreeNode) → ¬ IsPairOver i t → load_below i t ≤ max_load
unfolding load_below
below_le i valid (tip n) sound = omega (arith, sink_load_le i valid n)
below_le i valid (fork l r n) sound = not_above (load_below i (fork l r n)) max_load (λ above. sound (great_load above))

-- An instance, a tree, what the source drives, and what is known of the root's figures from below.
module _ (i : Parts) (valid : IsValid i) (nodes : List TreeNode) (ok : IsPostOrder (map tree_children nodes))
    (fits : FitsInstance i nodes) (drive : Drive) (drive_is : IfSome (root_of tree_children nodes) (λ root. IsDrive i root drive))
    (g : NodeFigure) (is_known : IfSome (root_of tree_children nodes) (λ root. IsKnownBelow i root g)) where
  top : Whole tree_children nodes
  top = whole_of tree_children nodes ok

  known : IsKnownBelow i top.tree g
  known = subst (λ o. IfSome o (λ root. IsKnownBelow i root g)) top.root_is is_known

  driven : IsDrive i top.tree drive
  driven = subst (λ o. IfSome o (λ root. IsDrive i root drive)) top.root_is drive_is

  abbrev last : ℕ
  last = length nodes - 1

  pub some : 0 < length nodes
  some = (at_root nodes ok).some

  node : (e : TreeNode) → label top.tree ≡ get_or nodes (length nodes - 1) e
  node e =
      let at : AtRoot nodes = at_root nodes ok in
      let both_are : Some at.root ≡ Some top.tree = sym at.root_is ∙ top.root_is in
      let same : at.root ≡ top.tree = cc in ap label (sym same) ∙ at.node e

  pub names : (e : TreeNode) → NamesBuffer i.params.library (get_or nodes (length nodes - 1) e).kind
  names e = fits.buffers (length nodes - 1) e (omega (arith, some))

  pub light : drive.load ≤ max_load
  light = source_small i nodes ok drive drive_is

  pub buffer_within : (e : TreeNode) (buffer : Option ℕ) → buffer ≡ buffer_of (get_or nodes (length nodes - 1) e).kind
      → (library : List Buffer) → library ≡ i.params.library → IfSome buffer (λ index. index < length library)
  buffer_within e buffer is library library_is =
      subst (λ (o : Option ℕ). IfSome o (λ index. index < length library)) (sym is)
      (subst (λ (bs : List Buffer). IfSome (buffer_of (get_or nodes (length nodes - 1) e).kind) (λ index. index < length bs)) (sym library_is)
      (by_kind (get_or nodes (length nodes - 1) e).kind (names e)))
    where
      by_kind : (kind : NodeKind) → NamesBuffer i.params.library kind → IfSome (buffer_of kind) (λ index. index < length i.params.library)
      by_kind (Leaf id sink) named = tt
      by_kind (Pair left right None) named = tt
      by_kind (Pair left right (Some index)) named = named

  module _ (resistance : ℕ) (resistance_is : resistance ≡ i.source_r) (above : Output)
      (above_is : IsSourceOutput resistance drive.load above) (e f : TreeNode) where
    handed : IsHandedTo i top.tree (occurrence [] top.tree) above
    handed = root_handed i top.tree resistance drive.load above above_is resistance_is driven.load driven.not_over

    pub short : (get_or nodes (length nodes - 1) f).wire ≤ max_length
    short = omega (arith, ap (λ (n : TreeNode). n.wire) (node f), handed.short)

    module _ (params : Params) (params_is : params ≡ i.params) where
      pub seen_small : seen_load_of params.library (buffer_of (get_or nodes (length nodes - 1) e).kind) g.below ≤ max_load
      seen_small =
          let kind : buffer_of (get_or nodes (length nodes - 1) e).kind ≡ buffer_of (label top.tree).kind =
          ap (λ (n : TreeNode). buffer_of n.kind) (sym (node e)) in
          let same : seen_load_of params.library (buffer_of (get_or nodes (length nodes - 1) e).kind) g.below ≡ load_seen i top.tree =
          ap₂ (λ (p : Params) (o : Option ℕ). seen_load_of p.library o g.below) params_is kind ∙ known.seen in
          omega (arith, same, load_seen_le i valid top.tree known.not_over)

      pub names_in : NamesBuffer params.library (get_or nodes (length nodes - 1) e).kind
      names_in = subst (λ (p : Params). NamesBuffer p.library (get_or nodes (length nodes - 1) e).kind) (sym params_is) (names e)

      module _ (here : NodeFigure)
          (here_is : IsPartFigure params (get_or nodes (length nodes - 1) e).kind (get_or nodes (length nodes - 1) f).wire g above here) where
        right : IsRight i top.tree (occurrence [] top.tree) here
        right =
            handed_right i top.tree (occurrence [] top.tree) above handed g (get_or nodes (length nodes - 1) e).kind
            (get_or nodes (length nodes - 1) f).wire here known (ap (λ (n : TreeNode). n.kind) (node e))
            (ap (λ (n : TreeNode). n.wire) (node f))
            (subst (λ (p : Params). IsPartFigure p (get_or nodes (length nodes - 1) e).kind (get_or nodes (length nodes - 1) f).wire g above here)
            params_is here_is)

        pub delay_small : here.delay ≤ max_delay
        delay_small = omega (arith, right.soon)

        pub stage_small : here.stage ≤ max_delay
        stage_small = omega (arith, right.stage_le, right.soon)

        pub below_small : here.below ≤ max_load
        below_small = omega (arith, right.figure.below, below_le i valid top.tree known.not_over)

        to_parts : (t : BinaryTree TreeNode) → IsRight i t (occurrence [] t) here → ¬ IsPairOver i t → (output : Output)
            → IsOutput i.params.library (buffer_of (label t).kind) here output → IsHandedToParts i t output
        unfolding label
        to_parts (tip n) is sound output out = tt
        to_parts (fork l r n) is sound output out = (
          left_handed i (fork l r n) l r n [] here output is out sound,
          right_handed i (fork l r n) l r n [] here output is out sound,
        )

        pub root_descends : (buffer : Option ℕ) → buffer ≡ buffer_of (get_or nodes (length nodes - 1) e).kind → (output : Output)
            → IsOutput params.library buffer here output → (load_limit slew_limit : ℕ) → load_limit ≡ i.load_limit
            → slew_limit ≡ i.slew_limit → (x y : Bool)
            → (IsTrue x ↔ LoadIsMet load_limit (get_or nodes (length nodes - 1) e).kind here.below)
            → (IsTrue y ↔ SlewIsMet slew_limit (get_or nodes (length nodes - 1) e).kind here.stage)
            → (descent : RootDescent) → descent.figure ≡ here → descent.output ≡ output
            → descent.met.load_met ≡ (leb drive.load load_limit && x) → descent.met.slew_met ≡ y
            → IfSome (root_of tree_children nodes) (λ root. IsRootDescent i root descent)
        root_descends buffer buffer_is output output_is load_limit slew_limit load_limit_is slew_limit_is x y load_met slew_met descent
            figure_is handed_on load slew =
            let kind : (get_or nodes (length nodes - 1) e).kind ≡ (label top.tree).kind = ap (λ (n : TreeNode). n.kind) (sym (node e)) in
            let told = told_by_kind i top.tree top.numbered in
            let named : NamesBuffer i.params.library (label top.tree).kind = subst (NamesBuffer i.params.library) kind (names e) in
            let loads : IsTrue x ↔ MeetsLoadAt i top.tree =
            through load_met
            (subst (λ k. (LoadIsMet load_limit k here.below) ↔ MeetsLoadAt i top.tree) (sym kind)
            (subst (λ m. (LoadIsMet m (label top.tree).kind here.below) ↔ MeetsLoadAt i top.tree) (sym load_limit_is)
            (load_told i top.tree (label top.tree).kind named (told.0) i.load_limit here.below right.figure.below))) in
            let slews : IsTrue y ↔ MeetsSlewAt i top.tree (occurrence [] top.tree) =
            through slew_met
            (subst (λ k. (SlewIsMet slew_limit k here.stage) ↔ MeetsSlewAt i top.tree (occurrence [] top.tree)) (sym kind)
            (subst (λ m. (SlewIsMet m (label top.tree).kind here.stage) ↔ MeetsSlewAt i top.tree (occurrence [] top.tree)) (sym slew_limit_is)
            (subst (λ s. (SlewIsMet i.slew_limit (label top.tree).kind here.stage)
            ↔ (IsTrue (is_tip top.tree || is_buffered i top.tree) → slew_of s ≤ 10 * i.slew_limit)) right.figure.stage
            (slew_told i top.tree (label top.tree).kind named (told.0) i.slew_limit here.stage (told.1))))) in
            let source : IsTrue (leb drive.load load_limit) ↔ (source_load i top.tree ≤ i.load_limit) = (
              (λ yes. omega (arith, leb-true drive.load load_limit yes, driven.load, load_limit_is)),
              (λ within. le-leb drive.load load_limit (omega (arith, within, driven.load, load_limit_is))),
            ) in
            let all : IsTrue (leb drive.load load_limit && x) ↔ (MeetsLoadAt i top.tree × (source_load i top.tree ≤ i.load_limit)) =
            both (leb drive.load load_limit) x source loads in
            let out : IsOutput i.params.library (buffer_of (label top.tree).kind) here output =
            subst (λ (o : Option ℕ). IsOutput i.params.library o here output) (buffer_is ∙ ap buffer_of kind)
            (subst (λ (p : Params). IsOutput p.library buffer here output) params_is output_is) in
            subst (λ o. IfSome o (λ root. IsRootDescent i root descent)) (sym top.root_is) (record {
              figure = subst (IsNodeFigure i top.tree (occurrence [] top.tree)) (sym figure_is) right.figure;
              in_range = subst IsFigureInRange (sym figure_is) (figure_in_range i top.tree (occurrence [] top.tree) here right);
              load_met = (
                (λ yes.
                    let each = all.0 (subst IsTrue load yes) in
                    (each.1, each.0)),
                (λ each. subst IsTrue (sym load) (all.1 (each.1, each.0))),
              );
              slew_met = ((λ yes. slews.0 (subst IsTrue slew yes)), (λ met. subst IsTrue (sym slew) (slews.1 met)));
              to_parts = subst (IsHandedToParts i top.tree) (sym handed_on) (to_parts top.tree right known.not_over output out);
            })
