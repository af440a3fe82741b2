-- A list of nodes and the same without the lengths of routes: what is asked of a tree holds of both, and both have one set of
-- figures.
use Rattle.std.proofs.Common.{◌≡◌, ◌+◌, ◌*◌, ◌≤◌, Bool, List, [], ◌∷◌, map, Option, Some, IsTrue, refl, sym, ap, ap₂, subst, ◌∙◌}
use Rattle.std.specs.Prelude.{sum_by, ◌||◌}
use Rattle.std.specs.List.{All, AllZip}
use Rattle.std.proofs.lemmas.List.Elements.{All-cons, All-nil, All-head, All-map, All-tail, All-weaker}
use Rattle.std.specs.Option.{is_some, option_map_or}
use Rattle.std.proofs.lemmas.List.Sums.{sum_by-cons}
use Rattle.cts_units.specs.Delay.{slew_of}
use Rattle.cts_postorder.specs.BinaryTree.{BinaryTree, labels, subtrees, is_tip}
use Rattle.cts_postorder.specs.PostOrder.{IsPostOrder, trees_of, root_of}
use Rattle.cts_postorder.specs.Occurrence.{Occurrence, occurrences, occurrences_of}
use Rattle.cts_postorder.proofs.Lists.{Whole, whole_of, root_of-labels}
use Rattle.cts_postorder.proofs.Spelling.{trees_of-labels}
use Rattle.cts_tree.specs.declared.nodes.TreeNode.{TreeNode}
use Rattle.cts_tree.specs.Nodes.{tree_children}
use Rattle.cts_instance.specs.declared.parts.Parts.{Parts}
use Rattle.cts_elmore.specs.declared.figures.NodeFigure.{NodeFigure}
use Rattle.cts_elmore.specs.declared.figures.Figures.{Figures}
use Rattle.cts_elmore.specs.Loads.{is_buffered, load_below}
use Rattle.cts_elmore.specs.Delays.{stage_at}
use Rattle.cts_elmore.specs.Skew.{greatest_of, least_of}
use Rattle.cts_elmore.specs.Figures.{IsNodeFigure, AreFiguresOf, AreFigures}
use Rattle.cts_elmore.specs.Limits.{MeetsLoadLimit, MeetsSlewLimit}
use Rattle.cts_check.proofs.Bare.{bare, bare_tree, bare_occurrence, labels-bare, subtrees-bare, occurrences-bare, numbered-bare, buffer_at-bare, offset_at-bare, is_tip-bare, load_below-bare, source_load-bare, residue-bare, bound-bare, delay_at-bare, stage_at-bare, leaf_delays-bare, leaf_arrivals-bare, skew-bare}

pub all_before_map : {A B : Type 0} (P : B → Type 0) (f : A → B) (xs : List A) → All P (map f xs) → All (λ x. P (f x)) xs
all_before_map P f [] h = All-nil (λ x. P (f x))
all_before_map P f (x ∷ xs) h =
    All-cons (λ y. P (f y)) x xs (All-head P (f x) (map f xs) h) (all_before_map P f xs (All-tail P (f x) (map f xs) h))

-- a list of nodes in post-order, and its trees with and without the lengths
pub record BareWhole (nodes : List TreeNode) : Type 0 where
  pub tree : BinaryTree TreeNode
  pub labels_are : labels tree ≡ nodes
  pub root_is : root_of tree_children nodes ≡ Some tree
  pub trees_are : trees_of tree_children nodes ≡ subtrees tree
  pub occurrences_are : occurrences_of tree_children nodes ≡ occurrences [] tree
  pub bare_root : root_of tree_children (map bare nodes) ≡ Some (bare_tree tree)
  pub bare_trees : trees_of tree_children (map bare nodes) ≡ map bare_tree (trees_of tree_children nodes)
  pub bare_occurrences : occurrences_of tree_children (map bare nodes) ≡ map bare_occurrence (occurrences_of tree_children nodes)

pub bare_whole : (nodes : List TreeNode) → IsPostOrder (map tree_children nodes) → BareWhole nodes
unfolding occurrences_of
bare_whole nodes ok =
    let w : Whole tree_children nodes = whole_of tree_children nodes ok in
    let spelled : map bare nodes ≡ labels (bare_tree w.tree) = ap (map bare) (sym w.labels_are) ∙ sym (labels-bare w.tree) in
    let numbered = numbered-bare 0 w.tree w.numbered in
    let root : root_of tree_children (map bare nodes) ≡ Some (bare_tree w.tree) =
    ap (root_of tree_children) spelled ∙ root_of-labels tree_children (bare_tree w.tree) numbered in
    record {
      tree = w.tree;
      labels_are = w.labels_are;
      root_is = w.root_is;
      trees_are = w.trees_are;
      occurrences_are = w.occurrences_are;
      bare_root = root;
      bare_trees = ap (trees_of tree_children) spelled ∙ trees_of-labels tree_children (bare_tree w.tree) numbered
          ∙ subtrees-bare w.tree ∙ ap (map bare_tree) (sym w.trees_are);
      bare_occurrences = ap (λ (o : Option (BinaryTree TreeNode)). option_map_or (occurrences []) o []) root
          ∙ occurrences-bare [] w.tree ∙ ap (map bare_occurrence) (sym w.occurrences_are);
    }

module _ (i : Parts) (root : BinaryTree TreeNode) where
  node_figures : (os : List (Occurrence TreeNode)) (figures : List NodeFigure) → AllZip (IsNodeFigure i root) os figures
      → AllZip (IsNodeFigure i (bare_tree root)) (map bare_occurrence os) figures
  node_figures [] [] h = tt
  node_figures [] (f ∷ fs) h = absurd h
  node_figures (o ∷ os) [] h = absurd h
  node_figures (o ∷ os) (f ∷ fs) h = (
    record {
      below = h.0.below ∙ sym (load_below-bare i o.here);
      residue_is = h.0.residue_is ∙ sym (residue-bare i o.here);
      delay = h.0.delay ∙ sym (delay_at-bare i root o);
      stage = h.0.stage ∙ sym (stage_at-bare i root o);
      offset = h.0.offset ∙ sym (offset_at-bare i o.here);
    },
    node_figures os fs (h.1),
  )

  buffered-bare : (t : BinaryTree TreeNode) → is_buffered i (bare_tree t) ≡ is_buffered i t
  buffered-bare t = ap is_some (buffer_at-bare i t)

  load_to_bare : MeetsLoadLimit i root → MeetsLoadLimit i (bare_tree root)
  load_to_bare h = record {
    source = subst (λ x. x ≤ i.load_limit) (sym (source_load-bare i root)) h.source;
    buffers = subst (All (λ t. IsTrue (is_buffered i t) → load_below i t ≤ i.load_limit)) (sym (subtrees-bare root))
        (All-map (λ t. IsTrue (is_buffered i t) → load_below i t ≤ i.load_limit) bare_tree (subtrees root)
        (All-weaker (λ t. IsTrue (is_buffered i t) → load_below i t ≤ i.load_limit)
        (λ t. IsTrue (is_buffered i (bare_tree t)) → load_below i (bare_tree t) ≤ i.load_limit)
        (λ t met buffered. subst (λ x. x ≤ i.load_limit) (sym (load_below-bare i t)) (met (subst IsTrue (buffered-bare t) buffered)))
        (subtrees root) h.buffers));
  }

  load_from_bare : MeetsLoadLimit i (bare_tree root) → MeetsLoadLimit i root
  load_from_bare h = record {
    source = subst (λ x. x ≤ i.load_limit) (source_load-bare i root) h.source;
    buffers =
        All-weaker (λ t. IsTrue (is_buffered i (bare_tree t)) → load_below i (bare_tree t) ≤ i.load_limit)
        (λ t. IsTrue (is_buffered i t) → load_below i t ≤ i.load_limit)
        (λ t met buffered. subst (λ x. x ≤ i.load_limit) (load_below-bare i t) (met (subst IsTrue (sym (buffered-bare t)) buffered)))
        (subtrees root)
        (all_before_map (λ t. IsTrue (is_buffered i t) → load_below i t ≤ i.load_limit) bare_tree (subtrees root)
        (subst (All (λ t. IsTrue (is_buffered i t) → load_below i t ≤ i.load_limit)) (subtrees-bare root) h.buffers));
  }

  abbrev MeetsSlewAt : BinaryTree TreeNode → Occurrence TreeNode → Type 0
  MeetsSlewAt whole o = IsTrue (is_tip o.here || is_buffered i o.here) → slew_of (stage_at i whole o) ≤ 10 * i.slew_limit

  ends-bare : (t : BinaryTree TreeNode) → (is_tip (bare_tree t) || is_buffered i (bare_tree t)) ≡ (is_tip t || is_buffered i t)
  ends-bare t = ap₂ (λ (a b : Bool). a || b) (is_tip-bare i t) (buffered-bare t)

  slew_to_bare : MeetsSlewLimit i root → MeetsSlewLimit i (bare_tree root)
  slew_to_bare h =
      subst (All (MeetsSlewAt (bare_tree root))) (sym (occurrences-bare [] root))
      (All-map (MeetsSlewAt (bare_tree root)) bare_occurrence (occurrences [] root)
      (All-weaker (MeetsSlewAt root) (λ o. MeetsSlewAt (bare_tree root) (bare_occurrence o))
      (λ o met ends. subst (λ s. slew_of s ≤ 10 * i.slew_limit) (sym (stage_at-bare i root o)) (met (subst IsTrue (ends-bare o.here) ends)))
      (occurrences [] root) h))

  slew_from_bare : MeetsSlewLimit i (bare_tree root) → MeetsSlewLimit i root
  slew_from_bare h =
      All-weaker (λ o. MeetsSlewAt (bare_tree root) (bare_occurrence o)) (MeetsSlewAt root)
      (λ o met ends. subst (λ s. slew_of s ≤ 10 * i.slew_limit) (stage_at-bare i root o) (met (subst IsTrue (sym (ends-bare o.here)) ends)))
      (occurrences [] root)
      (all_before_map (MeetsSlewAt (bare_tree root)) bare_occurrence (occurrences [] root)
      (subst (All (MeetsSlewAt (bare_tree root))) (occurrences-bare [] root) h))

  wires-bare : (ns : List TreeNode) → sum_by (λ (n : TreeNode). n.wire) (map bare ns) ≡ sum_by (λ (n : TreeNode). n.wire) ns
  wires-bare [] = refl
  wires-bare (n ∷ ns) =
      sum_by-cons (λ (m : TreeNode). m.wire) (bare n) (map bare ns) ∙ ap (λ x. n.wire + x) (wires-bare ns)
      ∙ sym (sum_by-cons (λ (m : TreeNode). m.wire) n ns)

  figures_of_bare : (figures : Figures) → AreFiguresOf i root figures → AreFiguresOf i (bare_tree root) figures
  figures_of_bare figures h = record {
    each_node = subst (λ os. AllZip (IsNodeFigure i (bare_tree root)) os figures.nodes) (sym (occurrences-bare [] root))
        (node_figures (occurrences [] root) figures.nodes h.each_node);
    source_load_is = h.source_load_is ∙ sym (source_load-bare i root);
    wire_total = h.wire_total ∙ sym (wires-bare (labels root)) ∙ ap (sum_by (λ (n : TreeNode). n.wire)) (sym (labels-bare root));
    greatest = h.greatest ∙ ap greatest_of (sym (leaf_delays-bare i root));
    least = h.least ∙ ap least_of (sym (leaf_delays-bare i root));
    arrival_greatest = h.arrival_greatest ∙ ap greatest_of (sym (leaf_arrivals-bare i root));
    arrival_least = h.arrival_least ∙ ap least_of (sym (leaf_arrivals-bare i root));
    skew_is = h.skew_is ∙ sym (skew-bare i root);
    bound_is = h.bound_is ∙ sym (bound-bare i root);
    load_met = ((λ met. load_to_bare (h.load_met.0 met)), (λ met. h.load_met.1 (load_from_bare met)));
    slew_met = ((λ met. slew_to_bare (h.slew_met.0 met)), (λ met. h.slew_met.1 (slew_from_bare met)));
  }

pub figures_bare : (i : Parts) (nodes : List TreeNode) → IsPostOrder (map tree_children nodes) → (figures : Figures)
    → AreFigures i nodes figures → AreFigures i (map bare nodes) figures
figures_bare i nodes ok figures h =
    let w : BareWhole nodes = bare_whole nodes ok in
    let root_same : h.root ≡ w.tree = some_same (sym h.root_is ∙ w.root_is) in
    record {
      root = bare_tree w.tree;
      root_is = w.bare_root;
      figures_of = figures_of_bare i w.tree figures (subst (λ t. AreFiguresOf i t figures) root_same h.figures_of);
    }
  where
    some_same : {A : Type 0} {x y : A} → Some x ≡ Some y → x ≡ y
    some_same e = cc
