-- The figures of a tree that is within the limits are in range.
use Rattle.std.proofs.Common.{◌≡◌, ℕ, ◌+◌, ◌*◌, ◌≤◌, List, [], ◌∷◌, ◌++◌, length, Option, Some, None, sym, ap, ◌∙◌, arith}
use Rattle.std.specs.List.{All, AllZip}
use Rattle.std.specs.Option.{is_some, option_map_or}
use Rattle.std.specs.Prelude.{if◌then◌else◌}
use Rattle.std.proofs.lemmas.List.Elements.{All-append, All-cons, All-head, All-nil, All-tail}
use Rattle.std.proofs.lemmas.Slice.Zip.{AllZip-long}
use Rattle.cts_units.specs.declared.params.Buffer.{Buffer}
use Rattle.cts_units.specs.Delay.{buffer_delay_of}
use Rattle.cts_units.specs.Limits.{max_delay}
use Rattle.cts_postorder.specs.BinaryTree.{BinaryTree, tip, fork, size}
use Rattle.cts_postorder.specs.Occurrence.{Occurrence, occurrence, occurrences}
use Rattle.cts_postorder.proofs.Lists.{Whole, whole_of}
use Rattle.cts_postorder.proofs.Sizes.{length-occurrences}
use Rattle.cts_tree.specs.declared.nodes.TreeNode.{TreeNode}
use Rattle.cts_tree.specs.Nodes.{tree_children}
use Rattle.cts_instance.specs.declared.parts.Parts.{Parts}
use Rattle.cts_elmore.specs.declared.figures.NodeFigure.{NodeFigure}
use Rattle.cts_elmore.specs.Loads.{buffer_at, is_buffered, load_below}
use Rattle.cts_elmore.specs.Delays.{wire_delay, buffer_delay, output_delay, delay_at, stage_at}
use Rattle.cts_elmore.specs.Skew.{greatest_below, bound}
use Rattle.cts_elmore.specs.Figures.{IsNodeFigure, IsFigureInRange}
use Rattle.cts_elmore.specs.Limits.{IsRootOver, great_leaf_delay}
use Rattle.cts_elmore.specs.Laws.{FiguresAreInRange}
use Rattle.cts_elmore.proofs.Paths.{delay_at_root, delay_at_part, stage_at_root, stage_at_part}
use Rattle.cts_elmore.proofs.Below.{greatest_at_pair, bound_at_tip, bound_at_pair}
use Rattle.cts_elmore.proofs.Rising.{not_above}
use Rattle.cts_elmore.proofs.Down.{IsRight, figure_in_range, residue_le}
use Rattle.cts_elmore.proofs.Limited.{root_within, totals_within}

-- what follows from a property of each item, and from its partner
pub all_partners : {A B : Type 0} (P : A → Type 0) (R : A → B → Type 0) (Q : B → Type 0) → ((x : A) (y : B) → P x → R x y → Q y)
    → (xs : List A) (ys : List B) → All P xs → AllZip R xs ys → All Q ys
all_partners P R Q follows [] [] all zip = All-nil Q
all_partners P R Q follows [] (y ∷ ys) all zip = absurd zip
all_partners P R Q follows (x ∷ xs) [] all zip = absurd zip
all_partners P R Q follows (x ∷ xs) (y ∷ ys) all zip =
    All-cons Q y ys (follows x y (All-head P x xs all) (zip.0)) (all_partners P R Q follows xs ys (All-tail P x xs all) (zip.1))

module _ (i : Parts) (root : BinaryTree TreeNode) where
  -- The arrivals at the leaves below a node are within the limits, and the node's stage is no later than its delay.
  record IsSoon (o : Occurrence TreeNode) : Type 0 where
    soon : delay_at i root o + greatest_below i o.here ≤ max_delay
    stage_le : stage_at i root o ≤ delay_at i root o

  -- a stage that goes on or begins at a pair is no later than the delay behind its buffer
  output_le : (pair : BinaryTree TreeNode) (stage delay : ℕ) → stage ≤ delay
      → (if is_buffered i pair then output_delay i pair else stage) ≤ delay + buffer_delay i pair
  unfolding buffer_delay_of
  output_le pair stage delay h = by (buffer_at i pair)
    where
      by : (o : Option Buffer) → (if is_some o then option_map_or (λ (b : Buffer). 2 * b.rout * load_below i pair) o 0 else stage)
          ≤ delay + option_map_or (λ (b : Buffer). buffer_delay_of b (load_below i pair)) o 0
      by None = omega (arith, h)
      by (Some b) = omega arith

  part_soon : (up : List (BinaryTree TreeNode)) (pair t : BinaryTree TreeNode) → IsSoon (occurrence up pair)
      → greatest_below i t + wire_delay i t + buffer_delay i pair ≤ greatest_below i pair → IsSoon (occurrence (pair ∷ up) t)
  part_soon up pair t above deepest = record {
    soon = omega (arith, delay_at_part i root pair t up, above.soon, deepest);
    stage_le = omega (
      arith,
      stage_at_part i root pair t up,
      delay_at_part i root pair t up,
      output_le pair (stage_at i root (occurrence up pair)) (delay_at i root (occurrence up pair)) above.stage_le,
    );
  }

  below_soon : (up : List (BinaryTree TreeNode)) (t : BinaryTree TreeNode) → IsSoon (occurrence up t) → All IsSoon (occurrences up t)
  unfolding occurrences
  below_soon up (tip n) here = All-cons IsSoon (occurrence up (tip n)) [] here (All-nil IsSoon)
  below_soon up (fork l r n) here =
      let top : BinaryTree TreeNode = fork l r n in
      All-append IsSoon (occurrences (top ∷ up) l ++ occurrences (top ∷ up) r) (occurrence up top ∷ [])
      (All-append IsSoon (occurrences (top ∷ up) l) (occurrences (top ∷ up) r)
      (below_soon (top ∷ up) l (part_soon up top l here (omega (arith, greatest_at_pair i l r n))))
      (below_soon (top ∷ up) r (part_soon up top r here (omega (arith, greatest_at_pair i l r n)))))
      (All-cons IsSoon (occurrence up top) [] here (All-nil IsSoon))

  root_soon : ¬ IsRootOver i root → IsSoon (occurrence [] root)
  root_soon fine = record {
    soon = omega (arith, delay_at_root i root, not_above _ max_delay (λ above. fine (great_leaf_delay above)));
    stage_le = omega (arith, delay_at_root i root, stage_at_root i root);
  }

  figure_small : (o : Occurrence TreeNode) (f : NodeFigure) → IsSoon o → IsNodeFigure i root o f → IsFigureInRange f
  figure_small o f here is =
      let right : IsRight i root o f = record {
        figure = is;
        soon = omega (arith, is.delay, here.soon);
        stage_le = omega (arith, is.delay, is.stage, here.stage_le);
      } in
      figure_in_range i root o f right

-- the bound sums one residue a pair at most
small_bound : (i : Parts) (t : BinaryTree TreeNode) → greatest_below i t ≤ max_delay → bound i t ≤ size t * max_delay
unfolding size
small_bound i (tip n) small = omega (arith, bound_at_tip i n)
small_bound i (fork l r n) small =
    omega (
      arith,
      bound_at_pair i l r n,
      residue_le i (fork l r n),
      small,
      small_bound i l (omega (arith, greatest_at_pair i l r n, small)),
      small_bound i r (omega (arith, greatest_at_pair i l r n, small)),
    )

pub figures_in_range : FiguresAreInRange
figures_in_range i nodes figures ok few within are =
    let w : Whole tree_children nodes = whole_of tree_children nodes ok in
    let names : Some are.root ≡ Some w.tree = sym are.root_is ∙ w.root_is in
    let same : are.root ≡ w.tree = cc in
    let long : size are.root ≡ length nodes = ap size same ∙ w.size_is in
    let fine : ¬ IsRootOver i are.root = root_within i nodes are.root within are.root_is in
    let totals = totals_within i nodes figures within are in
    let top : IsSoon i are.root (occurrence [] are.root) = root_soon i are.root fine in
    record {
      within = within;
      are_figures = are;
      one_each = AllZip-long (IsNodeFigure i are.root) (occurrences [] are.root) figures.nodes are.figures_of.each_node
          ∙ length-occurrences [] are.root ∙ long;
      in_range = record {
        each_in_range = all_partners (IsSoon i are.root) (IsNodeFigure i are.root) IsFigureInRange (figure_small i are.root)
            (occurrences [] are.root) figures.nodes (below_soon i are.root [] are.root top) are.figures_of.each_node;
        greatest_within = totals.0;
        least_within = totals.1;
        skew_within = totals.2;
        arrival_greatest_within = totals.3;
        arrival_least_within = totals.4;
        bound_within = omega (arith, are.figures_of.bound_is, small_bound i are.root (omega (arith, top.soon)), long, few);
      };
    }
