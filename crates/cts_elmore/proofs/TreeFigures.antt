-- The figures of the whole tree, from the root's and from what the passes come to.
use Rattle.std.proofs.Common.{◌≡◌, ℕ, ◌+◌, ◌-◌, ◌^◌, ◌<◌, ◌≤◌, List, [], map, length, get_or, Some, sym, ap, subst, ◌∙◌, arith}
use Rattle.std.specs.Prelude.{IfSome}
use Rattle.std.specs.List.{All, AllZip}
use Rattle.std.proofs.lemmas.Slice.Zip.{AllZip-long}
use Rattle.cts_units.specs.Limits.{max_length, max_delay}
use Rattle.cts_postorder.specs.BinaryTree.{label}
use Rattle.cts_postorder.specs.PostOrder.{IsPostOrder, root_of}
use Rattle.cts_postorder.specs.Occurrence.{occurrences}
use Rattle.cts_postorder.proofs.Sizes.{length-occurrences}
use Rattle.cts_tree.specs.declared.nodes.TreeNode.{TreeNode}
use Rattle.cts_tree.specs.Nodes.{tree_children}
use Rattle.cts_instance.specs.declared.parts.Parts.{Parts}
use Rattle.cts_elmore.specs.declared.figures.NodeFigure.{NodeFigure}
use Rattle.cts_elmore.specs.declared.subtree.Subtree.{Subtree}
use Rattle.cts_elmore.specs.declared.drive.Drive.{Drive}
use Rattle.cts_elmore.specs.declared.descent.Descent.{Descent}
use Rattle.cts_elmore.specs.Skew.{skew}
use Rattle.cts_elmore.specs.Fits.{FitsInstance}
use Rattle.cts_elmore.specs.Limits.{long_root, great_leaf_delay}
use Rattle.cts_elmore.specs.Figures.{IsNodeFigure, AreFigures, IsFigureInRange, AreFiguresInRange}
use Rattle.cts_elmore.specs.Subtrees.{IsSubtree, IsDrive, DriveOrOver}
use Rattle.cts_elmore.specs.Outputs.{IsDescent}
use Rattle.cts_elmore.proofs.Below.{greatest_delay, least_delay, greatest_arrival, least_arrival}
use Rattle.cts_elmore.proofs.Rising.{not_above, least_le_greatest, least_delay_le_greatest, delay_le_arrival}
use Rattle.cts_elmore.proofs.Root.{AtRoot, at_root}

module _ (i : Parts) (nodes : List TreeNode) (ok : IsPostOrder (map tree_children nodes)) where
  at : AtRoot nodes
  at = at_root nodes ok

  pub some_node : 0 < length nodes
  some_node = at.some

  module _ (s : Subtree) (root_known : IfSome (root_of tree_children nodes) (λ t. IsSubtree i t s)) (drive : Drive)
      (told : IfSome (root_of tree_children nodes) (λ root. DriveOrOver i root (Some drive))) (e : TreeNode) where
    drive_is : IsDrive i at.root drive
    drive_is = subst (λ o. IfSome o (λ root. IsDrive i root drive)) at.root_is told

    value : IsSubtree i at.root s
    value = subst (λ o. IfSome o (λ t. IsSubtree i t s)) at.root_is root_known

    abbrev wire : ℕ
    wire = (get_or nodes (length nodes - 1) e).wire

    wire_is : (label at.root).wire ≡ wire
    wire_is = ap (λ (n : TreeNode). n.wire) (at.node e)

    pub wires_small : FitsInstance i nodes → s.wires + wire ≤ 2 ^ 48
    wires_small fits =
        omega (
          arith,
          value.few_wires,
          at.size_is,
          fits.few,
          wire_is,
          not_above (label at.root).wire max_length (λ above. drive_is.not_over (long_root above)),
        )

    pub greatest_small : drive.delay + s.greatest ≤ max_delay
    greatest_small =
        omega (
          arith,
          value.greatest,
          drive_is.delay,
          not_above _ max_delay (λ above. drive_is.not_over (great_leaf_delay above)),
        )

    pub least_small : s.least ≤ s.greatest
    least_small = omega (arith, value.greatest, value.least, least_le_greatest i at.root)

    pub delays_small : (s.delay_least ≤ s.delay_greatest) × (s.delay_greatest ≤ s.greatest)
    delays_small = (
      omega (arith, value.delay_greatest, value.delay_least, least_delay_le_greatest i at.root),
      omega (arith, value.delay_greatest, value.greatest, delay_le_arrival i at.root),
    )

    -- the figures of the whole tree, over the nodes under another name
    pub figures_are : (tree : List TreeNode) → nodes ≡ tree → (descent : Descent)
        → IfSome (root_of tree_children nodes) (λ root. IsDescent i root descent) → (listed : List NodeFigure)
        → listed ≡ descent.figures.items
        → AreFigures i tree (record {
          nodes = listed;
          source_load = drive.load;
          wire_total = s.wires + wire;
          greatest = drive.delay + s.delay_greatest;
          least = drive.delay + s.delay_least;
          arrival_greatest = drive.delay + s.greatest;
          arrival_least = drive.delay + s.least;
          skew = s.greatest - s.least;
          bound = s.bound;
          load_met = descent.load_met;
          slew_met = descent.slew_met;
        })
    unfolding skew
    figures_are tree same descent told_of listed listed_is =
        let down : IsDescent i at.root descent = subst (λ o. IfSome o (λ root. IsDescent i root descent)) at.root_is told_of in
        record {
          root = at.root;
          root_is = subst (λ ns. root_of tree_children ns ≡ Some at.root) same at.root_is;
          figures_of = record {
            each_node = subst (AllZip (IsNodeFigure i at.root) (occurrences [] at.root)) (sym listed_is) down.each_node;
            source_load_is = drive_is.load;
            wire_total = ap (λ w. s.wires + w) (sym wire_is) ∙ value.wires;
            greatest = omega (arith, drive_is.delay, value.delay_greatest, greatest_delay i at.root);
            least = omega (arith, drive_is.delay, value.delay_least, least_delay i at.root);
            arrival_greatest = omega (arith, drive_is.delay, value.greatest, greatest_arrival i at.root);
            arrival_least = omega (arith, drive_is.delay, value.least, least_arrival i at.root);
            skew_is = omega (arith, value.greatest, value.least, greatest_arrival i at.root, least_arrival i at.root);
            bound_is = value.bound_is;
            load_met = down.load_met;
            slew_met = down.slew_met;
          };
        }

    pub figures_in_range : FitsInstance i nodes → (descent : Descent)
        → IfSome (root_of tree_children nodes) (λ root. IsDescent i root descent) → (listed : List NodeFigure)
        → listed ≡ descent.figures.items
        → AreFiguresInRange (record {
          nodes = listed;
          source_load = drive.load;
          wire_total = s.wires + wire;
          greatest = drive.delay + s.delay_greatest;
          least = drive.delay + s.delay_least;
          arrival_greatest = drive.delay + s.greatest;
          arrival_least = drive.delay + s.least;
          skew = s.greatest - s.least;
          bound = s.bound;
          load_met = descent.load_met;
          slew_met = descent.slew_met;
        })
    figures_in_range fits descent told_of listed listed_is =
        let down : IsDescent i at.root descent = subst (λ o. IfSome o (λ root. IsDescent i root descent)) at.root_is told_of in
        record {
          each_in_range = subst (All IsFigureInRange) (sym listed_is) down.in_range;
          greatest_within = omega (arith, greatest_small, delays_small.1);
          least_within = omega (arith, greatest_small, delays_small.0, delays_small.1);
          arrival_greatest_within = greatest_small;
          arrival_least_within = omega (arith, greatest_small, least_small);
          skew_within = omega (arith, greatest_small);
          bound_within = omega (arith, value.small_bound, at.size_is, fits.few);
        }

    pub one_each : (descent : Descent) → IfSome (root_of tree_children nodes) (λ root. IsDescent i root descent)
        → length descent.figures.items ≡ length nodes
    one_each descent told_of =
        let down : IsDescent i at.root descent = subst (λ o. IfSome o (λ root. IsDescent i root descent)) at.root_is told_of in
        AllZip-long (IsNodeFigure i at.root) (occurrences [] at.root) descent.figures.items down.each_node
        ∙ length-occurrences [] at.root ∙ at.size_is
