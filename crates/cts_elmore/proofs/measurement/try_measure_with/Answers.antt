use Rattle.std.proofs.Common.{◌-◌, List, length, sym, subst, ap, map, refl, ◌∙◌, arith}
use Rattle.cts_postorder.specs.PostOrder.{IsPostOrder}
use Rattle.cts_postorder.specs.Pass.{IsLeastFailure}
use Rattle.cts_postorder.proofs.Lists.{length_pos}
use Rattle.cts_tree.specs.declared.nodes.TreeNode.{TreeNode}
use Rattle.cts_tree.specs.Nodes.{tree_children}
use Rattle.cts_elmore.specs.declared.subtree.Gathered.TheVariants.{Within}
use Rattle.cts_elmore.specs.Figures.{AreFigures}
use Rattle.cts_elmore.specs.Limits.{IsOver, IsWithinLimits}
use Rattle.cts_elmore.specs.Subtrees.{IsGathered}
use Rattle.cts_elmore.proofs.Ends.{first_pair_over, root_over, none_over}
use Rattle.cts_elmore.proofs.measurement.try_measure_with.Goals as goal

pub returns-in-Over : goal.returns-in-Over
returns-in-Over c =
    let ok : IsPostOrder (map tree_children c.nodes-nodes.result.now) =
    subst (λ (nodes : List TreeNode). IsPostOrder (map tree_children nodes)) (sym c.nodes-nodes.ensures.nodes) c.nodes-nodes.ensures.post_order in
    subst (λ (nodes : List TreeNode). IsLeastFailure tree_children nodes (IsOver c.args.instance.now nodes) c.in-Over.node)
    c.nodes-nodes.ensures.nodes
    (first_pair_over c.args.instance.now c.nodes-nodes.result.now ok c.in-Over.node
    (subst (IsGathered c.args.instance.now c.nodes-nodes.result.now) c.in-Over.is c.in_ok-root.ensures))

pub overflow_sub-result : goal.overflow_sub-result
overflow_sub-result c =
    let ok : IsPostOrder (map tree_children c.nodes-nodes.result.now) =
    subst (λ (nodes : List TreeNode). IsPostOrder (map tree_children nodes)) (sym c.nodes-nodes.ensures.nodes) c.nodes-nodes.ensures.post_order in
    omega (arith, length_pos tree_children c.nodes-nodes.result.now ok)

pub returns-in_ok-figures-in-Some : goal.returns-in_ok-figures-in-Some
returns-in_ok-figures-in-Some c =
    let ok : IsPostOrder (map tree_children c.nodes-nodes.result.now) =
    subst (λ (nodes : List TreeNode). IsPostOrder (map tree_children nodes)) (sym c.nodes-nodes.ensures.nodes) c.nodes-nodes.ensures.post_order in
    let all : IsGathered c.args.instance.now c.nodes-nodes.result.now (Within c.in-Within.root c.in-Within.figures) =
    subst (IsGathered c.args.instance.now c.nodes-nodes.result.now) c.in-Within.is c.in_ok-root.ensures in
    record {
      within = subst (IsWithinLimits c.args.instance.now) c.nodes-nodes.ensures.nodes
          (none_over c.args.instance.now c.nodes-nodes.result.now ok c.in-Within.figures.items (all.1) c.in-Some.drive c.in-Some.ensures);
      are_figures = subst (λ nodes. AreFigures c.args.instance.now nodes c.in_ok-figures-in-Some.figures) c.nodes-nodes.ensures.nodes c.in_ok-figures-in-Some.ensures.figures;
      one_each = c.in_ok-figures-in-Some.ensures.one_each ∙ ap length c.nodes-nodes.ensures.nodes;
      in_range = c.in_ok-figures-in-Some.ensures.in_range;
    }

pub returns-in-None : goal.returns-in-None
returns-in-None c =
    let ok : IsPostOrder (map tree_children c.nodes-nodes.result.now) =
    subst (λ (nodes : List TreeNode). IsPostOrder (map tree_children nodes)) (sym c.nodes-nodes.ensures.nodes) c.nodes-nodes.ensures.post_order in
    let all : IsGathered c.args.instance.now c.nodes-nodes.result.now (Within c.in-Within.root c.in-Within.figures) =
    subst (IsGathered c.args.instance.now c.nodes-nodes.result.now) c.in-Within.is c.in_ok-root.ensures in
    subst (λ (nodes : List TreeNode). IsLeastFailure tree_children nodes (IsOver c.args.instance.now nodes) (length c.nodes-nodes.result.now - 1))
    c.nodes-nodes.ensures.nodes
    (root_over c.args.instance.now c.nodes-nodes.result.now ok c.in-Within.figures.items (all.1) c.in-None.ensures (length c.nodes-nodes.result.now - 1) refl)
