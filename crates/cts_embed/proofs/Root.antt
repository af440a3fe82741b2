-- What the balance makes of the whole placed tree.
use Rattle.std.proofs.Common.{◌≡◌, ℕ, ◌-◌, ◌<◌, List, map, length, get_or, Option, Some, sym, ap, subst, ◌∙◌, arith}
use Rattle.std.specs.Prelude.{IfSome}
use Rattle.std.proofs.lemmas.Option.{get_or_from_slice_get}
use Rattle.cts_postorder.specs.BinaryTree.{BinaryTree, label}
use Rattle.cts_postorder.specs.PostOrder.{IsPostOrder, trees_of, root_of}
use Rattle.cts_postorder.proofs.Growth.{label-tree}
use Rattle.cts_postorder.proofs.Lists.{Whole, whole_of, length_pos}
use Rattle.cts_tree.specs.declared.nodes.TreeNode.{TreeNode}
use Rattle.cts_tree.specs.Nodes.{tree_children}
use Rattle.cts_instance.specs.declared.parts.Parts.{Parts}
use Rattle.cts_instance.specs.Validity.{IsValid}
use Rattle.cts_embed.specs.declared.node.NodeBalance.{NodeBalance}
use Rattle.cts_embed.specs.Balance.{IsBalance, IsRootWithin}
use Rattle.cts_embed.specs.BalancedTree.{IsBalancedWhole, IsBalancedWithin, IsBeyondRoot}
use Rattle.cts_embed.specs.Fitting.{Fits}
use Rattle.cts_embed.specs.Range.{IsInRange}
use Rattle.cts_embed.proofs.Pins.{sinks_small}
use Rattle.cts_embed.proofs.Range.{in_range}
use Rattle.cts_embed.proofs.Wired.{AreSameButWires, same_long, same_route}

-- the last node carries the root
pub root_label : (nodes : List TreeNode) → IsPostOrder (map tree_children nodes) → (e : TreeNode) (t : BinaryTree TreeNode)
    → root_of tree_children nodes ≡ Some t → label t ≡ get_or nodes (length nodes - 1) e
unfolding root_of
root_label nodes ok e t is =
    let trees : List (BinaryTree TreeNode) = trees_of tree_children nodes in
    let some : 0 < length nodes = length_pos tree_children nodes ok in
    ap label (sym (get_or_from_slice_get trees (length nodes - 1) t t is))
    ∙ label-tree tree_children nodes (length nodes - 1) t e (omega arith)

-- the balance of the root of a stretch is within the range of the sums
pub root_in_range : (kids : TreeNode → Option (ℕ × ℕ)) (parts : Parts) (nodes : List TreeNode) → IsPostOrder (map kids nodes)
    → (b : NodeBalance) → IfSome (root_of kids nodes) (λ t. IsBalance parts.params parts.sinks t b) → IsValid parts → Fits parts nodes
    → IsInRange b
root_in_range kids parts nodes ok b is valid fits =
    let w : Whole kids nodes = whole_of kids nodes ok in
    in_range parts.params parts.sinks w.tree b
    (subst (λ o. IfSome o (λ t. IsBalance parts.params parts.sinks t b)) w.root_is is) valid.params (sinks_small parts valid)
    (omega (arith, w.size_is, fits.few))

-- the balance of the root
module _ (parts : Parts) (nodes : List TreeNode) (ok : IsPostOrder (map tree_children nodes)) (b : NodeBalance)
    (is : IfSome (root_of tree_children nodes) (λ t. IsBalance parts.params parts.sinks t b)) where
  w : Whole tree_children nodes
  w = whole_of tree_children nodes ok

  root_balance : IsBalance parts.params parts.sinks w.tree b
  root_balance = subst (λ o. IfSome o (λ t. IsBalance parts.params parts.sinks t b)) w.root_is is

  whole : IsBalancedWhole parts nodes w.tree b
  whole = record { whole = w.root_is; balanced = root_balance }

  -- its route is read of nodes with other wires
  module _ (now : List TreeNode) (same : AreSameButWires nodes now) (e : TreeNode) where
    abbrev len : ℕ
    len = (get_or now (length now - 1) e).route.length

    len_is : len ≡ (label w.tree).route.length
    len_is =
        let long : length now ≡ length nodes = same_long nodes now same in
        ap (λ n. (get_or now (n - 1) e).route.length) long
        ∙ same_route nodes now same (length nodes - 1) e (omega (arith, length_pos tree_children nodes ok))
        ∙ ap (λ (n : TreeNode). n.route.length) (sym (root_label nodes ok e w.tree w.root_is))

    pub all_within : IsRootWithin parts len b → IsBalancedWithin parts nodes
    all_within within = record {
      root = w.tree;
      balance = b;
      whole = whole;
      within = subst (λ x. IsRootWithin parts x b) len_is within;
    }

    pub root_beyond : ¬ IsRootWithin parts len b → IsBeyondRoot parts nodes (length now - 1)
    root_beyond over = record {
      last = omega (arith, same_long nodes now same, length_pos tree_children nodes ok);
      root = w.tree;
      balance = b;
      whole = whole;
      over = subst (λ x. ¬ IsRootWithin parts x b) len_is over;
    }

    -- the length of the route to it
    pub root_route : IfSome (root_of tree_children nodes) (λ t. len ≡ (label t).route.length)
    root_route = subst (λ o. IfSome o (λ (t : BinaryTree TreeNode). len ≡ (label t).route.length)) (sym w.root_is) len_is
