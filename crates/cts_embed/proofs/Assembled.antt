-- The nodes of a stretch of a balanced tree, put together from the placed nodes and the lengths of their wires.
use Rattle.std.proofs.Common.{◌≡◌, ℕ, List, [], ◌∷◌, map, Option, refl, sym, ap, ap₂, subst, ◌∙◌}
use Rattle.std.specs.List.{AllZip}
use Rattle.std.proofs.lemmas.Simd.{map-map}
use Rattle.cts_postorder.specs.BinaryTree.{label}
use Rattle.cts_postorder.specs.PostOrder.{IsPostOrder}
use Rattle.cts_postorder.specs.Occurrence.{Occurrence, occurrences_of}
use Rattle.cts_postorder.proofs.Growth.{map-label-trees_of}
use Rattle.cts_postorder.proofs.Lists.{map-here-occurrences_of}
use Rattle.cts_postorder.proofs.Alike.{same_children}
use Rattle.cts_tree.specs.declared.nodes.TreeNode.{TreeNode}
use Rattle.cts_tree.specs.Nodes.{children_of, tree_children}
use Rattle.cts_instance.specs.declared.parts.Parts.{Parts}
use Rattle.cts_embed.specs.BalancedTree.{IsWireBelowOf, IsBalancedBelow, IsBalancedNode}
use Rattle.cts_embed.proofs.Wired.{AreSameButWires, wires_of, without_wire, same_but_wire}

-- the node that an occurrence carries
abbrev carried : Occurrence TreeNode → TreeNode
carried o = label o.here

module _ (parts : Parts) where
  assembled_from : (os : List (Occurrence TreeNode)) (tree : List TreeNode) → AreSameButWires (map carried os) tree
      → AllZip (IsWireBelowOf parts) os (wires_of tree) → AllZip (IsBalancedBelow parts) os tree
  assembled_from [] [] same all = tt
  assembled_from [] (n ∷ tree) same all = absurd all
  assembled_from (o ∷ os) [] same all = absurd all
  assembled_from (o ∷ os) (n ∷ tree) same all =
      let node : without_wire n ≡ without_wire (carried o) = cc in
      let others : AreSameButWires (map carried os) tree = cc in (
        record {
          kind = ap (λ (m : TreeNode). m.kind) node;
          place = ap (λ (m : TreeNode). m.place) node;
          route = ap (λ (m : TreeNode). m.route) node;
          wire = all.0;
        },
        assembled_from os tree others (all.1),
      )

  -- and they are the placed ones, but for these lengths
  same_from : (os : List (Occurrence TreeNode)) (tree : List TreeNode) → AllZip (IsBalancedBelow parts) os tree
      → AreSameButWires (map carried os) tree
  same_from [] [] all = refl
  same_from [] (n ∷ tree) all = absurd all
  same_from (o ∷ os) [] all = absurd all
  same_from (o ∷ os) (n ∷ tree) all =
      let here : IsBalancedBelow parts o n = all.0 in
      ap₂ (λ m ms. m ∷ ms) (same_but_wire n (carried o) here.kind here.place here.route) (same_from os tree (all.1))

  module _ (kids : TreeNode → Option (ℕ × ℕ)) (nodes : List TreeNode) (ok : IsPostOrder (map kids nodes)) where
    -- the occurrences carry the nodes
    pub map-carried : map carried (occurrences_of kids nodes) ≡ nodes
    map-carried =
        sym (map-map label (λ (o : Occurrence TreeNode). o.here) (occurrences_of kids nodes))
        ∙ ap (map label) (map-here-occurrences_of kids nodes ok) ∙ map-label-trees_of kids nodes

    pub assembled : (tree : List TreeNode) → AreSameButWires nodes tree
        → AllZip (IsWireBelowOf parts) (occurrences_of kids nodes) (wires_of tree)
        → AllZip (IsBalancedBelow parts) (occurrences_of kids nodes) tree
    assembled tree same all =
        assembled_from (occurrences_of kids nodes) tree
        (subst (λ ns. AreSameButWires ns tree) (sym map-carried) same) all

    pub same_as_placed : (tree : List TreeNode) → AllZip (IsBalancedBelow parts) (occurrences_of kids nodes) tree
        → AreSameButWires nodes tree
    same_as_placed tree all =
        subst (λ ns. AreSameButWires ns tree) map-carried (same_from (occurrences_of kids nodes) tree all)

  -- the nodes of a balanced tree are in post-order
  pub assembled_post_order : (nodes : List TreeNode) → IsPostOrder (map tree_children nodes) → (tree : List TreeNode)
      → AllZip (IsBalancedNode parts) (occurrences_of tree_children nodes) tree → IsPostOrder (map tree_children tree)
  assembled_post_order nodes ok tree all =
      subst IsPostOrder (sym (same_children tree_children tree_children (IsBalancedNode parts)
      (λ o m is. ap children_of is.kind) nodes ok tree all)) ok
