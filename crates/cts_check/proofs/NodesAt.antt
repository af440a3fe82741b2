-- A rule that is asked of a node with the point where its wire begins, by the node's number.
use Rattle.std.proofs.Common.{◌≡◌, ℕ, ◌<◌, List, [], map, length, get_or, sym, ap, subst, ◌∙◌, arith}
use Rattle.std.proofs.lemmas.List.{get_or-map}
use Rattle.cts_geom.specs.declared.points.Half.{Half}
use Rattle.cts_postorder.specs.BinaryTree.{tip, label}
use Rattle.cts_postorder.specs.PostOrder.{IsPostOrder}
use Rattle.cts_postorder.specs.Occurrence.{Occurrence, occurrence, occurrences_of}
use Rattle.cts_postorder.proofs.Alike.{map-node-occurrences_of}
use Rattle.cts_postorder.proofs.Lists.{length-occurrences_of}
use Rattle.cts_postorder.proofs.Zips.{all_zip-at}
use Rattle.cts_tree.specs.declared.nodes.TreeNode.{TreeNode}
use Rattle.cts_tree.specs.Nodes.{tree_children}
use Rattle.cts_instance.specs.declared.parts.Parts.{Parts}
use Rattle.cts_elmore.specs.Sound.{upper_end}
use Rattle.cts_check.specs.Rules.{HoldsIfThere}
use Rattle.cts_check.specs.Ways.{IsUpperEnd, AreUpperEnds}
use Rattle.cts_check.proofs.FirstFailing.{holds_at, held_at, all_hold}

module _ (i : Parts) (nodes : List TreeNode) (ok : IsPostOrder (map tree_children nodes)) (Q : Half → TreeNode → Type 0) where
  -- the rule, of a node as it stands in the tree
  abbrev pub Asks : Occurrence TreeNode → Type 0
  Asks o = Q (upper_end i o.above) (label o.here)

  abbrev all : List (Occurrence TreeNode)
  all = occurrences_of tree_children nodes

  count : length all ≡ length nodes
  count = length-occurrences_of tree_children nodes ok

  pub rule_met : ((k : ℕ) → k < length nodes → HoldsIfThere Asks all k) → (k : ℕ) → HoldsIfThere Asks all k
  rule_met each k = all_hold Asks all (λ j within. each j (omega (arith, count))) k

  module _ (ends : List Half) (are : AreUpperEnds i nodes ends) (k : ℕ) (within : k < length nodes) (node : TreeNode)
      (node_is : node ≡ get_or nodes k node) (d : Half) where
    none : Occurrence TreeNode
    none = occurrence [] (tip node)

    inside : k < length all
    inside = omega (arith, count)

    node_at : node ≡ label (get_or all k none).here
    node_at =
        node_is ∙ sym (ap (λ ns. get_or ns k node) (map-node-occurrences_of tree_children nodes ok))
        ∙ get_or-map (λ (o : Occurrence TreeNode). label o.here) all k none node inside

    end_at : get_or ends k d ≡ upper_end i (get_or all k none).above
    end_at = all_zip-at (IsUpperEnd i) all ends k none d are inside

    pub meets : Q (get_or ends k d) node → HoldsIfThere Asks all k
    meets holds =
        holds_at Asks all k none inside
        (subst (λ p. Q p (label (get_or all k none).here)) end_at (subst (λ n. Q (get_or ends k d) n) node_at holds))

    pub met : HoldsIfThere Asks all k → Q (get_or ends k d) node
    met holds =
        subst (λ n. Q (get_or ends k d) n) (sym node_at)
        (subst (λ p. Q p (label (get_or all k none).here)) (sym end_at) (held_at Asks all k none inside holds))
