-- The points where wires begin, handed down from each pair to its two parts.
use Rattle.std.proofs.Common.{◌≡◌, ℕ, ◌+◌, ◌-◌, ◌<◌, ◌≤◌, List, [], map, set, replicate, length, get_or, Option, sym, ap, subst, ◌∙◌, arith}
use Rattle.std.proofs.lemmas.List.{get_or_default, get_or-replicate, length-replicate}
use Rattle.cts_geom.specs.declared.points.Half.{Half}
use Rattle.cts_geom.specs.Points.{point_of}
use Rattle.cts_postorder.specs.BinaryTree.{label}
use Rattle.cts_postorder.specs.PostOrder.{IsPostOrder}
use Rattle.cts_postorder.proofs.Lists.{IsPair, is_pair, Whole, whole_of, length_pos}
use Rattle.cts_postorder.proofs.Downward.{IsSettled, settled_at_start, settled_at_leaf, settled_at_pair, settled_all}
use Rattle.cts_tree.specs.declared.nodes.NodeKind.TheVariants.{Leaf, Pair}
use Rattle.cts_tree.specs.declared.nodes.TreeNode.{TreeNode}
use Rattle.cts_tree.specs.Nodes.{children_of, tree_children}
use Rattle.cts_instance.specs.declared.parts.Parts.{Parts}
use Rattle.cts_elmore.specs.Sound.{upper_end}
use Rattle.cts_check.specs.Ways.{IsUpperEnd, AreUpperEnds}

-- the points are right from a number on
abbrev pub AreHandedDown : Parts → List TreeNode → ℕ → List Half → Type 0
AreHandedDown i nodes number ends = (e : TreeNode) → IsSettled tree_children nodes e (IsUpperEnd i) number ends

module _ (i : Parts) (nodes : List TreeNode) (ok : IsPostOrder (map tree_children nodes)) where
  -- before the first step all of them are the source
  pub down_at_start : (source : Half) (ends : List Half) → source ≡ upper_end i [] → ends ≡ replicate (length nodes) source
      → AreHandedDown i nodes (length nodes) ends
  down_at_start source ends is filled e =
      let w : Whole tree_children nodes = whole_of tree_children nodes ok in
      let some : 0 < length nodes = length_pos tree_children nodes ok in
      settled_at_start tree_children (IsUpperEnd i) nodes ok e (length nodes) ends w.tree w.root_is (omega arith)
      (ap length filled ∙ length-replicate (length nodes) source)
      (λ v. ap (λ xs. get_or xs (length nodes - 1) v) filled ∙ get_or-replicate (length nodes) (length nodes - 1) source v (omega arith) ∙ is)

  pub down_at_end : (ends : List Half) (number : ℕ) → number ≡ 0 → AreHandedDown i nodes number ends → AreUpperEnds i nodes ends
  down_at_end ends number none settled =
      let e : TreeNode = label (whole_of tree_children nodes ok).tree in
      settled_all tree_children (IsUpperEnd i) nodes ok e ends
      (subst (λ n. IsSettled tree_children nodes e (IsUpperEnd i) n ends) none (settled e))

  -- by the number that a loop counts down from
  module _ (number : ℕ) (ends : List Half) (some : 0 < number) (within : number ≤ length nodes)
      (settled : AreHandedDown i nodes number ends) (here : TreeNode) (here_is : here ≡ get_or nodes (number - 1) here) where
    next_number : number - 1 + 1 ≡ number
    next_number = omega arith

    same_node : (e : TreeNode) → get_or nodes (number - 1) e ≡ here
    same_node e = get_or_default nodes (number - 1) e here (omega arith) ∙ sym here_is

    settled_next : (e : TreeNode) → IsSettled tree_children nodes e (IsUpperEnd i) (number - 1 + 1) ends
    settled_next e = subst (λ n. IsSettled tree_children nodes e (IsUpperEnd i) n ends) (sym next_number) (settled e)

    pub down_at_leaf : (id sink : ℕ) → here.kind ≡ Leaf id sink → AreHandedDown i nodes (number - 1) ends
    down_at_leaf id sink leaf e =
        settled_at_leaf tree_children (IsUpperEnd i) nodes e (number - 1) ends (ap tree_children (same_node e) ∙ ap children_of leaf)
        (settled_next e)

    module _ (l r : ℕ) (buffer : Option ℕ) (pair_is : here.kind ≡ Pair l r buffer) where
      pair : (e : TreeNode) → IsPair tree_children nodes (number - 1) (l, r) (get_or nodes (number - 1) e)
      pair e = is_pair tree_children nodes ok (number - 1) e (l, r) (omega arith) (ap tree_children (same_node e) ∙ ap children_of pair_is)

      pub left_within : l < length ends
      left_within = omega (arith, (pair here).left_below, (settled here).long)

      pub right_within : r < length ends
      right_within = omega (arith, (pair here).right_below, (settled here).long)

      -- both parts of a pair begin at its place
      pub down_at_pair : (place : Half) → place ≡ point_of here.place
          → AreHandedDown i nodes (number - 1) (set (set ends l place) r place)
      unfolding label
      down_at_pair place is e =
          let there : place ≡ point_of (get_or nodes (number - 1) e).place = is ∙ ap (λ (n : TreeNode). point_of n.place) (sym (same_node e)) in
          settled_at_pair tree_children (IsUpperEnd i) nodes e (number - 1) (l, r) ends place place
          (ap tree_children (same_node e) ∙ ap children_of pair_is) (pair e) (omega arith) there there (settled_next e)
