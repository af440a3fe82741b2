-- Over a shape in post-order there is one synthesis at most, whatever its sinks are; so every instance has one at most.
use Rattle.std.proofs.Common.{◌≡◌, ℕ, inl, inr, List, map, length, ap, subst}
use Rattle.cts_postorder.specs.PostOrder.{IsPostOrder}
use Rattle.cts_postorder.proofs.Spelling.{IsPostOrder-labels}
use Rattle.cts_units.specs.declared.params.Sink.{Sink}
use Rattle.cts_tree.specs.declared.nodes.TreeNode.{TreeNode}
use Rattle.cts_instance.specs.declared.parts.Parts.{Parts}
use Rattle.cts_topo.specs.declared.shape.ShapeNode.{ShapeNode}
use Rattle.cts_topo.specs.Shape.{children}
use Rattle.cts_topo.specs.Topology.{pins_from, shape_of, topology_of}
use Rattle.cts_topo.proofs.Divisions.{IsNumbered-division}
use Rattle.cts_up.proofs.Unique.{plan_not_beyond, least_beyond_one}
use Rattle.cts_embed.specs.BalancedTree.{IsBalancedTree}
use Rattle.cts_embed.specs.BalancedTree.{IsLeastBeyond as IsBeyondInBalance}
use Rattle.cts_embed.proofs.OnePlace.{placed_tree_one, placed_not_cut, greatest_cut_one}
use Rattle.cts_embed.proofs.PlacedFits.{placed_post_order}
use Rattle.cts_embed.proofs.Unique.{balanced_tree_one}
use Rattle.cts_embed.proofs.Beyond.{balanced_tree_not_beyond}
use Rattle.cts_embed.proofs.Beyond.{least_beyond_one as balance_beyond_one}
use Rattle.cts_plain.specs.Synthesis.{Synthesis, made, beyond, cut, IsSynthesis, IsSynthesisOver, IsTreeOf, IsBeyondOf}

module _ (i : Parts) (shape : List ShapeNode) (ok : IsPostOrder (map children shape)) where
  trees_same : (a b : List TreeNode) → IsTreeOf i shape a → IsTreeOf i shape b → a ≡ b
  trees_same a b p q =
      let same : p.placed ≡ q.placed = placed_tree_one i shape p.placed q.placed p.is_placed q.is_placed in
      balanced_tree_one i q.placed a b (subst (λ x. IsBalancedTree i x a) same p.is_balanced) q.is_balanced

  tree_not_beyond : (a : List TreeNode) (k : ℕ) → IsTreeOf i shape a → ¬ IsBeyondOf i shape k
  tree_not_beyond a k p q =
      let same : p.placed ≡ q.placed = placed_tree_one i shape p.placed q.placed p.is_placed q.is_placed in
      balanced_tree_not_beyond i q.placed a k (placed_post_order i shape q.placed q.is_placed ok)
      (subst (λ x. IsBalancedTree i x a) same p.is_balanced) q.is_beyond

  beyond_same : (j k : ℕ) → IsBeyondOf i shape j → IsBeyondOf i shape k → j ≡ k
  beyond_same j k p q =
      let same : p.placed ≡ q.placed = placed_tree_one i shape p.placed q.placed p.is_placed q.is_placed in
      balance_beyond_one i q.placed j k (placed_post_order i shape q.placed q.is_placed ok)
      (subst (λ x. IsBeyondInBalance i x j) same p.is_beyond) q.is_beyond

  over_one : (a b : Synthesis) → IsSynthesisOver i shape a → IsSynthesisOver i shape b → a ≡ b
  over_one (made a) (made b) p q = ap made (trees_same a b p q)
  over_one (made a) (beyond k) p (inl q) = absurd (plan_not_beyond i.params i.sinks shape p.plan k p.is_plan q)
  over_one (made a) (beyond k) p (inr q) = absurd (tree_not_beyond a k p q)
  over_one (made a) (cut k) p q = absurd (placed_not_cut i shape p.placed k p.is_placed q.is_cut)
  over_one (beyond j) (made b) (inl p) q = absurd (plan_not_beyond i.params i.sinks shape q.plan j q.is_plan p)
  over_one (beyond j) (made b) (inr p) q = absurd (tree_not_beyond b j q p)
  over_one (beyond j) (beyond k) (inl p) (inl q) = ap beyond (least_beyond_one i.params i.sinks shape j k p q)
  over_one (beyond j) (beyond k) (inl p) (inr q) = absurd (plan_not_beyond i.params i.sinks shape q.plan j q.is_plan p)
  over_one (beyond j) (beyond k) (inr p) (inl q) = absurd (plan_not_beyond i.params i.sinks shape p.plan k p.is_plan q)
  over_one (beyond j) (beyond k) (inr p) (inr q) = ap beyond (beyond_same j k p q)
  over_one (beyond j) (cut k) (inl p) q = absurd (plan_not_beyond i.params i.sinks shape q.plan j q.is_plan p)
  over_one (beyond j) (cut k) (inr p) q = absurd (placed_not_cut i shape p.placed k p.is_placed q.is_cut)
  over_one (cut j) (made b) p q = absurd (placed_not_cut i shape q.placed j q.is_placed p.is_cut)
  over_one (cut j) (beyond k) p (inl q) = absurd (plan_not_beyond i.params i.sinks shape p.plan k p.is_plan q)
  over_one (cut j) (beyond k) p (inr q) = absurd (placed_not_cut i shape q.placed j q.is_placed p.is_cut)
  over_one (cut j) (cut k) p q = ap cut (greatest_cut_one i shape j k p.is_cut q.is_cut)

-- the shape of any sinks is in post-order
ordered : (sinks : List Sink) → IsPostOrder (map children (shape_of sinks))
unfolding shape_of topology_of
ordered sinks =
    IsPostOrder-labels children (topology_of sinks) (IsNumbered-division (length sinks) 0 (pins_from 0 sinks))

pub synthesis_one : (i : Parts) (a b : Synthesis) → IsSynthesis i a → IsSynthesis i b → a ≡ b
synthesis_one i a b p q = over_one i (shape_of i.sinks) (ordered i.sinks) a b p q
