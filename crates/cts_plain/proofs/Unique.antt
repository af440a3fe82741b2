-- Over one shape there is one synthesis.
use Rattle.std.proofs.Common.{◌≡◌, ℕ, inl, inr, List, length, ap, subst}
use Rattle.cts_tree.specs.declared.nodes.TreeNode.{TreeNode}
use Rattle.cts_instance.specs.declared.parts.Parts.{Parts}
use Rattle.cts_topo.specs.declared.shape.ShapeNode.{ShapeNode}
use Rattle.cts_topo.specs.Shape.{IsShapeOver}
use Rattle.cts_up.proofs.Unique.{plan_not_beyond, least_beyond_one}
use Rattle.cts_embed.specs.BalancedTree.{IsBalancedTree}
use Rattle.cts_embed.specs.BalancedTree.{IsLeastBeyond as IsBeyondInBalance}
use Rattle.cts_embed.proofs.OnePlace.{placed_tree_one, placed_not_cut, greatest_cut_one}
use Rattle.cts_embed.proofs.PlacedFits.{placed_post_order}
use Rattle.cts_embed.proofs.Unique.{balanced_tree_one}
use Rattle.cts_embed.proofs.Beyond.{balanced_tree_not_beyond}
use Rattle.cts_embed.proofs.Beyond.{least_beyond_one as balance_beyond_one}
use Rattle.cts_plain.specs.Synthesis.{Synthesis, made, beyond, cut, IsSynthesisOver, IsTreeOf, IsBeyondOf}
use Rattle.cts_plain.specs.Laws.{SynthesisIsOne}

module _ (i : Parts) (shape : List ShapeNode) (over : IsShapeOver (length i.sinks) shape) where
  trees_same : (a b : List TreeNode) → IsTreeOf i shape a → IsTreeOf i shape b → a ≡ b
  trees_same a b p q =
      let same : p.placed ≡ q.placed = placed_tree_one i shape p.placed q.placed p.is_placed q.is_placed in
      balanced_tree_one i q.placed a b (subst (λ x. IsBalancedTree i x a) same p.is_balanced) q.is_balanced

  tree_not_beyond : (a : List TreeNode) (k : ℕ) → IsTreeOf i shape a → ¬ IsBeyondOf i shape k
  tree_not_beyond a k p q =
      let same : p.placed ≡ q.placed = placed_tree_one i shape p.placed q.placed p.is_placed q.is_placed in
      balanced_tree_not_beyond i q.placed a k (placed_post_order i shape q.placed q.is_placed over.post_order)
      (subst (λ x. IsBalancedTree i x a) same p.is_balanced) q.is_beyond

  beyond_same : (j k : ℕ) → IsBeyondOf i shape j → IsBeyondOf i shape k → j ≡ k
  beyond_same j k p q =
      let same : p.placed ≡ q.placed = placed_tree_one i shape p.placed q.placed p.is_placed q.is_placed in
      balance_beyond_one i q.placed j k (placed_post_order i shape q.placed q.is_placed over.post_order)
      (subst (λ x. IsBeyondInBalance i x j) same p.is_beyond) q.is_beyond

  one : (a b : Synthesis) → IsSynthesisOver i shape a → IsSynthesisOver i shape b → a ≡ b
  one (made a) (made b) p q = ap made (trees_same a b p q)
  one (made a) (beyond k) p (inl q) = absurd (plan_not_beyond i.params i.sinks shape p.plan k p.is_plan q)
  one (made a) (beyond k) p (inr q) = absurd (tree_not_beyond a k p q)
  one (made a) (cut k) p q = absurd (placed_not_cut i shape p.placed k p.is_placed q.is_cut)
  one (beyond j) (made b) (inl p) q = absurd (plan_not_beyond i.params i.sinks shape q.plan j q.is_plan p)
  one (beyond j) (made b) (inr p) q = absurd (tree_not_beyond b j q p)
  one (beyond j) (beyond k) (inl p) (inl q) = ap beyond (least_beyond_one i.params i.sinks shape j k p q)
  one (beyond j) (beyond k) (inl p) (inr q) = absurd (plan_not_beyond i.params i.sinks shape q.plan j q.is_plan p)
  one (beyond j) (beyond k) (inr p) (inl q) = absurd (plan_not_beyond i.params i.sinks shape p.plan k p.is_plan q)
  one (beyond j) (beyond k) (inr p) (inr q) = ap beyond (beyond_same j k p q)
  one (beyond j) (cut k) (inl p) q = absurd (plan_not_beyond i.params i.sinks shape q.plan j q.is_plan p)
  one (beyond j) (cut k) (inr p) q = absurd (placed_not_cut i shape p.placed k p.is_placed q.is_cut)
  one (cut j) (made b) p q = absurd (placed_not_cut i shape q.placed j q.is_placed p.is_cut)
  one (cut j) (beyond k) p (inl q) = absurd (plan_not_beyond i.params i.sinks shape p.plan k p.is_plan q)
  one (cut j) (beyond k) p (inr q) = absurd (placed_not_cut i shape q.placed j q.is_placed p.is_cut)
  one (cut j) (cut k) p q = ap cut (greatest_cut_one i shape j k p.is_cut q.is_cut)

pub synthesis_one : SynthesisIsOne
synthesis_one i shape a b over p q = one i shape over a b p q
