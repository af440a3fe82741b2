-- Every shape over sinks has a plan or a node that is beyond.
use Rattle.std.proofs.Common.{◌≡◌, ℕ, zero, suc, ◌+◌, ◌<◌, ◌≤◌, ◌⊎◌, inl, inr, pos, List, [], ◌∷◌, ◌++◌, take, length, get_or, refl, subst, arith, add-one}
use Rattle.std.specs.List.{AllZip}
use Rattle.cts_units.specs.declared.params.Sink.{Sink}
use Rattle.cts_units.specs.declared.params.Params.{Params}
use Rattle.cts_units.specs.Limits.{IsWire}
use Rattle.cts_postorder.specs.PostOrder.{trees_of}
use Rattle.cts_postorder.proofs.Upward.{up_all}
use Rattle.cts_topo.specs.declared.shape.ShapeNode.{ShapeNode}
use Rattle.cts_topo.specs.declared.shape.ShapeNode.TheVariants.{Leaf, Pair}
use Rattle.cts_topo.specs.Shape.{children, IsShapeOver}
use Rattle.cts_merge.specs.declared.side.Finished.{Finished}
use Rattle.cts_merge.proofs.Exists.{sink_leaf, sink_leaf_is, merged_or_beyond}
use Rattle.cts_up.specs.Plan.{IsFinished, IsLeastBeyond}
use Rattle.cts_up.specs.Laws.{ShapesHavePlans}
use Rattle.cts_up.proofs.Node.{leaf_next, pair_merged, pair_over}

-- values past the end of a list
no_sink : Sink
no_sink = record { id = 0; x = pos 0; y = pos 0; cap = 0; offset = 0 }

no_node : Finished
no_node = sink_leaf no_sink

module _ (params : Params) (sinks : List Sink) (nodes : List ShapeNode) (wire : IsWire params.wire)
    (ok : IsShapeOver (length sinks) nodes) where
  -- the plan of the first k nodes, or the least node that is beyond
  Front : ℕ → Type 0
  Front k =
      ((plan : List Finished) × AllZip (IsFinished params sinks) (take k (trees_of children nodes)) plan)
      ⊎ ((j : ℕ) × IsLeastBeyond params sinks nodes j)

  -- one node further
  next : (k : ℕ) → k < length nodes → (plan : List Finished)
      → AllZip (IsFinished params sinks) (take k (trees_of children nodes)) plan → (n : ShapeNode)
      → get_or nodes k (Leaf 0) ≡ n → Front (k + 1)
  unfolding Front
  next k h plan before (Leaf s) here =
      let sink : Sink = get_or sinks s no_sink in
      inl (plan ++ sink_leaf sink ∷ [], leaf_next params sinks nodes ok k h plan before s (Leaf 0) here no_sink (sink_leaf sink) (sink_leaf_is sink))
  next k h plan before (Pair left right) here =
      let a : Finished = get_or plan left no_node in
      let b : Finished = get_or plan right no_node in
      elim (merged_or_beyond params a.side b.side wire) [
        | inl pair ↦
            inl (
              plan ++ pair.0 ∷ [],
              pair_merged params sinks nodes ok k h plan before left right (Leaf 0) here a b no_node no_node refl refl (pair.0) (pair.1),
            )
        | inr over ↦
            inr (k, pair_over params sinks nodes ok k h plan before left right (Leaf 0) here a b no_node no_node refl refl over)
      ]

  front : (k : ℕ) → k ≤ length nodes → Front k
  unfolding Front
  front zero h = inl ([], tt)
  front (suc k) h =
      elim (front k (omega arith)) [
        | inl so_far ↦ subst Front (add-one k) (next k (omega arith) (so_far.0) (so_far.1) (get_or nodes k (Leaf 0)) refl)
        | inr over ↦ inr over
      ]

pub plan_or_beyond : ShapesHavePlans
unfolding Front
plan_or_beyond params sinks nodes wire ok =
    elim (front params sinks nodes wire ok (length nodes) (omega arith)) [
      | inl all ↦
          inl (all.0, up_all children (IsFinished params sinks) nodes (length nodes) (all.0) (omega arith) (all.1))
      | inr over ↦ inr over
    ]
