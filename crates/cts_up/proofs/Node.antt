-- One step of the pass: what is known of the node at the next number.
use Rattle.std.proofs.Common.{◌≡◌, ℕ, ◌+◌, ◌<◌, ◌++◌, ◌∷◌, [], List, take, length, get_or, Option, Some, MatchOption, sym, ap, subst}
use Rattle.std.specs.List.{AllZip}
use Rattle.std.proofs.lemmas.Option.{slice_get-get_or}
use Rattle.cts_units.specs.declared.params.Sink.{Sink}
use Rattle.cts_units.specs.declared.params.Params.{Params}
use Rattle.cts_postorder.specs.BinaryTree.{tip, fork}
use Rattle.cts_postorder.specs.PostOrder.{trees_of}
use Rattle.cts_postorder.proofs.Upward.{UpAtPair, up_at_leaf, up_at_pair, least_failure}
use Rattle.cts_topo.specs.declared.shape.ShapeNode.{ShapeNode}
use Rattle.cts_topo.specs.declared.shape.ShapeNode.TheVariants.{Leaf, Pair}
use Rattle.cts_topo.specs.Shape.{children, IsShapeOver}
use Rattle.cts_topo.proofs.Counts.{leaf_within}
use Rattle.cts_merge.specs.declared.side.Finished.{Finished}
use Rattle.cts_merge.specs.Merge.{IsLeaf, IsMerged, IsBeyond}
use Rattle.cts_up.specs.Plan.{sink_of, IsFinished, IsBeyondPair, IsLeastBeyond}
use Rattle.cts_up.proofs.Unique.{finished_not_beyond}

-- The parameters, the sinks, the nodes of a shape over them, and the plan of the nodes before number k.
module _ (params : Params) (sinks : List Sink) (nodes : List ShapeNode) (ok : IsShapeOver (length sinks) nodes)
    (k : ℕ) (h : k < length nodes) (plan : List Finished)
    (before : AllZip (IsFinished params sinks) (take k (trees_of children nodes)) plan) where
  -- a leaf is finished by what its sink gives
  pub leaf_next : (s : ℕ) (e : ShapeNode) → get_or nodes k e ≡ Leaf s → (d : Sink) (f : Finished) → IsLeaf (get_or sinks s d) f
      → AllZip (IsFinished params sinks) (take (k + 1) (trees_of children nodes)) (plan ++ f ∷ [])
  unfolding IsFinished
  leaf_next s e here d f leaf =
      let within : s < length sinks = leaf_within (length sinks) nodes ok k e s h here in
      let found : sink_of sinks (Leaf s) ≡ Some (get_or sinks s d) = slice_get-get_or sinks s d within in
      let finished : IsFinished params sinks (tip (Leaf s)) f =
      subst (λ (o : Option Sink). MatchOption o ⊥ (λ x. IsLeaf x f)) (sym found) leaf in
      up_at_leaf children (IsFinished params sinks) nodes k e plan f h (ap children here) before
      (subst (λ m. IsFinished params sinks (tip m) f) (sym here) finished)

  module _ (left right : ℕ) (e : ShapeNode) (here : get_or nodes k e ≡ Pair left right) where
    pub pair : UpAtPair children nodes (IsFinished params sinks) k (left, right) (get_or nodes k e) plan
    pair = up_at_pair children (IsFinished params sinks) nodes ok.post_order k e (left, right) plan h (ap children here) before

    -- the sides of the two parts
    module _ (a b d d' : Finished) (left_read : a ≡ get_or plan left d) (right_read : b ≡ get_or plan right d') where
      left_is : IsFinished params sinks pair.left a
      left_is = subst (IsFinished params sinks pair.left) (sym left_read) (pair.left_value d)

      right_is : IsFinished params sinks pair.right b
      right_is = subst (IsFinished params sinks pair.right) (sym right_read) (pair.right_value d')

      pub pair_merged : (f : Finished) → IsMerged params a.side b.side f
          → AllZip (IsFinished params sinks) (take (k + 1) (trees_of children nodes)) (plan ++ f ∷ [])
      unfolding IsFinished
      pair_merged f merged = pair.next f (a, b, left_is, right_is, merged)

      pub pair_over : IsBeyond params a.side b.side → IsLeastBeyond params sinks nodes k
      unfolding IsBeyondPair
      pair_over over =
          least_failure children (IsFinished params sinks) (IsBeyondPair params sinks)
          (λ t f. finished_not_beyond params sinks t f) nodes plan k (fork pair.left pair.right (get_or nodes k e)) before pair.here
          (a, b, left_is, right_is, over)
