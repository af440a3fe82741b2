-- What the upward pass makes of leaves.
use Rattle.std.proofs.Common.{◌≡◌, ℕ, ◌<◌, List, length, get_or, Option, Some, MatchOption, sym, subst, arith}
use Rattle.std.proofs.lemmas.Option.{slice_get-get_or}
use Rattle.cts_units.specs.declared.params.Sink.{Sink}
use Rattle.cts_units.specs.declared.params.Params.{Params}
use Rattle.cts_units.specs.Limits.{IsParams}
use Rattle.cts_postorder.specs.BinaryTree.{tip}
use Rattle.cts_topo.specs.declared.shape.ShapeNode.TheVariants.{Leaf}
use Rattle.cts_merge.specs.declared.side.Finished.{Finished}
use Rattle.cts_merge.specs.Merge.{IsLeaf}
use Rattle.cts_up.specs.Plan.{IsFinished, sink_of}
use Rattle.cts_up.specs.Sinks.{AreSinksInRange, IsSinkInRange}
use Rattle.cts_up.proofs.Leaves.{LeafOf, leaf_of, sink_has}
use Rattle.cts_up.proofs.Sides.{sides_merge}
use Rattle.cts_memo.specs.Keys.{IsNarrow}

module _ (params : Params) (sinks : List Sink) (s : ℕ) (f : Finished) where
  -- a leaf's numbers are those of a sink
  pub finished_narrow : IsParams params → AreSinksInRange sinks → IsFinished params sinks (tip (Leaf s)) f → IsNarrow f.side
  unfolding IsFinished
  finished_narrow within ready made =
      let leaf : LeafOf sinks (Leaf s) f = leaf_of sinks (Leaf s) f made in
      let sink : IsSinkInRange leaf.sink = sink_has IsSinkInRange sinks (Leaf s) leaf.sink ready.each leaf.named in
      record {
        region = (sides_merge params sinks (tip (Leaf s)) f made within ready).region;
        greatest = omega (arith, leaf.leaf.greatest, sink.offset);
      }

  -- a leaf is what its sink gives
  module _ (d : Sink) (within : s < length sinks) where
    found : sink_of sinks (Leaf s) ≡ Some (get_or sinks s d)
    found = slice_get-get_or sinks s d within

    pub finished_leaf : IsLeaf (get_or sinks s d) f → IsFinished params sinks (tip (Leaf s)) f
    unfolding IsFinished
    finished_leaf leaf = subst (λ (o : Option Sink). MatchOption o ⊥ (λ x. IsLeaf x f)) (sym found) leaf

    pub leaf_finished : IsFinished params sinks (tip (Leaf s)) f → IsLeaf (get_or sinks s d) f
    unfolding IsFinished
    leaf_finished made = subst (λ (o : Option Sink). MatchOption o ⊥ (λ x. IsLeaf x f)) found made
