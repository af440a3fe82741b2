-- What a pass over the stretch that begins at number 0 tells of a whole shape.
use Rattle.std.proofs.Common.{ℕ, ◌<◌, ◌≤◌, List, take, length, Option, subst}
use Rattle.std.specs.Prelude.{IfSome, slice_get}
use Rattle.std.specs.List.{AllZip}
use Rattle.cts_units.specs.declared.params.Sink.{Sink}
use Rattle.cts_units.specs.declared.params.Params.{Params}
use Rattle.cts_postorder.specs.PostOrder.{trees_of}
use Rattle.cts_postorder.specs.Pass.{IsLeastFailure}
use Rattle.cts_postorder.proofs.Upward.{up_all}
use Rattle.cts_topo.specs.declared.shape.ShapeNode.{ShapeNode}
use Rattle.cts_topo.specs.Shape.{children_from}
use Rattle.cts_topo.proofs.Stretches.{whole_from_start}
use Rattle.cts_merge.specs.declared.side.Finished.{Finished}
use Rattle.cts_up.specs.Plan.{IsFinished, IsBeyondPair, IsLeastBeyond, IsPlan}
use Rattle.cts_up.proofs.Ascending.{beyond_least}
use Rattle.cts_up.proofs.Unique.{finished_not_beyond}

module _ (params : Params) (sinks : List Sink) (nodes : List ShapeNode) (k : ℕ) where
  pub whole_plan : (plan : List Finished) → length nodes ≤ k
      → AllZip (IsFinished params sinks) (take k (trees_of (children_from 0) nodes)) plan → IsPlan params sinks nodes plan
  whole_plan plan h all =
      subst (λ (kids : ShapeNode → Option (ℕ × ℕ)). AllZip (IsFinished params sinks) (trees_of kids nodes) plan) whole_from_start
      (up_all (children_from 0) (IsFinished params sinks) nodes k plan h all)

  pub whole_least_beyond : k < length nodes → (plan : List Finished)
      → AllZip (IsFinished params sinks) (take k (trees_of (children_from 0) nodes)) plan
      → IfSome (slice_get (trees_of (children_from 0) nodes) k) (IsBeyondPair params sinks) → IsLeastBeyond params sinks nodes k
  whole_least_beyond h plan before over =
      subst (λ (kids : ShapeNode → Option (ℕ × ℕ)). IsLeastFailure kids nodes (IsBeyondPair params sinks) k) whole_from_start
      (beyond_least params sinks 0 nodes k h (IsFinished params sinks) plan before
      (λ t f. finished_not_beyond params sinks t f) over)
