-- A tree is made of one thing alone, and a pair that is finished is not beyond.
use Rattle.std.proofs.Common.{◌≡◌, List, Option, Some, None, sym, subst}
use Rattle.std.specs.Option.{MatchOption}
use Rattle.cts_units.specs.declared.params.Sink.{Sink}
use Rattle.cts_units.specs.declared.params.Params.{Params}
use Rattle.cts_postorder.specs.BinaryTree.{BinaryTree, tip, fork}
use Rattle.cts_postorder.specs.PostOrder.{trees_of}
use Rattle.cts_postorder.proofs.Zips.{all_zip-one}
use Rattle.cts_postorder.proofs.Upward.{none_left, least_failure_unique}
use Rattle.cts_topo.specs.declared.shape.ShapeNode.{ShapeNode}
use Rattle.cts_topo.specs.Shape.{children}
use Rattle.cts_merge.specs.declared.side.Finished.{Finished}
use Rattle.cts_merge.specs.Merge.{IsLeaf, IsMerged, IsBeyond}
use Rattle.cts_merge.proofs.Merges.{leaf_one, merged_one, merged_not_beyond}
use Rattle.cts_up.specs.Plan.{IsFinished, IsBeyondPair}
use Rattle.cts_up.specs.Laws.{FinishedIsOne, PlanIsOne, PlanIsNotBeyond, LeastBeyondIsOne}

leaf_same : (sink : Option Sink) (f g : Finished) → MatchOption sink ⊥ (λ s. IsLeaf s f) → MatchOption sink ⊥ (λ s. IsLeaf s g) → f ≡ g
leaf_same None f g p q = absurd p
leaf_same (Some s) f g p q = leaf_one s f g p q

-- the same two parts under another name
over : (P : Finished → Finished → Type 0) (a b c d : Finished) → a ≡ c → b ≡ d → P c d → P a b
over P a b c d first second h =
    subst (λ (x : Finished). P x b) (sym first) (subst (λ (x : Finished). P c x) (sym second) h)

pub finished_one : FinishedIsOne
unfolding IsFinished
finished_one params sinks (tip n) f g p q = leaf_same _ f g p q
finished_one params sinks (fork l r n) f g p q =
    let first : p.0 ≡ q.0 = finished_one params sinks l p.0 q.0 p.2 q.2 in
    let second : p.1 ≡ q.1 = finished_one params sinks r p.1 q.1 p.3 q.3 in
    merged_one params p.0.side p.1.side f g p.4
    (over (λ a b. IsMerged params a.side b.side g) p.0 p.1 q.0 q.1 first second q.4)

pub finished_not_beyond : (params : Params) (sinks : List Sink) (t : BinaryTree ShapeNode) (f : Finished)
    → IsFinished params sinks t f → ¬ IsBeyondPair params sinks t
unfolding IsFinished IsBeyondPair
finished_not_beyond params sinks (tip n) f p = λ q. q
finished_not_beyond params sinks (fork l r n) f p = λ q.
    let first : p.0 ≡ q.0 = finished_one params sinks l p.0 q.0 p.2 q.2 in
    let second : p.1 ≡ q.1 = finished_one params sinks r p.1 q.1 p.3 q.3 in
    merged_not_beyond params p.0.side p.1.side f p.4
    (over (λ a b. IsBeyond params a.side b.side) p.0 p.1 q.0 q.1 first second q.4)

pub plan_one : PlanIsOne
plan_one params sinks nodes plan other p q =
    all_zip-one (IsFinished params sinks) (λ t f g. finished_one params sinks t f g) (trees_of children nodes) plan other p q

pub plan_not_beyond : PlanIsNotBeyond
plan_not_beyond params sinks nodes plan k p f =
    none_left children (IsFinished params sinks) (IsBeyondPair params sinks)
    (λ t g. finished_not_beyond params sinks t g) nodes plan k p f

pub least_beyond_one : LeastBeyondIsOne
least_beyond_one params sinks nodes j k f g = least_failure_unique children (IsBeyondPair params sinks) nodes j k f g
