-- How the synthesis over a nearest-pair topology ends, by what its passes say.
use Rattle.std.proofs.Common.{◌≡◌, ℕ, ◌<◌, List, length, Result, Ok, Err, IfErr, IsErrOf, sym, subst}
use Rattle.std.specs.Result.{IsErrAnd}
use Rattle.cts_units.specs.declared.params.Params.{Params}
use Rattle.cts_units.specs.declared.params.Sink.{Sink}
use Rattle.cts_instance.specs.declared.parts.Parts.{Parts}
use Rattle.cts_topo.specs.declared.shape.ShapeNode.{ShapeNode}
use Rattle.cts_near.specs.declared.end.NearEnd.{NearEnd}
use Rattle.cts_near.specs.declared.end.NearEnd.TheVariants as near
use Rattle.cts_near.specs.Ends.{max_near_sinks}
use Rattle.cts_near.specs.Ends.{Ends as ShapeEnds}
use Rattle.cts_near.specs.NearShape.{IsNearShape}
use Rattle.cts_plain.specs.declared.end.NoTree.{NoTree}
use Rattle.cts_plain.specs.declared.end.NoTree.TheVariants as plain
use Rattle.cts_plain.specs.Ends.{EndsBy}
use Rattle.cts_plain.specs.Synthesis.{IsSynthesisOver}
use Rattle.cts_near.specs.declared.tree_end.NoNearTree.{NoNearTree}
use Rattle.cts_near.specs.declared.tree_end.NoNearTree.TheVariants.{Many, Over}
use Rattle.cts_near.specs.TreeEnds.{NearEnds, of_shape}
use Rattle.cts_near.specs.Synthesis.{IsSynthesisNear}

-- what holds of an end holds of the error that it became
pub told : {T : Type 0} (P : NoNearTree → Type 0) (end : NoNearTree) (result : Result T NoNearTree) → IsErrAnd result (λ e. e ≡ end)
    → P end → IfErr result P
told P end (Ok x) is p = tt
told P end (Err e) is p = subst P (sym is) p

-- what holds of the parameters and the sinks that the joining was given
pub of_instance : (i : Parts) {params : Params} {sinks : List Sink} → params ≡ i.params → sinks ≡ i.sinks
    → (P : Params → List Sink → Type 0) → P params sinks → P i.params i.sinks
of_instance i {params = params} params_is sinks_is P p =
    subst (λ x. P x i.sinks) params_is (subst (P params) sinks_is p)

pub shape_ends : (i : Parts) (end : NearEnd) → ShapeEnds i.params i.sinks end → NearEnds i (of_shape end)
shape_ends i near.Many e = e
shape_ends i (near.Beyond step) e = e
shape_ends i near.NoMemory e = tt {0}

pub tree_ends : (i : Parts) (shape : List ShapeNode) → IsNearShape i.params i.sinks shape → (end : NoTree)
    → EndsBy (IsSynthesisOver i shape) end → NearEnds i (Over end)
tree_ends i shape near (plain.Beyond node) e = record { shape = shape; near = near; over = e }
tree_ends i shape near (plain.Cut node) e = record { shape = shape; near = near; over = e }
tree_ends i shape near plain.NoMemory e = tt {0}

-- where there are too many sinks there is no other end
pub many_end : {T U : Type 0} (end : NearEnd) (result : Result T NoNearTree) → IsErrOf {T = U} (Err end) near.Many
    → IsErrAnd result (λ e. e ≡ of_shape end) → IsErrOf result Many
many_end near.Many (Err e) is same = cc
many_end near.Many (Ok x) is same = absurd same
many_end (near.Beyond step) result is same = absurd cc
many_end near.NoMemory result is same = absurd cc
