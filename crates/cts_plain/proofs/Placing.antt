-- How the passes before there is a placed tree end, as ends of the synthesis, and that they are over the instance's own sinks.
use Rattle.std.proofs.Common.{◌≡◌, ℕ, ◌+◌, List, length, Result, Ok, Err, IfErr, sym, subst}
use Rattle.std.specs.Result.{IsErrAnd}
use Rattle.cts_units.specs.declared.params.Params.{Params}
use Rattle.cts_units.specs.declared.params.Sink.{Sink}
use Rattle.cts_instance.specs.declared.parts.Parts.{Parts}
use Rattle.cts_topo.specs.declared.shape.ShapeNode.{ShapeNode}
use Rattle.cts_merge.specs.declared.side.Finished.{Finished}
use Rattle.cts_up.specs.declared.end.UpEnd.{UpEnd}
use Rattle.cts_up.specs.declared.end.UpEnd.TheVariants as plan_end
use Rattle.cts_up.specs.Ends.{CountsPairs}
use Rattle.cts_up.specs.Ends.{Ends as PlanEnds}
use Rattle.cts_up.specs.Plan.{IsPlan}
use Rattle.cts_embed.specs.declared.end.EmbedEnd.{EmbedEnd}
use Rattle.cts_embed.specs.declared.end.EmbedEnd.TheVariants as places_end
use Rattle.cts_embed.specs.Ends.{EmbedEnds}
use Rattle.cts_plain.specs.declared.end.NoTree.{NoTree}
use Rattle.cts_plain.specs.Ends.{CountsInPlaces, EndsInPlaces}
use Rattle.cts_plain.specs.EndsOf.{of_plan, of_places}

-- what holds of an end holds of the error that it became
pub told : {T : Type 0} (P : NoTree → Type 0) (end : NoTree) (result : Result T NoTree) → IsErrAnd result (λ e. e ≡ end)
    → P end → IfErr result P
told P end (Ok x) is p = tt
told P end (Err e) is p = subst P (sym is) p

-- what holds of the parameters and the sinks that the passes were given
pub of_instance : (i : Parts) {params : Params} {sinks : List Sink} → params ≡ i.params → sinks ≡ i.sinks
    → (P : Params → List Sink → Type 0) → P params sinks → P i.params i.sinks
of_instance i {params = params} params_is sinks_is P p =
    subst (λ x. P x i.sinks) params_is (subst (P params) sinks_is p)

pub plan_ends : (i : Parts) (shape : List ShapeNode) (end : UpEnd) → PlanEnds i.params i.sinks shape end
    → EndsInPlaces i shape (of_plan end)
plan_ends i shape (plan_end.Beyond node) e = e
plan_ends i shape plan_end.NoMemory e = tt {0}

pub plan_counts : (i : Parts) (shape : List ShapeNode) (before after : ℕ) (end : UpEnd) → CountsPairs shape before after end
    → CountsInPlaces i shape before after (of_plan end)
plan_counts i shape before after (plan_end.Beyond node) e = e
plan_counts i shape before after plan_end.NoMemory e = tt {0}

pub places_ends : (i : Parts) (shape : List ShapeNode) (plan : List Finished) → IsPlan i.params i.sinks shape plan
    → (end : EmbedEnd) → EmbedEnds i shape end → EndsInPlaces i shape (of_places end)
places_ends i shape plan is (places_end.Cut node) e = record { plan = plan; is_plan = is; is_cut = e }
places_ends i shape plan is places_end.NoMemory e = tt {0}

pub places_count : (i : Parts) (shape : List ShapeNode) (before after : ℕ) → after + 1 ≡ before + length i.sinks → (end : EmbedEnd)
    → CountsInPlaces i shape before after (of_places end)
places_count i shape before after all (places_end.Cut node) = all
places_count i shape before after all places_end.NoMemory = tt {0}
