use Rattle.std.proofs.Common.{◌≡◌, ◌+◌, ◌≤◌, List, length, sym, subst}
use Rattle.cts_units.specs.declared.params.Sink.{Sink}
use Rattle.cts_units.specs.Limits.{IsParams}
use Rattle.cts_topo.specs.Shape.{IsShapeOver}
use Rattle.cts_up.specs.Ends.{Ends as PlanEnds}
use Rattle.cts_up.specs.Plan.{IsPlan}
use Rattle.cts_up.specs.Sinks.{AreSinksInRange}
use Rattle.cts_up.specs.Sites.{AreSites}
use Rattle.cts_embed.proofs.Stands.{sinks_in_range}
use Rattle.cts_plain.specs.Ends.{CountsInPlaces, EndsInPlaces}
use Rattle.cts_plain.specs.EndsOf.{of_plan, of_places}
use Rattle.cts_plain.proofs.Placing.{told, of_instance, plan_ends, plan_counts, places_ends, places_count}
use Rattle.cts_plain.proofs.synthesis.place_over.Goals as goal

pub sites-requires-clause-params : goal.sites-requires-clause-params
sites-requires-clause-params g c = subst IsParams (sym c.params.ensures.part) c.params.ensures.valid.params

pub sites-requires-clause-sinks : goal.sites-requires-clause-sinks
sites-requires-clause-sinks g c =
    subst AreSinksInRange (sym c.sinks.ensures.part) (sinks_in_range c.args.instance.now c.sinks.ensures.valid)

pub sites-requires-clause-shape : goal.sites-requires-clause-shape
sites-requires-clause-shape g c =
    subst (λ (sinks : List Sink). IsShapeOver (length sinks) c.args.shape.now) (sym c.sinks.ensures.part) c.requires

pub returns-in_err-sites-clause-ends : goal.returns-in_err-sites-clause-ends
returns-in_err-sites-clause-ends g c =
    let i = c.args.instance.now in
    let shape = c.args.shape.now in
    let end = c.in_err-sites.field-0.0 in
    told (EndsInPlaces i shape) (of_plan end) c.from_residual.result (c.from_residual.ensures.1)
    (plan_ends i shape end
    (of_instance i c.params.ensures.part c.sinks.ensures.part (λ params sinks. PlanEnds params sinks shape end)
    c.in_err-sites.ensures.ends))

pub returns-in_err-sites-clause-merges_until : goal.returns-in_err-sites-clause-merges_until
returns-in_err-sites-clause-merges_until g c =
    let i = c.args.instance.now in
    let shape = c.args.shape.now in
    let end = c.in_err-sites.field-0.0 in
    told (CountsInPlaces i shape c.args.steps.now c.sites.new.steps) (of_plan end) c.from_residual.result
    (c.from_residual.ensures.1)
    (plan_counts i shape c.args.steps.now c.sites.new.steps end c.in_err-sites.ensures.merges_until)

pub embed_sites-requires-clause-sites : goal.embed_sites-requires-clause-sites
embed_sites-requires-clause-sites g c =
    let i = c.args.instance.now in
    let shape = c.args.shape.now in
    of_instance i c.params.ensures.part c.sinks.ensures.part (λ params sinks. AreSites params sinks shape c.as_slice.result.now)
    (subst (AreSites c.params.result.now c.sinks.result.now shape) (sym c.as_slice.ensures.value) c.in_ok-sites.ensures.sites)

pub returns-in_err-embed_sites-clause-ends : goal.returns-in_err-embed_sites-clause-ends
returns-in_err-embed_sites-clause-ends g c =
    let i = c.args.instance.now in
    let shape = c.args.shape.now in
    let end = c.in_err-embed_sites.field-0.0 in
    let plan = c.in_ok-sites.ensures.sites.0 in
    told (EndsInPlaces i shape) (of_places end) c.from_residual-in_err-embed_sites.result
    (c.from_residual-in_err-embed_sites.ensures.1)
    (places_ends i shape plan
    (of_instance i c.params.ensures.part c.sinks.ensures.part (λ params sinks. IsPlan params sinks shape plan)
    c.in_ok-sites.ensures.sites.1)
    end c.in_err-embed_sites.ensures.ends)

pub returns-in_err-embed_sites-clause-merges_until : goal.returns-in_err-embed_sites-clause-merges_until
returns-in_err-embed_sites-clause-merges_until g c =
    let i = c.args.instance.now in
    let shape = c.args.shape.now in
    let end = c.in_err-embed_sites.field-0.0 in
    told (CountsInPlaces i shape c.args.steps.now c.sites.new.steps) (of_places end) c.from_residual-in_err-embed_sites.result
    (c.from_residual-in_err-embed_sites.ensures.1)
    (places_count i shape c.args.steps.now c.sites.new.steps
    (subst (λ (sinks : List Sink). c.sites.new.steps + 1 ≡ c.args.steps.now + length sinks) c.sinks.ensures.part
    c.in_ok-sites.ensures.merges) end)

pub returns-clause-placed : goal.returns-clause-placed
returns-clause-placed g c =
    let i = c.args.instance.now in
    let shape = c.args.shape.now in
    let plan = c.in_ok-sites.ensures.sites.0 in
    record {
      plan = plan;
      is_plan =
          of_instance i c.params.ensures.part c.sinks.ensures.part (λ params sinks. IsPlan params sinks shape plan)
          c.in_ok-sites.ensures.sites.1;
      is_placed = c.in_ok-embed_sites.ensures.placed;
    }

pub returns-clause-merges : goal.returns-clause-merges
returns-clause-merges g c =
    subst (λ (sinks : List Sink). c.sites.new.steps + 1 ≡ c.args.steps.now + length sinks) c.sinks.ensures.part
    c.in_ok-sites.ensures.merges

pub returns-in_err-embed_sites-clause-merges_at_most : goal.returns-in_err-embed_sites-clause-merges_at_most
returns-in_err-embed_sites-clause-merges_at_most g c =
    subst (λ (sinks : List Sink). c.sites.new.steps + 1 ≤ c.args.steps.now + length sinks) c.sinks.ensures.part
    c.sites.ensures.merges_at_most

pub returns-clause-merges_at_most : goal.returns-clause-merges_at_most
returns-clause-merges_at_most g c =
    subst (λ (sinks : List Sink). c.sites.new.steps + 1 ≤ c.args.steps.now + length sinks) c.sinks.ensures.part
    c.sites.ensures.merges_at_most
