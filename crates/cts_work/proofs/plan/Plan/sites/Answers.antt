use Rattle.std.proofs.Common.{◌≡◌, ℕ, ◌+◌, ◌<◌, List, ◌++◌, length, get_or, map, take, sym, ap, ◌∙◌, arith}
use Rattle.std.proofs.lemmas.List.{map-append}
use Rattle.cts_merge.specs.declared.side.Finished.{Finished}
use Rattle.cts_up.specs.declared.site.Site.{Site}
use Rattle.cts_up.specs.Sites.{site_of}
use Rattle.cts_work.specs.declared.plan.PlanPart.{PlanPart}
use Rattle.cts_work.specs.Plans.{joined}
use Rattle.cts_work.proofs.Plans.{joined-upto}
use Rattle.cts_work.proofs.plan.Plan.sites.Goals as goal

-- the sites of one part more
one_more : (now : List Site) (parts : List PlanPart) (k : ℕ) (d : PlanPart) (nodes : List Finished) → k < length parts
    → now ≡ map site_of (joined (take k parts)) → nodes ≡ (get_or parts k d).nodes.items
    → now ++ map site_of nodes ≡ map site_of (joined (take (k + 1) parts))
one_more now parts k d nodes below before here =
    (λ z. before z ++ map site_of (here z)) ∙ sym (map-append site_of (joined (take k parts)) (get_or parts k d).nodes.items)
    ∙ ap (map site_of) (sym (joined-upto parts k d below))

pub loop-part-preserved : goal.loop-part-preserved
loop-part-preserved c =
    let k = c.loop-part.part-index in
    let d : PlanPart = c.part-item.result in
    let same = c.deref-part-items.ensures.value in
    record {
      sites = c.in_ok-add_sites.ensures
          ∙ one_more c.loop-part.sites.items c.args.self.now.parts.items k d c.deref.result.now (omega (arith, c.loop-part-test.true, ap length same))
          c.loop-part.invariant.sites
          (c.deref.ensures.value ∙ ap (λ (p : PlanPart). p.nodes.items) c.part-item.is ∙ ap (λ ps. (get_or ps k d).nodes.items) same);
    }
