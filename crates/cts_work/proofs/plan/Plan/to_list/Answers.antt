use Rattle.std.proofs.Common.{◌≡◌, ℕ, ◌+◌, ◌<◌, List, ◌++◌, length, get_or, take, sym, ap, ◌∙◌, arith}
use Rattle.cts_merge.specs.declared.side.Finished.{Finished}
use Rattle.cts_work.specs.declared.plan.PlanPart.{PlanPart}
use Rattle.cts_work.specs.Plans.{joined}
use Rattle.cts_work.proofs.Plans.{joined-upto}
use Rattle.cts_work.proofs.plan.Plan.to_list.Goals as goal

-- the nodes of one part more
one_more : (now : List Finished) (parts : List PlanPart) (k : ℕ) (d : PlanPart) (nodes : List Finished) → k < length parts
    → now ≡ joined (take k parts) → nodes ≡ (get_or parts k d).nodes.items → now ++ nodes ≡ joined (take (k + 1) parts)
one_more now parts k d nodes below before here = (λ z. before z ++ here z) ∙ sym (joined-upto parts k d below)

pub loop-part-preserved : goal.loop-part-preserved
loop-part-preserved c =
    let k = c.loop-part.part-index in
    let d : PlanPart = c.part-item.result in
    let same = c.deref-part-items.ensures.value in
    record {
      list = c.in_ok-extend_from_slice.ensures.items
          ∙ one_more c.loop-part.list.items c.args.self.now.parts.items k d c.deref.result.now (omega (arith, c.loop-part-test.true, ap length same))
          c.loop-part.invariant.list
          (c.deref.ensures.value ∙ ap (λ (p : PlanPart). p.nodes.items) c.part-item.is ∙ ap (λ ps. (get_or ps k d).nodes.items) same);
    }
