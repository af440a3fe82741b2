use Rattle.std.proofs.Common.{◌≡◌, ◌+◌, ◌-◌, ◌<◌, ◌≤◌, ◌++◌, drop, length, get_or, sym, ap, ◌∙◌, subst, append_assoc, length-append, arith}
use Rattle.std.proofs.lemmas.List.{get_or_default}
use Rattle.std.proofs.Math.Seq.{get_or-append_right}
use Rattle.cts_work.specs.declared.plan.PlanPart.{PlanPart}
use Rattle.cts_work.specs.Plans.{joined}
use Rattle.cts_work.proofs.Plans.{joined-next, joined-past}
use Rattle.cts_work.proofs.making.Made.at.Goals as goal

pub returns : goal.returns
returns c d =
    let part = c.args.self.now.part.now in
    let rest = c.loop-part.rest in
    let none = joined-past c.args.self.now.parts.now c.loop-part.part-index (omega (arith, c.loop-part-test.false)) in
    let within : rest < length part = subst (λ l. rest < length (l ++ part)) none c.loop-part.invariant.within in
    get_or_default part rest c.index-self-rest.result d within
    ∙ sym (c.loop-part.invariant.same d ∙ ap (λ l. get_or (l ++ part) rest d) none)

pub loop-part-preserved : goal.loop-part-preserved
loop-part-preserved c =
    let parts = c.args.self.now.parts.now in
    let part = c.args.self.now.part.now in
    let k = c.loop-part.part-index in
    let rest = c.loop-part.rest in
    let here = c.part-item.result in
    let after = joined (drop (k + 1) parts) ++ part in
    let next : joined (drop k parts) ++ part ≡ here.nodes.items ++ after =
    ap (λ l. l ++ part) (joined-next parts k here (omega (arith, c.loop-part-test.true)) ∙ ap (λ (p : PlanPart). p.nodes.items ++ joined (drop (k + 1) parts)) (sym c.part-item.is))
    ∙ append_assoc here.nodes.items (joined (drop (k + 1) parts)) part in
    let past : length here.nodes.items ≤ rest = omega (arith, c.in-None.ensures.lookup.3, ap length c.deref.ensures.value) in
    let count : c.len-rest.result ≡ length here.nodes.items = omega (arith, c.len-rest.ensures) in
    record {
      within = omega (arith, c.loop-part.invariant.within, ap length next, length-append here.nodes.items after, past, count);
      same = λ d.
          c.loop-part.invariant.same d ∙ ap (λ l. get_or l rest d) next ∙ get_or-append_right here.nodes.items after rest d past
          ∙ ap (λ n. get_or after (rest - n) d) (sym count);
    }
