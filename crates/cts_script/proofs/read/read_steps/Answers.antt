use Rattle.std.proofs.Common.{◌≡◌, length, sym, ◌∙◌, arith, length-append}
use Rattle.std.proofs.lemmas.List.Elements.{All-push}
use Rattle.std.proofs.lemmas.Result.{err_from_is_err_and}
use Rattle.cts_read.specs.Grammar.{left_in}
use Rattle.cts_script.specs.declared.step.Asked.{Asked}
use Rattle.cts_script.specs.Steps.{IsAct}
use Rattle.cts_script.proofs.StepLists.{fewer_lines, steps_end, steps_more, steps_refused}
use Rattle.cts_script.proofs.read.read_steps.Goals as goal

pub returns-in_err-step-clause-read : goal.returns-in_err-step-clause-read
returns-in_err-step-clause-read c =
    let many : c.len.result ≡ length c.loop-asked.asked.items = omega arith in
    let p = err_from_is_err_and c.from_residual.result c.from_residual.ensures.1 in
    rw (p.1, p.2)
    (rw (← c.loop-asked.invariant.so_far)
    (steps_refused c.args.callers c.loop-asked.asked.items _ (left_in c.loop-asked.lines) many _ c.in_err-step.ensures.read))

pub loop-asked-smaller : goal.loop-asked-smaller
loop-asked-smaller c = fewer_lines c.args.callers _ (left_in c.loop-asked.lines) _ (left_in c.read_step.new.lines) c.in_ok-step.ensures.read

pub loop-asked-preserved : goal.loop-asked-preserved
loop-asked-preserved c =
    let many : c.len.result ≡ length c.loop-asked.asked.items = omega arith in
    let read = rw c.in-Some.is at c.in_ok-step.ensures.read in
    let within = rw c.in-Some.is at c.in_ok-step.ensures.within in
    let room = rw c.in-Some.is at c.in_ok-step.ensures.room in
    record {
      so_far = rw c.in_ok-push.ensures.items
          (sym (steps_more c.args.callers c.loop-asked.asked.items _ (left_in c.loop-asked.lines) many c.in-Some.step _ read)
          ∙ c.loop-asked.invariant.so_far);
      few = rw (c.in_ok-push.ensures.items, length-append) (omega (arith, room, many));
      within = rw c.in_ok-push.ensures.items
          (All-push (λ (a : Asked). IsAct a.step.act) c.loop-asked.asked.items c.in-Some.step c.loop-asked.invariant.within within);
    }

pub returns-clause-read : goal.returns-clause-read
returns-clause-read c =
    let many : c.len.result ≡ length c.loop-asked.asked.items = omega arith in
    let read = rw c.in_default.is at c.in_ok-step.ensures.read in
    sym c.loop-asked.invariant.so_far
    ∙ steps_end c.args.callers c.loop-asked.asked.items _ (left_in c.loop-asked.lines) many _ read
