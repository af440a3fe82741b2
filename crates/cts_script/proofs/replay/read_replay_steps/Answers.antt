use Rattle.std.proofs.Common.{◌≡◌, length, sym, ◌∙◌, arith, length-append}
use Rattle.std.proofs.lemmas.List.Elements.{All-push}
use Rattle.std.proofs.lemmas.Result.{err_from_is_err_and}
use Rattle.cts_read.specs.Grammar.{left_in}
use Rattle.cts_script.specs.declared.replay.ReplayStep.{ReplayStep}
use Rattle.cts_script.specs.Replays.{IsReplayed}
use Rattle.cts_script.proofs.ReplayLists.{fewer_lines, steps_end, steps_more, steps_refused}
use Rattle.cts_script.proofs.replay.read_replay_steps.Goals as goal

pub returns-in_err-step-clause-read : goal.returns-in_err-step-clause-read
returns-in_err-step-clause-read c =
    let many : c.len.result ≡ length c.loop-steps.steps.items = omega arith in
    let p = err_from_is_err_and c.from_residual.result c.from_residual.ensures.1 in
    rw (p.1, p.2)
    (rw (← c.loop-steps.invariant.so_far)
    (steps_refused c.loop-steps.steps.items _ (left_in c.loop-steps.lines) many _ c.in_err-step.ensures.read))

pub loop-steps-smaller : goal.loop-steps-smaller
loop-steps-smaller c = fewer_lines _ (left_in c.loop-steps.lines) _ (left_in c.read_replay_step.new.lines) c.in_ok-step.ensures.read

pub loop-steps-preserved : goal.loop-steps-preserved
loop-steps-preserved c =
    let many : c.len.result ≡ length c.loop-steps.steps.items = omega arith in
    let read = rw c.in-Some.is at c.in_ok-step.ensures.read in
    let within = rw c.in-Some.is at c.in_ok-step.ensures.within in
    let room = rw c.in-Some.is at c.in_ok-step.ensures.room in
    record {
      so_far = rw c.in_ok-push.ensures.items
          (sym (steps_more c.loop-steps.steps.items _ (left_in c.loop-steps.lines) many c.in-Some.step _ read)
          ∙ c.loop-steps.invariant.so_far);
      few = rw (c.in_ok-push.ensures.items, length-append) (omega (arith, room, many));
      within = rw c.in_ok-push.ensures.items
          (All-push (λ (s : ReplayStep). IsReplayed s.act) c.loop-steps.steps.items c.in-Some.step c.loop-steps.invariant.within within);
    }

pub returns-clause-read : goal.returns-clause-read
returns-clause-read c =
    let many : c.len.result ≡ length c.loop-steps.steps.items = omega arith in
    let read = rw c.in_default.is at c.in_ok-step.ensures.read in
    sym c.loop-steps.invariant.so_far
    ∙ steps_end c.loop-steps.steps.items _ (left_in c.loop-steps.lines) many _ read
