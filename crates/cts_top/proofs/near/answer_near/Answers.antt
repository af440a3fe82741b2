use Rattle.std.proofs.Common.{subst}
use Rattle.cts_report.specs.Report.{report_text}
use Rattle.cts_near.specs.TreeEnds.{NearEnds}
use Rattle.cts_near.specs.Synthesis.{IsSynthesisNear}
use Rattle.cts_top.specs.declared.stop.Answer.TheVariants as answer
use Rattle.cts_top.specs.Near.{TellsNear, no_step_text}
use Rattle.cts_top.specs.Synthesised.{nearest}
use Rattle.cts_top.specs.Text.{TellsComing}
use Rattle.cts_top.proofs.NearTold.{answers_wider, near_told, step_told}
use Rattle.cts_top.proofs.Synthesising.{ended_by, near_made}
use Rattle.cts_top.proofs.Writing.{answers_by}
use Rattle.cts_top.proofs.near.answer_near.Goals as goal

pub answer_synthesis-requires : goal.answer_synthesis-requires
answer_synthesis-requires g c =
    let i = c.args.instance.now in
    let made =
    near_made i c.instance_is_valid.ensures c.in-Ok.tree c.in-Ok.figures c.in-Ok.ensures.tree c.in-Ok.ensures.figures
    c.in-Ok.ensures.sound c.in-Ok.ensures.one_each c.in-Ok.ensures.in_range c.in-Ok.ensures.in_die in
    made.printable

pub returns-in-Ok : goal.returns-in-Ok
returns-in-Ok g c =
    let i = c.args.instance.now in
    let made =
    near_made i c.instance_is_valid.ensures c.in-Ok.tree c.in-Ok.figures c.in-Ok.ensures.tree c.in-Ok.ensures.figures
    c.in-Ok.ensures.sound c.in-Ok.ensures.one_each c.in-Ok.ensures.in_range c.in-Ok.ensures.in_die in
    answers_wider (TellsComing (IsSynthesisNear i) report_text i) (TellsNear i) (near_told i) c.answer_synthesis.result
    (c.answer_synthesis.ensures.answers nearest made)

pub returns-in-Err-Over : goal.returns-in-Err-Over
returns-in-Err-Over g c =
    let i = c.args.instance.now in
    let ends = subst (NearEnds i) c.in-Err-Over.field-0-is c.in-Err-Over.ensures.ends in
    answers_wider (TellsComing (IsSynthesisNear i) report_text i) (TellsNear i) (near_told i) c.answer_synthesis-in-Err-Over.result
    (c.answer_synthesis-in-Err-Over.ensures.answers nearest (ended_by (IsSynthesisNear i) i c.in-Err-Over.end ends))

pub returns-in-Err-AtStep : goal.returns-in-Err-AtStep
returns-in-Err-AtStep g c =
    let i = c.args.instance.now in
    let beyond = subst (NearEnds i) c.in-Err-AtStep.field-0-is c.in-Err-AtStep.ensures.ends in
    rw c.ended.ensures
    (answers_by (TellsNear i) _ _ _ _ answer.NoTree (no_step_text c.in-Err-AtStep.step) c.write_no_step.result
    (step_told i c.in-Err-AtStep.step c.instance_is_valid.ensures beyond) c.write_no_step.ensures)
