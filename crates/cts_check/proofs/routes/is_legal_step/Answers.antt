use Rattle.cts_check.proofs.LegalSteps.{legal_step, is_clear}
use Rattle.cts_check.proofs.routes.is_legal_step.Goals as goal
use Rattle.cts_check.proofs.routes.is_legal_step.Goals.{then-is_axis_step, else-is_axis_step, then-is_half_in_die, else-is_half_in_die}

pub returns-then-is_half_in_die-2 : goal.returns-then-is_half_in_die-2
returns-then-is_half_in_die-2 c = λ blocks keeps.
    let clear = c.is_clear.ensures blocks keeps in (
      (λ test. elim c.if-is_half_in_die.branch [
        | then-is_half_in_die w ↦ elim c.if-is_axis_step.branch [
          | then-is_axis_step v ↦
              legal_step blocks c.args.die.now c.args.p c.args.q (c.is_axis_step.ensures.0 v.if-is_axis_step.true)
              (v.is_half_in_die.ensures.0 (cc)) (w.is_half_in_die-then-is_half_in_die.ensures.0 (cc)) (clear.0 test)
          | else-is_axis_step v ↦ let a = w.if-is_half_in_die.true in let b = v.value-is in cc
        ]
        | else-is_half_in_die w ↦ let a = c.if-is_half_in_die-2.true in let b = w.value-is in cc
      ]),
      (λ step. clear.1 (is_clear blocks c.args.die.now c.args.p c.args.q step)),
    )
