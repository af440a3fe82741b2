use Rattle.std.proofs.Common.{◌∷◌, [], length, inl, inr, subst, sym, ap, ◌∙◌, arith, length-append}
use Rattle.cts_turn.specs.Passes.{start_of}
use Rattle.cts_instance.specs.Validity.{IsValid, with_sinks}
use Rattle.cts_edit.specs.Edits.{after}
use Rattle.cts_design.specs.Passes.{instance_of}
use Rattle.cts_edit.proofs.Validities.{sound_valid}
use Rattle.cts_design.proofs.shared.snapshot.Goals as goal

pub returns-in-Listed-clause-own : goal.returns-in-Listed-clause-own
returns-in-Listed-clause-own g c = c.call.ensures.own

pub returns-in-Listed-clause-share : goal.returns-in-Listed-clause-share
returns-in-Listed-clause-share g c = c.call.ensures.share

pub returns-in-Listed-clause-made : goal.returns-in-Listed-clause-made
returns-in-Listed-clause-made g c =
    let answer = c.in-Listed.ensures.answer in
    elim answer.made [
      | inl same ↦ same.1
      | inr more ↦ absurd (omega (arith, ap length answer.after, ap length more.1, length-append answer.list (more.0 ∷ [])))
    ]

pub returns-in-Listed-clause-goes_on : goal.returns-in-Listed-clause-goes_on
returns-in-Listed-clause-goes_on g c = c.call.ensures.goes_on

pub returns-in-Listed-clause-version : goal.returns-in-Listed-clause-version
returns-in-Listed-clause-version g c =
    let answer = c.in-Listed.ensures.answer in
    answer.allowed.0 ∙ ap length (sym answer.after)

pub returns-in-Listed-clause-sinks : goal.returns-in-Listed-clause-sinks
returns-in-Listed-clause-sinks g c =
    let answer = c.in-Listed.ensures.answer in
    answer.allowed.1 ∙ ap (after (instance_of c.args.design.now).sinks) (sym answer.after)

pub returns-in-Listed-clause-valid : goal.returns-in-Listed-clause-valid
returns-in-Listed-clause-valid g c =
    let answer = c.in-Listed.ensures.answer in
    let base = instance_of c.args.design.now in
    subst (λ sinks. IsValid (with_sinks base sinks)) (sym answer.allowed.1)
    (sound_valid base answer.list (start_of c.args.design.now).journal.valid answer.sound)

pub returns-in-NoMemory-clause-own : goal.returns-in-NoMemory-clause-own
returns-in-NoMemory-clause-own g c = c.call.ensures.own

pub returns-in-NoMemory-clause-share : goal.returns-in-NoMemory-clause-share
returns-in-NoMemory-clause-share g c = c.call.ensures.share

pub returns-in-NoMemory-clause-made : goal.returns-in-NoMemory-clause-made
returns-in-NoMemory-clause-made g c =
    let answer = c.in-NoMemory.ensures.answer in
    elim answer.made [
      | inl same ↦ same.1
      | inr more ↦ absurd (omega (arith, ap length answer.after, ap length more.1, length-append answer.list (more.0 ∷ [])))
    ]

pub returns-in-NoMemory-clause-goes_on : goal.returns-in-NoMemory-clause-goes_on
returns-in-NoMemory-clause-goes_on g c = c.call.ensures.goes_on
