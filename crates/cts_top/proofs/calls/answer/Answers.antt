use Rattle.std.proofs.Common.{◌≡◌, ◌↔◌, Some, None, refl, subst}
use Rattle.cts_top.specs.declared.words.Form.{Form}
use Rattle.cts_top.specs.Words.{IsForm}
use Rattle.cts_top.proofs.Forms.{asked_within}
use Rattle.cts_top.proofs.Remembering.{has_log}
use Rattle.cts_top.proofs.Running.{answers_form, answers_none}
use Rattle.cts_top.proofs.calls.answer.Goals as goal

pub serve-requires-clause-within : goal.serve-requires-clause-within
serve-requires-clause-within g c = λ κs ls. asked_within _ c.in-Some.form ((c.form_of.ensures c.in-Some.form).0 c.in-Some.is)

pub returns-in-Some-clause-answers : goal.returns-in-Some-clause-answers
returns-in-Some-clause-answers g c =
    answers_form (IsForm c.args.words.now) _ _ _ c.in-Some.form c.serve.result.0
    (subst (λ r. (form : Form) → (r ≡ Some form) ↔ IsForm c.args.words.now form) c.in-Some.is c.form_of.ensures)
    c.serve.ensures.serves c.serve.ensures.words

pub returns-in-None-clause-answers : goal.returns-in-None-clause-answers
returns-in-None-clause-answers g c =
    answers_none (IsForm c.args.words.now) _ _ _ _ refl refl refl
    (λ form asks. let e : None ≡ Some form = subst (λ r. r ≡ Some form) c.in-None.is ((c.form_of.ensures form).1 asks) in cc)

pub returns-in-Some-clause-log : goal.returns-in-Some-clause-log
returns-in-Some-clause-log g c =
    has_log (IsForm c.args.words.now) c.in-Some.form _ _ ((c.form_of.ensures c.in-Some.form).0 c.in-Some.is) c.serve.ensures.log
