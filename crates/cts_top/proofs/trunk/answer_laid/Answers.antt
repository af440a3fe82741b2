use Rattle.std.proofs.Common.{◌++◌, refl, ap}
use Rattle.std.proofs.lemmas.Result.{err_from_is_err_and}
use Rattle.cts_report.specs.Report.{report_text}
use Rattle.cts_trunk.specs.Lines.{trunk_text}
use Rattle.cts_top.specs.declared.stop.Answer.TheVariants as answer
use Rattle.cts_top.specs.Trunk.{IsExactly}
use Rattle.cts_top.proofs.Editing.{cut_front, then_answered}
use Rattle.cts_top.proofs.Remembering.{tells_ended}
use Rattle.cts_top.proofs.Writing.{answers_by}
use Rattle.cts_top.proofs.trunk.answer_laid.Goals as goal

pub returns-in_err-write_trunk : goal.returns-in_err-write_trunk
returns-in_err-write_trunk g c =
    let p = err_from_is_err_and c.from_residual.result c.from_residual.ensures.1 in
    let front = trunk_text c.args.trunk.now in
    let rest = report_text c.args.instance.now.version c.args.tree.now c.args.figures.now in
    rw (p.1, p.2)
    (cut_front _ _ (IsExactly answer.Text (front ++ rest)) front rest answer.Text (refl, refl) _ _ c.in_err-write_trunk.field-0.0
    c.in_err-write_trunk.ensures)

pub returns : goal.returns
returns g c =
    let front = trunk_text c.args.trunk.now in
    let rest = report_text c.args.instance.now.version c.args.tree.now c.args.figures.now in
    rw c.ended.ensures
    (then_answered _ _ (IsExactly answer.Text rest) (IsExactly answer.Text (front ++ rest)) front
    (λ kind text is. (is.0, ap (λ t. front ++ t) is.1)) _ _ _ c.in_ok-write_trunk.ensures.ok c.in_ok-write_trunk.ensures.counted _
    (tells_ended c.write_report.result answer.Text tt)
    (answers_by (IsExactly answer.Text rest) _ _ _ _ answer.Text rest c.write_report.result (refl, refl) c.write_report.ensures))
