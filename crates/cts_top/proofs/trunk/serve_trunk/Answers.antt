use Rattle.std.proofs.Common.{refl}
use Rattle.std.proofs.lemmas.Result.{err_from_is_err_and}
use Rattle.cts_instance.specs.declared.parts.Parts.{Parts}
use Rattle.cts_top.specs.declared.stop.Stop.TheVariants as stop
use Rattle.cts_top.specs.declared.words.Form.TheVariants.{Trunk}
use Rattle.cts_top.specs.Log.{no_log}
use Rattle.cts_top.proofs.Serving.{answers_no_words, not_stopped, stops}
use Rattle.cts_top.proofs.Trunks.{serves_trunk}
use Rattle.cts_top.proofs.trunk.serve_trunk.Goals as goal

pub returns-in_err-instance-clause-serves : goal.returns-in_err-instance-clause-serves
returns-in_err-instance-clause-serves g c =
    let p = err_from_is_err_and c.from_residual.result c.from_residual.ensures.1 in
    rw (p.1, p.2)
    (stops no_log (Trunk c.args.step c.args.buffer) _ _ Parts c.in_err-instance.field-0.0 tt tt c.in_err-instance.ensures.explained
    (λ e. absurd (c.in_err-instance.ensures.many e))
    c.in_err-instance.ensures.read_fault c.in_err-instance.ensures.write_fault c.in_err-instance.ensures.counted refl)

pub returns-in_err-instance-clause-words : goal.returns-in_err-instance-clause-words
returns-in_err-instance-clause-words g c =
    let p = err_from_is_err_and c.from_residual.result c.from_residual.ensures.1 in
    rw (p.1, p.2) (not_stopped Parts c.in_err-instance.field-0.0 stop.Words c.in_err-instance.ensures.words)

pub returns-clause-serves : goal.returns-clause-serves
returns-clause-serves g c =
    serves_trunk _ _ c.answer_trunk.result c.args.step c.args.buffer c.in_ok-instance.instance c.in_ok-instance.ensures.end
    c.in_ok-instance.ensures.spells c.in_ok-instance.ensures.counted c.answer_trunk.ensures

pub returns-clause-words : goal.returns-clause-words
returns-clause-words g c = answers_no_words c.answer_trunk.result c.answer_trunk.ensures
