use Rattle.std.proofs.lemmas.Result.{err_from_is_err_and}
use Rattle.cts_top.specs.Input.{input_of}
use Rattle.cts_top.specs.Reading.{ExplainsBy, ExplainsFew}
use Rattle.cts_top.proofs.Serving.{explains_few, on_left}
use Rattle.cts_top.proofs.serve.read_few.Goals as goal

pub returns-in_err-instance-clause-explained : goal.returns-in_err-instance-clause-explained
returns-in_err-instance-clause-explained g c =
    let p = err_from_is_err_and c.from_residual.result c.from_residual.ensures.1 in
    let end = c.in_err-instance.field-0.0 in
    rw (p.1, p.2)
    (on_left _ (ExplainsBy input_of end) (ExplainsFew end) (explains_few end) c.in_err-instance.ensures.explained)
