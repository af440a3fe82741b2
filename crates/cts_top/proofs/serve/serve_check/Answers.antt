use Rattle.std.proofs.Common.{drop}
use Rattle.cts_top.proofs.Serving.{serves_check}
use Rattle.cts_top.proofs.serve.serve_check.Goals as goal

pub returns-clause-serves : goal.returns-clause-serves
returns-clause-serves g c =
    serves_check _ _ c.answer_verdict.result c.in_ok-instance.instance (drop c.in_ok-instance.used c.in_ok-instance.input.items)
    c.in_ok-instance.ensures.end c.in_ok-instance.ensures.spells c.in_ok-instance.ensures.counted
    c.answer_verdict.ensures
