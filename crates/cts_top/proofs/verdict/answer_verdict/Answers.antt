use Rattle.std.proofs.Common.{drop, refl}
use Rattle.cts_top.specs.Verdict.{TellsVerdict, verdict_text}
use Rattle.cts_top.proofs.Writing.{answers_by}
use Rattle.cts_top.proofs.verdict.answer_verdict.Goals as goal

pub returns : goal.returns
returns g c =
    rw c.ended.ensures
    (answers_by (TellsVerdict c.args.instance.now (drop c.args.from c.args.input.items)) _ _ _ _ c.kind_of.result
    (verdict_text c.in_ok-verdict.verdict) c.write_verdict.result
    (record {
      valid = c.instance_is_valid.ensures;
      verdict = c.in_ok-verdict.verdict;
      is_verdict = c.in_ok-verdict.ensures;
      kind_is = c.kind_of.ensures;
      told = refl;
    })
    c.write_verdict.ensures)
