use Rattle.std.proofs.Common.{sym, ◌∙◌, arith}
use Rattle.cts_report_reader.proofs.Labels.{size_stopped}
use Rattle.cts_report_reader.proofs.words.number_size.Goals as goal

pub returns-else-is_number_byte-clause-longest : goal.returns-else-is_number_byte-clause-longest
returns-else-is_number_byte-clause-longest c =
    let l = c.loop-size in
    size_stopped c.args.bytes.now l.size l.invariant.inside l.invariant.passed (λ _. sym c.is_number_byte.ensures ∙ c.if-is_number_byte.false)

pub returns-after-loop-size-clause-longest : goal.returns-after-loop-size-clause-longest
returns-after-loop-size-clause-longest c =
    let l = c.loop-size in
    size_stopped c.args.bytes.now l.size l.invariant.inside l.invariant.passed (λ lt. absurd (omega (arith, lt)))
