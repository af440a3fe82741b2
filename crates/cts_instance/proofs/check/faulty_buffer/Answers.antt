use Rattle.std.proofs.Common.{rules, ◌∙◌, arith}
use Rattle.cts_instance.proofs.FirstFaultLemmas.{found, passed, ended}
use Rattle.cts_instance.proofs.LineLemmas.{buffer_line-at}
use Rattle.cts_instance.specs.FirstFault.{buffer_line}
use Rattle.cts_instance.proofs.check.faulty_buffer.Goals as goal

pub loop-number-init : goal.loop-number-init
loop-number-init c = search rules

pub returns-in-Some : goal.returns-in-Some
returns-in-Some c =
    found buffer_line _ _ c.loop-number.number _ _ c.loop-number.invariant (omega arith)
    (c.in-Some.ensures ∙ buffer_line-at c.args.buffers.now _ _ (omega arith))

pub loop-number-preserved : goal.loop-number-preserved
loop-number-preserved c =
    passed buffer_line _ _ c.loop-number.number _ c.loop-number.invariant (omega arith)
    (c.in_default.ensures ∙ buffer_line-at c.args.buffers.now _ _ (omega arith))

pub returns : goal.returns
returns c = ended buffer_line _ c.args.buffers.now c.loop-number.number c.loop-number.invariant (omega arith)
