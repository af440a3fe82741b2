use Rattle.std.proofs.Common.{◌+◌, length, sym, ap, ◌∙◌, arith}
use Rattle.std.proofs.lemmas.List.FromFn.{length-map-range_with_len, map-range_with_len_more}
use Rattle.cts_script.specs.Scripts.{steps_of}
use Rattle.cts_script.proofs.read.scripts_of.Goals as goal

pub loop-before-preserved : goal.loop-before-preserved
loop-before-preserved c =
    rw (c.in_ok-push.ensures.items, c.loop-before.invariant, c.in_ok-script.ensures)
    (sym (map-range_with_len_more (λ caller. steps_of caller c.args.asked.now) 1 c.loop-before.before (c.loop-before.before + 1) (omega arith)))

pub returns-clause-many : goal.returns-clause-many
returns-clause-many c =
    ap length c.loop-before.invariant
    ∙ length-map-range_with_len (λ caller. steps_of caller c.args.asked.now) 1 c.loop-before.before
    ∙ omega (arith, c.loop-before-test.false, c.loop-before.auto.before-end)
