use Rattle.std.proofs.Common.{map, ap, ◌∙◌, arith}
use Rattle.std.specs.List.{range_with_len}
use Rattle.cts_script.specs.Generator.{made_sink, made_sinks, state_after}
use Rattle.cts_script.proofs.Draws.{sinks_more}
use Rattle.cts_script.proofs.make.make_sinks.Goals as goal

pub loop-number-init : goal.loop-number-init
unfolding state_after
loop-number-init c = (c.from_seed-generator.ensures, c.in_ok-sinks.ensures.items)

pub loop-number-preserved : goal.loop-number-preserved
loop-number-preserved c =
    let before = c.loop-number.invariant in (
      c.make_sink.ensures.state c.args.seed before.0,
      sinks_more c.args.seed c.loop-number.number _ _ _ c.in_ok-push.ensures.items before.1 (c.make_sink.ensures.sink c.args.seed before.0),
    )

pub returns : goal.returns
unfolding made_sinks
returns c =
    c.loop-number.invariant.1
    ∙ ap (λ n. map (made_sink c.args.seed) (range_with_len 0 n)) (omega (arith, c.loop-number-test.false, c.loop-number.auto.number-end))
