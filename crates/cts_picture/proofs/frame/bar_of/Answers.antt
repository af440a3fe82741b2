use Rattle.std.proofs.Common.{◌≡◌, ℕ, suc, ◌+◌, ◌-◌, ◌<◌, sym, ap, ◌∙◌, arith}
use Rattle.cts_picture.specs.Frame.{lengthened, longer}
use Rattle.cts_picture.proofs.frame.bar_of.Goals as goal

-- one more time
once_more : (times bar side : ℕ) → times < 8
    → lengthened (8 - times) bar side ≡ lengthened (8 - (times + 1)) (longer bar side) side
unfolding lengthened
once_more times bar side h =
    let e : 8 - times ≡ suc (8 - (times + 1)) = omega arith in
    ap (λ n. lengthened n bar side) e

pub loop-times-preserved : goal.loop-times-preserved
loop-times-preserved c = (
  ap (λ bar. lengthened (8 - (c.loop-times._times + 1)) bar c.args.side) c.longer-bar.ensures.same
      ∙ sym (once_more c.loop-times._times c.loop-times.bar c.args.side c.loop-times-test.true)
      ∙ c.loop-times.invariant.0,
  c.longer-bar.ensures.high,
)

pub returns-clause-same : goal.returns-clause-same
unfolding lengthened
returns-clause-same c =
    let e : 0 ≡ 8 - c.loop-times._times = omega (arith, c.loop-times-test.false) in
    ap (λ n. lengthened n c.loop-times.bar c.args.side) e ∙ c.loop-times.invariant.0
