-- No two rules have one place in the order.
use Rattle.std.proofs.Common.{◌≡◌, refl, arith}
use Rattle.cts_check.specs.declared.verdict.Rule.{Rule}
use Rattle.cts_check.specs.declared.verdict.Rule.TheVariants.{Sinks, Route, Short, BufferBlocked, Limit, Figure}
use Rattle.cts_check.specs.Rules.{rank}

pub same_rank : (r s : Rule) → rank r ≡ rank s → r ≡ s
same_rank Sinks Sinks e = refl
same_rank Sinks Route e = absurd (omega (arith, e))
same_rank Sinks Short e = absurd (omega (arith, e))
same_rank Sinks BufferBlocked e = absurd (omega (arith, e))
same_rank Sinks Limit e = absurd (omega (arith, e))
same_rank Sinks Figure e = absurd (omega (arith, e))
same_rank Route Sinks e = absurd (omega (arith, e))
same_rank Route Route e = refl
same_rank Route Short e = absurd (omega (arith, e))
same_rank Route BufferBlocked e = absurd (omega (arith, e))
same_rank Route Limit e = absurd (omega (arith, e))
same_rank Route Figure e = absurd (omega (arith, e))
same_rank Short Sinks e = absurd (omega (arith, e))
same_rank Short Route e = absurd (omega (arith, e))
same_rank Short Short e = refl
same_rank Short BufferBlocked e = absurd (omega (arith, e))
same_rank Short Limit e = absurd (omega (arith, e))
same_rank Short Figure e = absurd (omega (arith, e))
same_rank BufferBlocked Sinks e = absurd (omega (arith, e))
same_rank BufferBlocked Route e = absurd (omega (arith, e))
same_rank BufferBlocked Short e = absurd (omega (arith, e))
same_rank BufferBlocked BufferBlocked e = refl
same_rank BufferBlocked Limit e = absurd (omega (arith, e))
same_rank BufferBlocked Figure e = absurd (omega (arith, e))
same_rank Limit Sinks e = absurd (omega (arith, e))
same_rank Limit Route e = absurd (omega (arith, e))
same_rank Limit Short e = absurd (omega (arith, e))
same_rank Limit BufferBlocked e = absurd (omega (arith, e))
same_rank Limit Limit e = refl
same_rank Limit Figure e = absurd (omega (arith, e))
same_rank Figure Sinks e = absurd (omega (arith, e))
same_rank Figure Route e = absurd (omega (arith, e))
same_rank Figure Short e = absurd (omega (arith, e))
same_rank Figure BufferBlocked e = absurd (omega (arith, e))
same_rank Figure Limit e = absurd (omega (arith, e))
same_rank Figure Figure e = refl
