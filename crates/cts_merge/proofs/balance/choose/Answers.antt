-- A route that is too long, or a stretch of the wire to the side that is faster over its route.
use Rattle.std.proofs.Common.{◌<◌, ◌⊎◌, inl, inr, arith}
use Rattle.std.proofs.lemmas.Bool.{cases_lt}
use Rattle.cts_units.specs.Limits.{max_length}
use Rattle.cts_merge.specs.Balance.{IsBeyondBalance}
use Rattle.cts_merge.proofs.SideDelays.{delay_rises}
use Rattle.cts_merge.proofs.Snakes.{for_error, stretch_first, stretch_second, long_stretch_first, long_stretch_second, long_route}
use Rattle.cts_merge.proofs.balance.choose.Goals as goal

pub returns-then-la-gt-MAX_LENGTH-clause-beyond : goal.returns-then-la-gt-MAX_LENGTH-clause-beyond
returns-then-la-gt-MAX_LENGTH-clause-beyond c =
    let wire = c.args.params.now.wire in
    let long : (max_length < c.args.la) ⊎ (max_length < c.args.lb) =
    elim (cases_lt max_length c.args.la) [ inl first ↦ inl first | inr short ↦ inr (omega (arith, c.then-la-gt-MAX_LENGTH.either)) ] in
    long_route _ _ (delay_rises wire c.args.a.now c.requires.params.wire) (delay_rises wire c.args.b.now c.requires.params.wire)
    c.args.la c.args.lb long

pub returns-in_err-xb-clause-beyond : goal.returns-in_err-xb-clause-beyond
returns-in_err-xb-clause-beyond c =
    let wire = c.args.params.now.wire in
    for_error c.from_residual.result (IsBeyondBalance wire c.args.a.now c.args.la c.args.b.now c.args.lb)
    (long_stretch_first _ _ (delay_rises wire c.args.a.now c.requires.params.wire) (delay_rises wire c.args.b.now c.requires.params.wire)
    c.args.la c.args.lb c.delay_through-delay_a.result c.delay_through-delay_a.ensures.value (omega arith) c.in_err-xb.ensures.beyond)

pub returns-then-delay_b-delay_a-clause-balanced :
    goal.returns-then-delay_b-delay_a-clause-balanced
returns-then-delay_b-delay_a-clause-balanced c =
    let wire = c.args.params.now.wire in
    record {
      least = stretch_first _ _ (delay_rises wire c.args.a.now c.requires.params.wire) (delay_rises wire c.args.b.now c.requires.params.wire)
          c.args.la c.args.lb c.delay_through-delay_a.result _ c.delay_through-delay_a.ensures.value (omega arith) c.in_ok-xb.ensures.stretch;
      xa_within = omega arith;
      xb_within = c.in_ok-xb.ensures.within;
    }

pub returns-in_err-xa-clause-beyond : goal.returns-in_err-xa-clause-beyond
returns-in_err-xa-clause-beyond c =
    let wire = c.args.params.now.wire in
    for_error c.from_residual-in_err-xa.result (IsBeyondBalance wire c.args.a.now c.args.la c.args.b.now c.args.lb)
    (long_stretch_second _ _ (delay_rises wire c.args.a.now c.requires.params.wire) (delay_rises wire c.args.b.now c.requires.params.wire)
    c.args.la c.args.lb c.delay_through-delay_b.result c.delay_through-delay_b.ensures.value (omega arith) c.in_err-xa.ensures.beyond)

pub returns-clause-balanced : goal.returns-clause-balanced
returns-clause-balanced c =
    let wire = c.args.params.now.wire in
    record {
      least = stretch_second _ _ (delay_rises wire c.args.a.now c.requires.params.wire) (delay_rises wire c.args.b.now c.requires.params.wire)
          c.args.la c.args.lb c.delay_through-delay_b.result _ c.delay_through-delay_b.ensures.value (omega arith) c.in_ok-xa.ensures.stretch;
      xa_within = c.in_ok-xa.ensures.within;
      xb_within = omega arith;
    }
