use Rattle.std.proofs.Common.{◌%◌, ◌^◌, refl, ap, sym, ◌∙◌, subst, arith}
use Rattle.cts_turn.specs.Steps.{TakesTurn}
use Rattle.cts_turn.proofs.Keeps.{waits}
use Rattle.cts_turn.proofs.turn.Turn.wait.Goals as goal

pub load-serving-requires : goal.load-serving-requires
load-serving-requires g c =
    let same = c.loop.invariant.1 in (
      c.loop.invariant.0 ∙ c.requires.own,
      omega (arith, c.args.self.now.sized.0),
      waits g.O.Object.told g.O.Object.base _ _ _ _ (ap (λ m. m.1) same ∙ c.requires.waits.2)
          (omega (arith, ap (λ m. m.0.waits) same, c.requires.waits.0)) (ap (λ m. m.0.in_turn) same ∙ c.requires.waits.1),
    )

pub loop-init : goal.loop-init
loop-init g c = (refl, refl)

pub loop-preserved-then-ticket-serving-le-NEAR : goal.loop-preserved-then-ticket-serving-le-NEAR
loop-preserved-then-ticket-serving-le-NEAR g c = (
  c.load-serving.ensures.0 ∙ c.loop.invariant.0,
  c.load-serving.ensures.2.1 (λ e. c.if-serving-ticket.false (e ∙ (ap (λ m. m.0.ticket % 2 ^ 64) c.loop.invariant.1 ∙ sym c.requires.ticket))) ∙ c.loop.invariant.1,
)

pub loop-preserved : goal.loop-preserved
loop-preserved g c = (
  c.sleep.ensures.own ∙ (c.load-serving.ensures.0 ∙ c.loop.invariant.0),
  c.sleep.ensures.same
      ∙ (c.load-serving.ensures.2.1 (λ e. c.if-serving-ticket.false (e ∙ (ap (λ m. m.0.ticket % 2 ^ 64) c.loop.invariant.1 ∙ sym c.requires.ticket))) ∙ c.loop.invariant.1),
)

pub returns-then-serving-ticket-clause-own : goal.returns-then-serving-ticket-clause-own
returns-then-serving-ticket-clause-own g c = c.load-serving.ensures.0 ∙ c.loop.invariant.0

pub returns-then-serving-ticket-clause-turn : goal.returns-then-serving-ticket-clause-turn
returns-then-serving-ticket-clause-turn g c =
    let same = c.loop.invariant.1 in
    let found = (c.if-serving-ticket.true ∙ c.requires.ticket) ∙ ap (λ m. m.0.ticket % 2 ^ 64) (sym same) in
    subst (λ m. TakesTurn g.O.Object.told g.O.Object.base m c.load-serving.new.seat.me) same (c.load-serving.ensures.2.0 found)
