-- Each pin goes to the part of its side, which has just room for all of them.
use Rattle.std.proofs.Common.{◌<◌, not, length, sym, ap, subst, ◌∙◌, arith}
use mir.Val.{bool_byte}
use Rattle.cts_topo.proofs.Pivots.{parts_none, place_before, place_behind, put_before, put_behind}
use Rattle.cts_topo.proofs.divide.split.Goals as goal
use Rattle.cts_topo.proofs.divide.split.Goals.{then-before, else-before}

pub loop-pin-init : goal.loop-pin-init
loop-pin-init c = parts_none _ _ _ _ c.requires.half c.requires.room

pub bounds-target-place : goal.bounds-target-place
bounds-target-place c =
    elim c.if-before.branch [
      | then-before w ↦
          subst (λ k. k < length c.loop-pin.target) (sym w.place-is)
          (place_before _ _ _ _ _ c.loop-pin-test.true _ _ _ c.loop-pin.invariant (sym c.comes_before-before.ensures ∙ w.if-before.true))
      | else-before w ↦
          subst (λ k. k < length c.loop-pin.target) (sym w.place-is)
          (place_behind _ _ _ _ _ c.loop-pin-test.true _ _ _ c.loop-pin.invariant (sym c.comes_before-before.ensures ∙ w.if-before.false))
    ]

pub loop-pin-preserved : goal.loop-pin-preserved
loop-pin-preserved c =
    elim c.if-before.branch [
      | then-before w ↦
          put_before _ _ _ _ _ c.loop-pin-test.true _ _ _ c.loop-pin.invariant (sym c.comes_before-before.ensures ∙ w.if-before.true)
          _ _ _ w.place-is
          (omega (arith, c.from-early.ensures ∙ ap bool_byte w.if-before.true))
          (omega (arith, c.from-late.ensures ∙ ap (λ b. bool_byte (not b)) w.if-before.true))
      | else-before w ↦
          put_behind _ _ _ _ _ c.loop-pin-test.true _ _ _ c.loop-pin.invariant (sym c.comes_before-before.ensures ∙ w.if-before.false)
          _ _ _ w.place-is
          (omega (arith, c.from-early.ensures ∙ ap bool_byte w.if-before.false))
          (omega (arith, c.from-late.ensures ∙ ap (λ b. bool_byte (not b)) w.if-before.false))
    ]
