-- Each pin that is passed stands in the list, and so does each fresh one.
use Rattle.std.proofs.Common.{◌-◌, Contains, length, get_or, arith}
use Rattle.std.proofs.lemmas.List.Elements.{All-take, All-drop, Contains-get_or}
use Rattle.cts_topo.specs.declared.pin.Pin.{Pin}
use Rattle.cts_topo.proofs.Fresh.{passed_same, passed_more}
use Rattle.cts_topo.proofs.overlap.Overlap.between.Goals as goal
use Rattle.cts_topo.proofs.overlap.Overlap.between.Goals.{then-next-pins+then-pins-next, then-stayed, else-stayed+in_ok-push, else-next-pins}

pub loop-old-preserved : goal.loop-old-preserved
loop-old-preserved c =
    elim c.if-next-pins.branch [
      | then-next-pins+then-pins-next w ↦
          elim w.if-stayed.branch [
            | then-stayed v ↦
                passed_same _ _ _ _ _ c.loop-old.invariant (cc (w.fresh-is, v.fresh-is)) (omega (arith, w.next-is))
                (omega (arith, w.next-is, w.if-next-pins.true))
            | else-stayed+in_ok-push v ↦
                let pin : Pin = get_or c.args.pins.now c.loop-old.next (record { x = 0; y = 0; id = 0; sink = 0 }) in
                passed_more _ _ _ pin _ _ c.loop-old.invariant (Contains-get_or c.args.pins.now c.loop-old.next _ w.if-next-pins.true)
                (cc (w.fresh-is, v.fresh-is, v.in_ok-push.ensures.items)) w.next-is (omega (arith, w.next-is, w.if-next-pins.true))
          ]
      | else-next-pins w ↦
          passed_same _ _ _ _ _ c.loop-old.invariant (cc (w.fresh-is)) (omega (arith, w.next-is))
          (omega (arith, w.next-is, c.loop-old.invariant.within))
    ]

pub loop-pin-preserved : goal.loop-pin-preserved
loop-pin-preserved c =
    let rest = All-take (Contains c.args.pins.now) (length c.args.pins.now - c.loop-old.next) _
    (All-drop (Contains c.args.pins.now) c.loop-old.next c.args.pins.now (λ k d within. Contains-get_or c.args.pins.now k d within)) in
    passed_more _ _ _ _ _ _ c.loop-pin.invariant
    (rest c.loop-pin.pin-index _ (omega (arith, c.loop-pin-test.true, c.loop-pin.auto.pin-index-end)))
    c.in_ok-push-3.ensures.items (omega arith) (omega (arith, c.loop-pin-test.true, c.loop-pin.auto.pin-index-end))
