use Rattle.std.proofs.Common.{◌≡◌, ◌≢◌, arith, refl, ap, sym, ◌∙◌}
use Rattle.cts_turn.proofs.Keeps.{closes}
use Rattle.cts_turn.proofs.turn.Turn.close.Goals as goal

pub unreachable-requires : goal.unreachable-requires
unreachable-requires g c =
    let share = c.requires.own.share ∙ c.if-pass-ne-PARTS.false in
    let ends = closes g.O.Object.told g.O.Object.base _ _ _ _ _ share c.requires.own.waits c.requires.own.in_turn c.close_with-closed.ensures.values.2 in
    cc (ends.1.1, c.take-slot.ensures.value)

pub returns-clause-object : goal.returns-clause-object
returns-clause-object g c =
    let share = c.requires.own.share ∙ c.if-pass-ne-PARTS.false in
    let ends = closes g.O.Object.told g.O.Object.base _ _ _ _ _ share c.requires.own.waits c.requires.own.in_turn c.close_with-closed.ensures.values.2 in
    let same : ends.1.0 ≡ c.in-Some.object = cc (ends.1.1, c.take-slot.ensures.value, c.in-Some.is) in
    (ap g.O.Object.told (sym same) ∙ ends.1.2, ap g.O.Object.base (sym same) ∙ ends.1.3)

pub returns-clause-made : goal.returns-clause-made
returns-clause-made g c =
    let share = c.requires.own.share ∙ c.if-pass-ne-PARTS.false in
    let ends = closes g.O.Object.told g.O.Object.base _ _ _ _ _ share c.requires.own.waits c.requires.own.in_turn c.close_with-closed.ensures.values.2 in
    let counts = ends.2 in
    (c.requires.own.starts, omega arith)

pub returns-clause-whole : goal.returns-clause-whole
returns-clause-whole g c = c.if-pass-ne-PARTS.false

pub returns-then-pass-ne-PARTS-clause-out : goal.returns-then-pass-ne-PARTS-clause-out
returns-then-pass-ne-PARTS-clause-out g c =
    let most = c.requires.own.most in
    let other : c.args.pass.share ≢ 65536 = c.if-pass-ne-PARTS.true in
    (omega arith, omega arith)

pub returns-then-pass-ne-PARTS-clause-back : goal.returns-then-pass-ne-PARTS-clause-back
returns-then-pass-ne-PARTS-clause-back g c = (refl, refl)
