use Rattle.std.proofs.Common.{None, sym, subst}
use Rattle.std.proofs.lemmas.Result.{IfOk-weaker}
use Rattle.cts_turn.specs.Passes.{seen_by}
use Rattle.cts_memo.specs.Passes.{params_of}
use Rattle.cts_topo.specs.declared.shape.ShapeNode.TheVariants.{Pair}
use Rattle.cts_up.specs.Plan.{IsFinished}
use Rattle.cts_memo.proofs.Numbering.{part_missing}
use Rattle.cts_work.specs.Numbered.{HasNumber}
use Rattle.cts_work.proofs.Builts.{sound_for}
use Rattle.cts_work.proofs.Numbered.{made_of_two, names_two, no_number, number_kept, pair_number_kept}
use Rattle.cts_work.proofs.publishing.bring_pair.Goals as goal

pub bring-requires-clause-key : goal.bring-requires-clause-key
bring-requires-clause-key g c = λ κs within.
    names_two (params_of c.args.work.now.memo.now) (seen_by c.args.pass.now) c.args.work.now.sinks.now _ _ (Pair c.args.at.left c.args.at.right) _ _
    c.requires.left c.requires.right c.in-Some.key (sym c.in-Some.ensures) (sound_for c.args.work.now.memo.now c.args.pass.now c.requires.own)

pub bring-requires-clause-finished : goal.bring-requires-clause-finished
bring-requires-clause-finished g c = λ κs within.
    made_of_two (params_of c.args.work.now.memo.now) (seen_by c.args.pass.now) c.args.work.now.sinks.now _ _ (Pair c.args.at.left c.args.at.right) _ _
    c.requires.left c.requires.right c.in-Some.key (sym c.in-Some.ensures) (sound_for c.args.work.now.memo.now c.args.pass.now c.requires.own)
    c.args.finished.now
    (subst (λ t. IsFinished (params_of c.args.work.now.memo.now) c.args.work.now.sinks.now t c.args.finished.now) c.requires.here c.requires.made)

pub returns-after-left-clause-number : goal.returns-after-left-clause-number
returns-after-left-clause-number g c =
    let sinks = c.args.work.now.sinks.now in
    let pass = c.bring.ensures.pass in
    let a = number_kept (seen_by c.args.pass.now) (seen_by c.bring.new.pass) sinks _ c.args.left.number pass.goes_on pass.own.short c.requires.left in
    let b = number_kept (seen_by c.args.pass.now) (seen_by c.bring.new.pass) sinks _ c.args.right.number pass.goes_on pass.own.short c.requires.right in
    IfOk-weaker c.bring.result _ _
    (λ m kept. subst (λ t. HasNumber (seen_by c.bring.new.pass) sinks t m.number) (sym c.requires.here)
    (pair_number_kept (params_of c.args.work.now.memo.now) (seen_by c.bring.new.pass) sinks _ _ (Pair c.args.at.left c.args.at.right)
    c.args.left.number c.args.right.number a b c.in-Some.key (sym c.in-Some.ensures) c.args.finished.now m.number
    (sound_for c.args.work.now.memo.now c.bring.new.pass pass.own) kept))
    c.bring.ensures.kept

pub returns-in-None-clause-number : goal.returns-in-None-clause-number
returns-in-None-clause-number g c =
    let sinks = c.args.work.now.sinks.now in
    subst (λ t. HasNumber (seen_by c.args.pass.now) sinks t None) (sym c.requires.here)
    (no_number (params_of c.args.work.now.memo.now) (seen_by c.args.pass.now) sinks _ _ (Pair c.args.at.left c.args.at.right)
    c.args.left.number c.args.right.number c.requires.left c.requires.right (part_missing c.args.left.number c.args.right.number (sym c.in-None.ensures)))
