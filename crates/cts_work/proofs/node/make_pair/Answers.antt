use Rattle.std.proofs.Common.{Some, sym, subst, refl, ◌∙◌}
use Rattle.cts_turn.specs.Passes.{seen_by}
use Rattle.cts_memo.specs.Passes.{params_of}
use Rattle.cts_topo.specs.declared.shape.ShapeNode.TheVariants.{Pair}
use Rattle.cts_up.specs.Plan.{IsBeyondPair}
use Rattle.cts_memo.proofs.Positions.{absent_position}
use Rattle.cts_work.specs.Built.{IsBuilt}
use Rattle.cts_work.proofs.Builts.{sound_for, params_within, mergeable, built_stays, names_entries, made_of, kept_pair, number_is, pair_beyond}
use Rattle.cts_work.proofs.Misses.{one_merge}
use Rattle.cts_work.proofs.Nodes.{stands_still}
use Rattle.cts_work.proofs.node.make_pair.Goals as goal

pub merge_sides-requires-clause-a : goal.merge_sides-requires-clause-a
merge_sides-requires-clause-a g c =
    mergeable (params_of c.args.work.now.memo.now) c.args.work.now.sinks.now (seen_by c.args.pass.now) _ c.args.a.now (params_within c.args.work.now.memo.now)
    c.requires.ready.sinks c.requires.a

pub merge_sides-requires-clause-b : goal.merge_sides-requires-clause-b
merge_sides-requires-clause-b g c =
    mergeable (params_of c.args.work.now.memo.now) c.args.work.now.sinks.now (seen_by c.args.pass.now) _ c.args.b.now (params_within c.args.work.now.memo.now)
    c.requires.ready.sinks c.requires.b

pub publish-requires-clause-key : goal.publish-requires-clause-key
publish-requires-clause-key g c = λ κs within.
    names_entries (params_of c.args.work.now.memo.now) c.args.work.now.sinks.now (seen_by c.args.pass.now) (sound_for c.args.work.now.memo.now c.args.pass.now c.requires.own)
    _ _ (Pair c.args.at.left c.args.at.right) c.args.a.now c.args.b.now c.requires.a c.requires.b c.args.key c.requires.key

pub publish-requires-clause-finished : goal.publish-requires-clause-finished
publish-requires-clause-finished g c = λ κs within.
    made_of (params_of c.args.work.now.memo.now) c.args.work.now.sinks.now (seen_by c.args.pass.now) (sound_for c.args.work.now.memo.now c.args.pass.now c.requires.own)
    _ _ (Pair c.args.at.left c.args.at.right) c.args.a.now c.args.b.now c.requires.a c.requires.b c.args.key c.requires.key
    c.in-Ok.finished c.in-Ok.ensures.merged

pub returns-in_err-number-in-Ok-clause-merges : goal.returns-in_err-number-in-Ok-clause-merges
returns-in_err-number-in-Ok-clause-merges g c =
    one_merge (seen_by c.args.pass.now) c.args.work.now.sinks.now _ _ (Pair c.args.at.left c.args.at.right) _ c.args.steps.now c.merge_sides.new.steps
    c.requires.here
    (number_is (params_of c.args.work.now.memo.now) c.args.work.now.sinks.now (seen_by c.args.pass.now) (sound_for c.args.work.now.memo.now c.args.pass.now c.requires.own)
    _ _ (Pair c.args.at.left c.args.at.right) c.args.a.now c.args.b.now c.requires.a c.requires.b c.args.key c.requires.key
    ∙ absent_position (seen_by c.args.pass.now) c.args.key c.requires.absent)
    c.merge_sides.ensures.tick

pub returns-in_ok-number-in-Ok-clause-built : goal.returns-in_ok-number-in-Ok-clause-built
returns-in_ok-number-in-Ok-clause-built g c =
    let params = params_of c.args.work.now.memo.now in
    let sinks = c.args.work.now.sinks.now in
    let pass = c.publish.ensures.pass in
    let a = built_stays params sinks (seen_by c.args.pass.now) (seen_by c.publish.new.pass) _ c.args.a.now pass.goes_on pass.own.short c.requires.a in
    let b = built_stays params sinks (seen_by c.args.pass.now) (seen_by c.publish.new.pass) _ c.args.b.now pass.goes_on pass.own.short c.requires.b in
    subst (λ t. IsBuilt params sinks (seen_by c.publish.new.pass) t (record { key = Some c.args.key; number = c.in_ok-number-in-Ok.number; finished = c.in-Ok.finished }))
    (sym c.requires.here)
    (kept_pair params sinks (seen_by c.publish.new.pass) (sound_for c.args.work.now.memo.now c.publish.new.pass pass.own)
    _ _ (Pair c.args.at.left c.args.at.right) c.args.a.now c.args.b.now a b c.args.key c.requires.key
    c.in-Ok.finished c.in_ok-number-in-Ok.number c.in-Ok.ensures.merged c.in_ok-number-in-Ok.ensures.kept)

pub returns-in_ok-number-in-Ok-clause-merges : goal.returns-in_ok-number-in-Ok-clause-merges
returns-in_ok-number-in-Ok-clause-merges g c =
    one_merge (seen_by c.args.pass.now) c.args.work.now.sinks.now _ _ (Pair c.args.at.left c.args.at.right) _ c.args.steps.now c.merge_sides.new.steps
    c.requires.here
    (number_is (params_of c.args.work.now.memo.now) c.args.work.now.sinks.now (seen_by c.args.pass.now) (sound_for c.args.work.now.memo.now c.args.pass.now c.requires.own)
    _ _ (Pair c.args.at.left c.args.at.right) c.args.a.now c.args.b.now c.requires.a c.requires.b c.args.key c.requires.key
    ∙ absent_position (seen_by c.args.pass.now) c.args.key c.requires.absent)
    c.merge_sides.ensures.tick

pub returns-in-Err-clause-ends : goal.returns-in-Err-clause-ends
returns-in-Err-clause-ends g c = (
  refl,
  subst (IsBeyondPair (params_of c.args.work.now.memo.now) c.args.work.now.sinks.now) (sym c.requires.here)
      (pair_beyond (params_of c.args.work.now.memo.now) c.args.work.now.sinks.now (seen_by c.args.pass.now) (sound_for c.args.work.now.memo.now c.args.pass.now c.requires.own)
      _ _ (Pair c.args.at.left c.args.at.right) c.args.a.now c.args.b.now c.requires.a c.requires.b c.in-Err.ensures.beyond),
)

pub returns-in-Err-clause-merges : goal.returns-in-Err-clause-merges
returns-in-Err-clause-merges g c =
    one_merge (seen_by c.args.pass.now) c.args.work.now.sinks.now _ _ (Pair c.args.at.left c.args.at.right) _ c.args.steps.now c.merge_sides.new.steps
    c.requires.here
    (number_is (params_of c.args.work.now.memo.now) c.args.work.now.sinks.now (seen_by c.args.pass.now) (sound_for c.args.work.now.memo.now c.args.pass.now c.requires.own)
    _ _ (Pair c.args.at.left c.args.at.right) c.args.a.now c.args.b.now c.requires.a c.requires.b c.args.key c.requires.key
    ∙ absent_position (seen_by c.args.pass.now) c.args.key c.requires.absent)
    c.merge_sides.ensures.tick

pub returns-in-Err-clause-pass : goal.returns-in-Err-clause-pass
returns-in-Err-clause-pass g c = stands_still c.args.work.now.memo.now c.args.pass.now c.requires.own
