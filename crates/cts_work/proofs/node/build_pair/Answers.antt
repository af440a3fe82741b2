use Rattle.std.proofs.Common.{None, sym, subst, refl}
use Rattle.cts_turn.specs.Passes.{seen_by}
use Rattle.cts_memo.specs.Passes.{params_of}
use Rattle.cts_topo.specs.declared.shape.ShapeNode.TheVariants.{Pair}
use Rattle.cts_up.specs.Plan.{IsBeyondPair}
use Rattle.cts_memo.proofs.Numbering.{part_missing}
use Rattle.cts_work.specs.Built.{IsBuilt}
use Rattle.cts_work.proofs.Builts.{sound_for, params_within, mergeable, pair_beyond, unnumbered, unnumbered_pair}
use Rattle.cts_work.proofs.Misses.{one_merge}
use Rattle.cts_work.proofs.Nodes.{stands_still}
use Rattle.cts_work.proofs.node.build_pair.Goals as goal

pub merge_sides-requires-clause-a : goal.merge_sides-requires-clause-a
merge_sides-requires-clause-a g c =
    mergeable (params_of c.args.work.now.memo.now) c.args.work.now.sinks.now (seen_by c.args.pass.now) _ c.args.a.now (params_within c.args.work.now.memo.now)
    c.requires.ready.sinks c.requires.a

pub merge_sides-requires-clause-b : goal.merge_sides-requires-clause-b
merge_sides-requires-clause-b g c =
    mergeable (params_of c.args.work.now.memo.now) c.args.work.now.sinks.now (seen_by c.args.pass.now) _ c.args.b.now (params_within c.args.work.now.memo.now)
    c.requires.ready.sinks c.requires.b

pub returns-in-Ok-clause-built : goal.returns-in-Ok-clause-built
returns-in-Ok-clause-built g c =
    subst (λ t. IsBuilt (params_of c.args.work.now.memo.now) c.args.work.now.sinks.now (seen_by c.args.pass.now) t (record { key = None; number = None; finished = c.in-Ok.finished }))
    (sym c.requires.here)
    (unnumbered_pair (params_of c.args.work.now.memo.now) c.args.work.now.sinks.now (seen_by c.args.pass.now) (sound_for c.args.work.now.memo.now c.args.pass.now c.requires.own)
    _ _ (Pair c.args.at.left c.args.at.right) c.args.a.now c.args.b.now c.requires.a c.requires.b c.in-Ok.finished (part_missing c.args.a.now.number c.args.b.now.number (sym c.in-None.ensures))
    c.in-Ok.ensures.merged)

pub returns-in-Ok-clause-merges : goal.returns-in-Ok-clause-merges
returns-in-Ok-clause-merges g c =
    one_merge (seen_by c.args.pass.now) c.args.work.now.sinks.now _ _ (Pair c.args.at.left c.args.at.right) _ c.args.steps.now c.merge_sides.new.steps
    c.requires.here
    (unnumbered (params_of c.args.work.now.memo.now) c.args.work.now.sinks.now (seen_by c.args.pass.now) (sound_for c.args.work.now.memo.now c.args.pass.now c.requires.own)
    _ _ (Pair c.args.at.left c.args.at.right) c.args.a.now c.args.b.now c.requires.a c.requires.b (part_missing c.args.a.now.number c.args.b.now.number (sym c.in-None.ensures)))
    c.merge_sides.ensures.tick

pub returns-in-Err-clause-ends : goal.returns-in-Err-clause-ends
returns-in-Err-clause-ends g c = (
  refl,
  subst (IsBeyondPair (params_of c.args.work.now.memo.now) c.args.work.now.sinks.now) (sym c.requires.here)
      (pair_beyond (params_of c.args.work.now.memo.now) c.args.work.now.sinks.now (seen_by c.args.pass.now) (sound_for c.args.work.now.memo.now c.args.pass.now c.requires.own)
      _ _ (Pair c.args.at.left c.args.at.right) c.args.a.now c.args.b.now c.requires.a c.requires.b c.in-Err.ensures.beyond),
)

pub returns-in-Err-clause-merges : goal.returns-in-Err-clause-merges
returns-in-Err-clause-merges g c =
    one_merge (seen_by c.args.pass.now) c.args.work.now.sinks.now _ _ (Pair c.args.at.left c.args.at.right) _ c.args.steps.now c.merge_sides.new.steps
    c.requires.here
    (unnumbered (params_of c.args.work.now.memo.now) c.args.work.now.sinks.now (seen_by c.args.pass.now) (sound_for c.args.work.now.memo.now c.args.pass.now c.requires.own)
    _ _ (Pair c.args.at.left c.args.at.right) c.args.a.now c.args.b.now c.requires.a c.requires.b (part_missing c.args.a.now.number c.args.b.now.number (sym c.in-None.ensures)))
    c.merge_sides.ensures.tick

pub returns-in-Ok-clause-pass : goal.returns-in-Ok-clause-pass
returns-in-Ok-clause-pass g c = stands_still c.args.work.now.memo.now c.args.pass.now c.requires.own

pub returns-in-Err-clause-pass : goal.returns-in-Err-clause-pass
returns-in-Err-clause-pass g c = stands_still c.args.work.now.memo.now c.args.pass.now c.requires.own
