use Rattle.std.proofs.Common.{Some, sym, subst}
use Rattle.cts_turn.specs.Passes.{seen_by}
use Rattle.cts_memo.specs.Passes.{params_of}
use Rattle.cts_topo.specs.declared.shape.ShapeNode.TheVariants.{Pair}
use Rattle.cts_work.specs.Built.{IsBuilt}
use Rattle.cts_work.proofs.Builts.{sound_for, built_stays, names_entries, have_pair}
use Rattle.cts_work.proofs.Misses.{missing_earlier}
use Rattle.cts_work.proofs.Nodes.{goes_further}
use Rattle.cts_work.proofs.node.ask_pair.Goals as goal

pub look_up-requires-clause-key : goal.look_up-requires-clause-key
look_up-requires-clause-key g c =
    names_entries (params_of c.args.work.now.memo.now) c.args.work.now.sinks.now (seen_by c.args.pass.now) (sound_for c.args.work.now.memo.now c.args.pass.now c.requires.own)
    _ _ (Pair c.args.at.left c.args.at.right) c.args.a.now c.args.b.now c.requires.a c.requires.b c.args.key c.requires.key

pub returns-in-Have-clause-built : goal.returns-in-Have-clause-built
returns-in-Have-clause-built g c =
    let params = params_of c.args.work.now.memo.now in
    let sinks = c.args.work.now.sinks.now in
    let pass = c.look_up.ensures.pass in
    let a = built_stays params sinks (seen_by c.args.pass.now) (seen_by c.look_up.new.pass) _ c.args.a.now pass.goes_on pass.own.short c.requires.a in
    let b = built_stays params sinks (seen_by c.args.pass.now) (seen_by c.look_up.new.pass) _ c.args.b.now pass.goes_on pass.own.short c.requires.b in
    subst (λ t. IsBuilt params sinks (seen_by c.look_up.new.pass) t (record { key = Some c.args.key; number = Some c.in-Have.number; finished = c.in-Have.finished }))
    (sym c.requires.here)
    (have_pair params sinks (seen_by c.look_up.new.pass) (sound_for c.args.work.now.memo.now c.look_up.new.pass pass.own)
    _ _ (Pair c.args.at.left c.args.at.right) c.args.a.now c.args.b.now a b c.args.key c.requires.key
    c.in-Have.number c.in-Have.finished c.in-Have.ensures.found)

pub make_pair-requires-clause-a : goal.make_pair-requires-clause-a
make_pair-requires-clause-a g c = λ κs within.
    built_stays (params_of c.args.work.now.memo.now) c.args.work.now.sinks.now (seen_by c.args.pass.now) (seen_by c.look_up.new.pass) _ c.args.a.now
    c.look_up.ensures.pass.goes_on c.look_up.ensures.pass.own.short c.requires.a

pub make_pair-requires-clause-b : goal.make_pair-requires-clause-b
make_pair-requires-clause-b g c = λ κs within.
    built_stays (params_of c.args.work.now.memo.now) c.args.work.now.sinks.now (seen_by c.args.pass.now) (seen_by c.look_up.new.pass) _ c.args.b.now
    c.look_up.ensures.pass.goes_on c.look_up.ensures.pass.own.short c.requires.b

pub returns-in-Absent-clause-merges : goal.returns-in-Absent-clause-merges
returns-in-Absent-clause-merges g c =
    missing_earlier (seen_by c.args.pass.now) (seen_by c.look_up.new.pass) c.args.work.now.sinks.now _ c.args.steps.now c.make_pair.new.steps
    c.look_up.ensures.pass.goes_on c.make_pair.ensures.merges

pub returns-in-Have-clause-pass : goal.returns-in-Have-clause-pass
returns-in-Have-clause-pass g c = c.look_up.ensures.pass

pub returns-in-Absent-clause-pass : goal.returns-in-Absent-clause-pass
returns-in-Absent-clause-pass g c =
    goes_further c.args.work.now.memo.now c.args.pass.now c.look_up.new.pass c.make_pair.new.pass c.look_up.ensures.pass c.make_pair.ensures.pass
