use Rattle.std.proofs.Common.{◌≡◌, List, sym, subst}
use Rattle.std.proofs.lemmas.Result.{IfOk-from_err}
use Rattle.cts_units.specs.declared.params.Sink.{Sink}
use Rattle.cts_units.specs.declared.params.Params.{Params}
use Rattle.cts_merge.specs.declared.side.Finished.{Finished}
use Rattle.cts_merge.specs.Merge.{IsLeaf}
use Rattle.cts_turn.specs.Passes.{seen_by}
use Rattle.cts_memo.specs.declared.key.Key.{Key}
use Rattle.cts_memo.specs.declared.entry.MemoEntry.{MemoEntry}
use Rattle.cts_memo.specs.Keys.{leaf_key}
use Rattle.cts_memo.specs.Passes.{params_of}
use Rattle.cts_memo.specs.Sound.{IsMadeOf, NamesEntries, sink_at}
use Rattle.cts_work.proofs.Builts.{have_leaf, kept_leaf}
use Rattle.cts_work.proofs.Nodes.{goes_further}
use Rattle.cts_work.proofs.node.build_leaf.Goals as goal

leaf_names : (seen : List MemoEntry) (sink : Sink) (key : Key) → key ≡ leaf_key sink → NamesEntries seen key
leaf_names seen sink key is = subst (NamesEntries seen) (sym is) tt

leaf_of_key : (params : Params) (seen : List MemoEntry) (sink : Sink) (key : Key) (f : Finished) → key ≡ leaf_key sink → IsLeaf sink f
    → IsMadeOf params seen key f
leaf_of_key params seen sink key f is leaf =
    let made : IsLeaf (sink_at sink.x sink.y sink.cap sink.offset) f = record {
      greatest = leaf.greatest;
      load = leaf.load;
      region = leaf.region;
      ea = leaf.ea;
      eb = leaf.eb;
      buffer = leaf.buffer;
    } in
    subst (λ k. IsMadeOf params seen k f) (sym is) made

pub look_up-answer-requires-clause-own : goal.look_up-answer-requires-clause-own
look_up-answer-requires-clause-own g c = c.requires.own

pub look_up-answer-requires-clause-key : goal.look_up-answer-requires-clause-key
look_up-answer-requires-clause-key g c = leaf_names (seen_by c.args.pass.now) c.args.sink.now c.of_sink-key.result c.of_sink-key.ensures

pub returns-in-Have-clause-built : goal.returns-in-Have-clause-built
returns-in-Have-clause-built g c =
    have_leaf _ (seen_by c.look_up-answer.new.pass) c.args.sink.now c.of_sink-key.result c.in-Have.number c.in-Have.finished c.of_sink-key.ensures
    c.look_up-answer.ensures.pass.own.sound c.in-Have.ensures.found

pub publish-requires-clause-key : goal.publish-requires-clause-key
publish-requires-clause-key g c κs within = leaf_names (seen_by c.look_up-answer.new.pass) c.args.sink.now c.of_sink-key.result c.of_sink-key.ensures

pub returns-clause-built : goal.returns-clause-built
returns-clause-built g c =
    kept_leaf _ (seen_by c.publish.new.pass) c.args.sink.now c.of_sink-key.result c.leaf-finished.result c.in_ok-number.number
    c.of_sink-key.ensures c.publish.ensures.pass.own.sound c.leaf-finished.ensures.leaf c.in_ok-number.ensures.kept

pub publish-requires-clause-own : goal.publish-requires-clause-own
publish-requires-clause-own g c κs within = c.look_up-answer.ensures.pass.own

pub publish-requires-clause-finished : goal.publish-requires-clause-finished
publish-requires-clause-finished g c κs within =
    leaf_of_key (params_of c.args.memo.now) (seen_by c.look_up-answer.new.pass) c.args.sink.now c.of_sink-key.result c.leaf-finished.result
    c.of_sink-key.ensures c.leaf-finished.ensures.leaf

pub returns-in_err-number-clause-built : goal.returns-in_err-number-clause-built
returns-in_err-number-clause-built g c = IfOk-from_err _ _ (c.from_residual.ensures.0)

pub returns-in-Have-clause-pass : goal.returns-in-Have-clause-pass
returns-in-Have-clause-pass g c = c.look_up-answer.ensures.pass

pub returns-in_err-number-clause-pass : goal.returns-in_err-number-clause-pass
returns-in_err-number-clause-pass g c =
    goes_further c.args.memo.now c.args.pass.now c.look_up-answer.new.pass c.publish.new.pass c.look_up-answer.ensures.pass c.publish.ensures.pass

pub returns-clause-pass : goal.returns-clause-pass
returns-clause-pass g c =
    goes_further c.args.memo.now c.args.pass.now c.look_up-answer.new.pass c.publish.new.pass c.look_up-answer.ensures.pass c.publish.ensures.pass
