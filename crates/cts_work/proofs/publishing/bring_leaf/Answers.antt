use Rattle.std.proofs.Common.{subst}
use Rattle.std.proofs.lemmas.Result.{IfOk-weaker}
use Rattle.cts_turn.specs.Passes.{seen_by}
use Rattle.cts_memo.specs.Passes.{params_of}
use Rattle.cts_work.specs.Built.{IsKept}
use Rattle.cts_work.proofs.Numbered.{leaf_names, leaf_of_key}
use Rattle.cts_work.proofs.publishing.bring_leaf.Goals as goal

pub bring-requires-clause-key : goal.bring-requires-clause-key
bring-requires-clause-key g c = λ κs within.
    leaf_names (seen_by c.args.pass.now) c.args.sink.now c.of_leaf-key.result (c.of_leaf-key.ensures c.args.sink.now c.requires.leaf)

pub bring-requires-clause-finished : goal.bring-requires-clause-finished
bring-requires-clause-finished g c = λ κs within.
    leaf_of_key (params_of c.args.memo.now) (seen_by c.args.pass.now) c.args.sink.now c.of_leaf-key.result c.args.finished.now (c.of_leaf-key.ensures c.args.sink.now c.requires.leaf) c.requires.leaf

pub returns-clause-kept : goal.returns-clause-kept
returns-clause-kept g c =
    IfOk-weaker c.bring.result _ _ (λ b kept. subst (λ k. IsKept (seen_by c.bring.new.pass) k c.args.finished.now b.number) (c.of_leaf-key.ensures c.args.sink.now c.requires.leaf) kept)
    c.bring.ensures.kept
