use Rattle.std.proofs.Common.{length, sym, subst, arith}
use Rattle.std.proofs.lemmas.Result.{IfOk-weaker}
use Rattle.cts_turn.specs.Passes.{seen_by}
use Rattle.cts_memo.specs.Passes.{params_of}
use Rattle.cts_topo.proofs.Counts.{leaf_within}
use Rattle.cts_work.specs.Numbered.{HasNumber}
use Rattle.cts_work.proofs.Builts.{sound_for}
use Rattle.cts_work.proofs.Nodes.{tip_at, pair_at_number, child_within}
use Rattle.cts_work.proofs.Numbered.{leaf_number}
use Rattle.cts_work.proofs.Parts.{starts_first}
use Rattle.cts_work.proofs.Made.{leaf_made, leaf_narrow}
use Rattle.cts_work.proofs.publishing.bring_node.Goals as goal

pub bounds-work-sink : goal.bounds-work-sink
bounds-work-sink g c =
    leaf_within (length c.args.work.now.sinks.now) c.args.work.now.nodes.now c.requires.ready.shape c.args.node _ _ c.requires.node (c.in-Leaf.is)

pub bring_leaf-requires-clause-leaf : goal.bring_leaf-requires-clause-leaf
bring_leaf-requires-clause-leaf g c = λ κs within.
    leaf_made c.args.work.now c.args.node c.in-Leaf.sink _ c.args.finished.now
    (leaf_within (length c.args.work.now.sinks.now) c.args.work.now.nodes.now c.requires.ready.shape c.args.node _ _ c.requires.node (c.in-Leaf.is))
    (tip_at c.args.work.now.nodes.now c.args.node c.requires.node _ c.in-Leaf.sink c.in-Leaf.is) c.requires.made

pub bring_leaf-requires-clause-narrow : goal.bring_leaf-requires-clause-narrow
bring_leaf-requires-clause-narrow g c = λ κs within.
    leaf_narrow c.args.work.now c.args.node c.in-Leaf.sink c.args.finished.now
    (tip_at c.args.work.now.nodes.now c.args.node c.requires.node _ c.in-Leaf.sink c.in-Leaf.is) c.requires.ready c.requires.made

pub bounds-before-left : goal.bounds-before-left
bounds-before-left g c =
    omega (
      arith,
      c.requires.long,
      (child_within c.args.work.now.sinks.now c.args.work.now.nodes.now c.requires.ready.shape c.args.node c.requires.node _ 0
          c.in-Pair.left c.in-Pair.right c.in-Pair.is
          (starts_first c.args.work.now.nodes.now (length c.args.work.now.sinks.now) c.requires.ready.shape c.args.node c.requires.node)).1,
    )

pub bounds-before-right : goal.bounds-before-right
bounds-before-right g c =
    omega (
      arith,
      c.requires.long,
      (child_within c.args.work.now.sinks.now c.args.work.now.nodes.now c.requires.ready.shape c.args.node c.requires.node _ 0
          c.in-Pair.left c.in-Pair.right c.in-Pair.is
          (starts_first c.args.work.now.nodes.now (length c.args.work.now.sinks.now) c.requires.ready.shape c.args.node c.requires.node)).3,
    )

pub bring_pair-requires-clause-here : goal.bring_pair-requires-clause-here
bring_pair-requires-clause-here g c = λ κs within.
    pair_at_number c.args.work.now.sinks.now c.args.work.now.nodes.now c.requires.ready.shape c.args.node c.requires.node _
    c.in-Pair.left c.in-Pair.right c.in-Pair.is

pub bring_pair-requires-clause-left : goal.bring_pair-requires-clause-left
bring_pair-requires-clause-left g c = λ κs within.
    let w = child_within c.args.work.now.sinks.now c.args.work.now.nodes.now c.requires.ready.shape c.args.node c.requires.node _ 0
    c.in-Pair.left c.in-Pair.right c.in-Pair.is
    (starts_first c.args.work.now.nodes.now (length c.args.work.now.sinks.now) c.requires.ready.shape c.args.node c.requires.node) in
    c.requires.before.each c.in-Pair.left _ (omega (arith, c.requires.long, w.1))

pub bring_pair-requires-clause-right : goal.bring_pair-requires-clause-right
bring_pair-requires-clause-right g c = λ κs within.
    let w = child_within c.args.work.now.sinks.now c.args.work.now.nodes.now c.requires.ready.shape c.args.node c.requires.node _ 0
    c.in-Pair.left c.in-Pair.right c.in-Pair.is
    (starts_first c.args.work.now.nodes.now (length c.args.work.now.sinks.now) c.requires.ready.shape c.args.node c.requires.node) in
    c.requires.before.each c.in-Pair.right _ (omega (arith, c.requires.long, w.3))

pub returns-in-Leaf-clause-number : goal.returns-in-Leaf-clause-number
returns-in-Leaf-clause-number g c =
    let sinks = c.args.work.now.sinks.now in
    let pass = c.bring_leaf.ensures.pass in
    let within = leaf_within (length sinks) c.args.work.now.nodes.now c.requires.ready.shape c.args.node _ c.in-Leaf.sink c.requires.node (c.in-Leaf.is) in
    IfOk-weaker c.bring_leaf.result _ _
    (λ b kept. subst (λ t. HasNumber (seen_by c.bring_leaf.new.pass) sinks t b.number)
    (sym (tip_at c.args.work.now.nodes.now c.args.node c.requires.node _ c.in-Leaf.sink c.in-Leaf.is))
    (leaf_number (params_of c.args.work.now.memo.now) (seen_by c.bring_leaf.new.pass) sinks c.in-Leaf.sink _ c.args.finished.now
    b.number within (sound_for c.args.work.now.memo.now c.bring_leaf.new.pass pass.own) kept))
    c.bring_leaf.ensures.kept
