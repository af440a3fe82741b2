use Rattle.std.proofs.Common.{length, refl, arith}
use Rattle.cts_topo.proofs.Counts.{leaf_within}
use Rattle.cts_work.specs.Plans.{made_of}
use Rattle.cts_work.proofs.Nodes.{tip_at, pair_at_number, child_within}
use Rattle.cts_work.proofs.Made.{made_read, made_merges, made_leaf, made_pair, made_beyond}
use Rattle.cts_work.proofs.making.make_node.Goals as goal

pub bounds-work-sink : goal.bounds-work-sink
bounds-work-sink g c =
    leaf_within (length c.args.work.now.sinks.now) c.args.work.now.nodes.now c.requires.ready.shape c.args.node _ _ c.requires.node (c.in-Leaf.is)

pub overflow_sub-left : goal.overflow_sub-left
overflow_sub-left g c =
    (child_within c.args.work.now.sinks.now c.args.work.now.nodes.now c.requires.ready.shape c.args.node c.requires.node _ c.args.first
    c.in-Pair.left c.in-Pair.right c.in-Pair.is c.requires.starts).0

pub at-a-requires : goal.at-a-requires
at-a-requires g c =
    omega (
      arith,
      c.requires.long,
      (child_within c.args.work.now.sinks.now c.args.work.now.nodes.now c.requires.ready.shape c.args.node c.requires.node _ c.args.first
          c.in-Pair.left c.in-Pair.right c.in-Pair.is c.requires.starts),
    )

pub overflow_sub-right : goal.overflow_sub-right
overflow_sub-right g c =
    (child_within c.args.work.now.sinks.now c.args.work.now.nodes.now c.requires.ready.shape c.args.node c.requires.node _ c.args.first
    c.in-Pair.left c.in-Pair.right c.in-Pair.is c.requires.starts).2

pub at-b-requires : goal.at-b-requires
at-b-requires g c =
    omega (
      arith,
      c.requires.long,
      (child_within c.args.work.now.sinks.now c.args.work.now.nodes.now c.requires.ready.shape c.args.node c.requires.node _ c.args.first
          c.in-Pair.left c.in-Pair.right c.in-Pair.is c.requires.starts),
    )

pub returns-in-Leaf-clause-made : goal.returns-in-Leaf-clause-made
returns-in-Leaf-clause-made g c =
    let within = leaf_within (length c.args.work.now.sinks.now) c.args.work.now.nodes.now c.requires.ready.shape c.args.node _ c.in-Leaf.sink
    c.requires.node (c.in-Leaf.is) in
    made_leaf c.args.work.now c.args.node c.in-Leaf.sink _ c.leaf.result within
    (tip_at c.args.work.now.nodes.now c.args.node c.requires.node _ c.in-Leaf.sink c.in-Leaf.is) c.leaf.ensures.leaf

pub merge_sides-requires-clause-a : goal.merge_sides-requires-clause-a
merge_sides-requires-clause-a g c =
    let w = child_within c.args.work.now.sinks.now c.args.work.now.nodes.now c.requires.ready.shape c.args.node c.requires.node _ c.args.first
    c.in-Pair.left c.in-Pair.right c.in-Pair.is c.requires.starts in
    made_merges c.args.work.now c.in-Pair.left c.at-a.result.now c.requires.ready
    (made_read c.args.work.now c.args.first c.args.node (made_of c.args.before) c.in-Pair.left c.at-a.result.now c.at-a.ensures
    c.requires.before c.requires.long (w.0) (w.1))

pub merge_sides-requires-clause-b : goal.merge_sides-requires-clause-b
merge_sides-requires-clause-b g c =
    let w = child_within c.args.work.now.sinks.now c.args.work.now.nodes.now c.requires.ready.shape c.args.node c.requires.node _ c.args.first
    c.in-Pair.left c.in-Pair.right c.in-Pair.is c.requires.starts in
    made_merges c.args.work.now c.in-Pair.right c.at-b.result.now c.requires.ready
    (made_read c.args.work.now c.args.first c.args.node (made_of c.args.before) c.in-Pair.right c.at-b.result.now c.at-b.ensures
    c.requires.before c.requires.long (w.2) (w.3))

pub returns-in-Ok-clause-made : goal.returns-in-Ok-clause-made
returns-in-Ok-clause-made g c =
    let w = child_within c.args.work.now.sinks.now c.args.work.now.nodes.now c.requires.ready.shape c.args.node c.requires.node _ c.args.first
    c.in-Pair.left c.in-Pair.right c.in-Pair.is c.requires.starts in
    made_pair c.args.work.now c.args.node c.in-Pair.left c.in-Pair.right c.at-a.result.now c.at-b.result.now
    (pair_at_number c.args.work.now.sinks.now c.args.work.now.nodes.now c.requires.ready.shape c.args.node c.requires.node _
    c.in-Pair.left c.in-Pair.right c.in-Pair.is)
    (made_read c.args.work.now c.args.first c.args.node (made_of c.args.before) c.in-Pair.left c.at-a.result.now c.at-a.ensures
    c.requires.before c.requires.long (w.0) (w.1))
    (made_read c.args.work.now c.args.first c.args.node (made_of c.args.before) c.in-Pair.right c.at-b.result.now c.at-b.ensures
    c.requires.before c.requires.long (w.2) (w.3))
    c.in-Ok.finished c.in-Ok.ensures.merged

pub returns-in-Err-clause-ends : goal.returns-in-Err-clause-ends
returns-in-Err-clause-ends g c =
    let w = child_within c.args.work.now.sinks.now c.args.work.now.nodes.now c.requires.ready.shape c.args.node c.requires.node _ c.args.first
    c.in-Pair.left c.in-Pair.right c.in-Pair.is c.requires.starts in (
      refl,
      made_beyond c.args.work.now c.args.node c.in-Pair.left c.in-Pair.right c.at-a.result.now c.at-b.result.now
          (pair_at_number c.args.work.now.sinks.now c.args.work.now.nodes.now c.requires.ready.shape c.args.node c.requires.node _
          c.in-Pair.left c.in-Pair.right c.in-Pair.is)
          (made_read c.args.work.now c.args.first c.args.node (made_of c.args.before) c.in-Pair.left c.at-a.result.now c.at-a.ensures
          c.requires.before c.requires.long (w.0) (w.1))
          (made_read c.args.work.now c.args.first c.args.node (made_of c.args.before) c.in-Pair.right c.at-b.result.now c.at-b.ensures
          c.requires.before c.requires.long (w.2) (w.3))
          c.in-Err.ensures.beyond,
    )
