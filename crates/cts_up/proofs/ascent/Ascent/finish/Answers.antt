use Rattle.std.proofs.Common.{◌-◌, take, arith}
use Rattle.cts_topo.proofs.Counts.{leaves_at_leaf, leaves_at_pair}
use Rattle.cts_up.proofs.LeafOrder.{x_is_coordinate, y_is_coordinate}
use Rattle.cts_up.proofs.Ascending.{leaf_stands, leaf_waits, sink_listed, sink_named, sink_ready, latest_two, two_ready, left_ready, right_ready, pair_stands, pair_waits, pair_beyond, pair_passed, each_ok, each_err}
use Rattle.cts_up.proofs.ascent.Ascent.finish.Goals as goal

pub index-requires : goal.index-requires
index-requires g c =
    omega (
      arith,
      c.args.self.now.named.ok.0,
      sink_listed c.args.params.now c.args.sinks.now (c.requires.before.0) c.args.nodes.now c.args.number c.requires.number
          c.args.self.now.named.items c.args.self.now.leaves c.args.self.now.waiting.items (c.requires.before.1) c.in-Leaf.sink _ c.in-Leaf.is,
    )

pub leaf-finished-requires-clause-x : goal.leaf-finished-requires-clause-x
leaf-finished-requires-clause-x g c =
    x_is_coordinate c.index.result.now
    (sink_ready c.args.params.now c.args.sinks.now (c.requires.before.0) c.args.nodes.now c.args.number c.requires.number
    c.args.self.now.named.items c.args.self.now.leaves c.args.self.now.waiting.items (c.requires.before.1) c.in-Leaf.sink _ c.in-Leaf.is c.index.result.now c.index.ensures c.requires.sinks).placed

pub leaf-finished-requires-clause-y : goal.leaf-finished-requires-clause-y
leaf-finished-requires-clause-y g c =
    y_is_coordinate c.index.result.now
    (sink_ready c.args.params.now c.args.sinks.now (c.requires.before.0) c.args.nodes.now c.args.number c.requires.number
    c.args.self.now.named.items c.args.self.now.leaves c.args.self.now.waiting.items (c.requires.before.1) c.in-Leaf.sink _ c.in-Leaf.is c.index.result.now c.index.ensures c.requires.sinks).placed

pub leaf-finished-requires-clause-cap : goal.leaf-finished-requires-clause-cap
leaf-finished-requires-clause-cap g c =
    omega (
      arith,
      (sink_ready c.args.params.now c.args.sinks.now (c.requires.before.0) c.args.nodes.now c.args.number c.requires.number
          c.args.self.now.named.items c.args.self.now.leaves c.args.self.now.waiting.items (c.requires.before.1) c.in-Leaf.sink _ c.in-Leaf.is c.index.result.now c.index.ensures c.requires.sinks).cap,
    )

pub overflow_add-self : goal.overflow_add-self
overflow_add-self g c =
    omega (
      arith,
      c.args.self.now.named.ok.0,
      sink_listed c.args.params.now c.args.sinks.now (c.requires.before.0) c.args.nodes.now c.args.number c.requires.number
          c.args.self.now.named.items c.args.self.now.leaves c.args.self.now.waiting.items (c.requires.before.1) c.in-Leaf.sink _ c.in-Leaf.is,
    )

pub returns-in-Leaf-clause-here : goal.returns-in-Leaf-clause-here
returns-in-Leaf-clause-here g c = λ first before.
    leaf_stands c.args.params.now c.args.sinks.now first c.args.nodes.now c.args.number c.requires.number c.in-Leaf.sink _ c.in-Leaf.is
    c.index.result.now
    (sink_named c.args.params.now c.args.sinks.now first c.args.nodes.now c.args.number c.requires.number
    c.args.self.now.named.items c.args.self.now.leaves c.args.self.now.waiting.items before c.in-Leaf.sink _ c.in-Leaf.is c.index.result.now c.index.ensures)
    c.leaf-finished.result c.leaf-finished.ensures.leaf

pub returns-in-Leaf-clause-after : goal.returns-in-Leaf-clause-after
returns-in-Leaf-clause-after g c = λ first before.
    record {
      stretch = before.stretch;
      each_named = before.each_named;
      counted = omega (arith, before.counted, leaves_at_leaf c.args.nodes.now c.args.number _ c.in-Leaf.sink c.requires.number c.in-Leaf.is);
      each_waits = leaf_waits c.args.params.now c.args.sinks.now first c.args.nodes.now c.args.number c.requires.number before.stretch
          c.args.self.now.waiting.items before.each_waits _ c.in-Leaf.sink c.in-Leaf.is c.leaf-finished.result
          (leaf_stands c.args.params.now c.args.sinks.now first c.args.nodes.now c.args.number c.requires.number c.in-Leaf.sink _ c.in-Leaf.is
          c.index.result.now
          (sink_named c.args.params.now c.args.sinks.now first c.args.nodes.now c.args.number c.requires.number
          c.args.self.now.named.items c.args.self.now.leaves c.args.self.now.waiting.items before c.in-Leaf.sink _ c.in-Leaf.is c.index.result.now c.index.ensures)
          c.leaf-finished.result c.leaf-finished.ensures.leaf);
    }

pub returns-in-Leaf-clause-merges : goal.returns-in-Leaf-clause-merges
returns-in-Leaf-clause-merges g c =
    omega (arith, leaves_at_leaf c.args.nodes.now c.args.number _ c.in-Leaf.sink c.requires.number c.in-Leaf.is)

pub overflow_sub-rest : goal.overflow_sub-rest
overflow_sub-rest g c = omega (
  arith,
  c.len-rest.ensures,
  c.args.self.now.waiting.ok.0,
  two_ready c.args.params.now c.args.sinks.now (c.requires.before.0) c.args.nodes.now c.args.number c.requires.number (c.requires.before.1).stretch
      c.args.self.now.waiting.items (c.requires.before.1).each_waits _ c.in-Pair.left c.in-Pair.right c.in-Pair.is,
)

pub index-requires-in-Pair : goal.index-requires-in-Pair
index-requires-in-Pair g c = omega (
  arith,
  c.len-rest.ensures,
  c.args.self.now.waiting.ok.0,
  two_ready c.args.params.now c.args.sinks.now (c.requires.before.0) c.args.nodes.now c.args.number c.requires.number (c.requires.before.1).stretch
      c.args.self.now.waiting.items (c.requires.before.1).each_waits _ c.in-Pair.left c.in-Pair.right c.in-Pair.is,
)

pub index-requires-in-Pair-2 : goal.index-requires-in-Pair-2
index-requires-in-Pair-2 g c = omega (
  arith,
  c.len-rest.ensures,
  c.args.self.now.waiting.ok.0,
  two_ready c.args.params.now c.args.sinks.now (c.requires.before.0) c.args.nodes.now c.args.number c.requires.number (c.requires.before.1).stretch
      c.args.self.now.waiting.items (c.requires.before.1).each_waits _ c.in-Pair.left c.in-Pair.right c.in-Pair.is,
)

pub merge-merged-requires-clause-a : goal.merge-merged-requires-clause-a
merge-merged-requires-clause-a g c =
    left_ready c.args.params.now c.args.sinks.now (c.requires.before.0) c.args.nodes.now c.args.number c.requires.number (c.requires.before.1).stretch
    c.args.self.now.waiting.items (c.requires.before.1).each_waits _ c.in-Pair.left c.in-Pair.right c.in-Pair.is
    (take (c.len-rest.result - 2) c.args.self.now.waiting.items) c.index-in-Pair.result.now c.index-in-Pair-2.result.now
    (latest_two c.args.self.now.waiting.items (c.len-rest.result - 2) c.index-in-Pair.result.now c.index-in-Pair-2.result.now (omega (
      arith,
      c.len-rest.ensures,
      c.args.self.now.waiting.ok.0,
      two_ready c.args.params.now c.args.sinks.now (c.requires.before.0) c.args.nodes.now c.args.number c.requires.number (c.requires.before.1).stretch
          c.args.self.now.waiting.items (c.requires.before.1).each_waits _ c.in-Pair.left c.in-Pair.right c.in-Pair.is,
    )) c.index-in-Pair.ensures c.index-in-Pair-2.ensures) c.requires.params c.requires.sinks

pub merge-merged-requires-clause-b : goal.merge-merged-requires-clause-b
merge-merged-requires-clause-b g c =
    right_ready c.args.params.now c.args.sinks.now (c.requires.before.0) c.args.nodes.now c.args.number c.requires.number (c.requires.before.1).stretch
    c.args.self.now.waiting.items (c.requires.before.1).each_waits _ c.in-Pair.left c.in-Pair.right c.in-Pair.is
    (take (c.len-rest.result - 2) c.args.self.now.waiting.items) c.index-in-Pair.result.now c.index-in-Pair-2.result.now
    (latest_two c.args.self.now.waiting.items (c.len-rest.result - 2) c.index-in-Pair.result.now c.index-in-Pair-2.result.now (omega (
      arith,
      c.len-rest.ensures,
      c.args.self.now.waiting.ok.0,
      two_ready c.args.params.now c.args.sinks.now (c.requires.before.0) c.args.nodes.now c.args.number c.requires.number (c.requires.before.1).stretch
          c.args.self.now.waiting.items (c.requires.before.1).each_waits _ c.in-Pair.left c.in-Pair.right c.in-Pair.is,
    )) c.index-in-Pair.ensures c.index-in-Pair-2.ensures) c.requires.params c.requires.sinks

pub returns-in-Pair-clause-here : goal.returns-in-Pair-clause-here
returns-in-Pair-clause-here g c =
    each_ok _ _ c.merge-merged.result (λ first before.
    pair_stands c.args.params.now c.args.sinks.now first c.args.nodes.now c.args.number c.requires.number before.stretch
    c.args.self.now.waiting.items before.each_waits _ c.in-Pair.left c.in-Pair.right c.in-Pair.is
    (take (c.len-rest.result - 2) c.args.self.now.waiting.items) c.index-in-Pair.result.now c.index-in-Pair-2.result.now
    (latest_two c.args.self.now.waiting.items (c.len-rest.result - 2) c.index-in-Pair.result.now c.index-in-Pair-2.result.now (omega (
      arith,
      c.len-rest.ensures,
      c.args.self.now.waiting.ok.0,
      two_ready c.args.params.now c.args.sinks.now first c.args.nodes.now c.args.number c.requires.number before.stretch
          c.args.self.now.waiting.items before.each_waits _ c.in-Pair.left c.in-Pair.right c.in-Pair.is,
    )) c.index-in-Pair.ensures c.index-in-Pair-2.ensures)
    c.merge-merged.result c.merge-merged.ensures.merges.merged)

pub returns-in-Pair-clause-beyond : goal.returns-in-Pair-clause-beyond
returns-in-Pair-clause-beyond g c =
    each_err _ _ c.merge-merged.result (λ first before.
    pair_beyond c.args.params.now c.args.sinks.now first c.args.nodes.now c.args.number c.requires.number before.stretch
    c.args.self.now.waiting.items before.each_waits _ c.in-Pair.left c.in-Pair.right c.in-Pair.is
    (take (c.len-rest.result - 2) c.args.self.now.waiting.items) c.index-in-Pair.result.now c.index-in-Pair-2.result.now
    (latest_two c.args.self.now.waiting.items (c.len-rest.result - 2) c.index-in-Pair.result.now c.index-in-Pair-2.result.now (omega (
      arith,
      c.len-rest.ensures,
      c.args.self.now.waiting.ok.0,
      two_ready c.args.params.now c.args.sinks.now first c.args.nodes.now c.args.number c.requires.number before.stretch
          c.args.self.now.waiting.items before.each_waits _ c.in-Pair.left c.in-Pair.right c.in-Pair.is,
    )) c.index-in-Pair.ensures c.index-in-Pair-2.ensures)
    c.merge-merged.result c.merge-merged.ensures.merges.beyond)

pub returns-in-Pair-clause-after : goal.returns-in-Pair-clause-after
returns-in-Pair-clause-after g c =
    each_ok _ _ c.merge-merged.result (λ first before.
    pair_passed c.args.params.now c.args.sinks.now first c.args.nodes.now c.args.number c.args.self.now.named.items c.args.self.now.leaves
    c.args.self.now.waiting.items (take (c.len-rest.result - 2) c.args.self.now.waiting.items) c.truncate.new.self.items before
    (omega (arith, before.counted, leaves_at_pair c.args.nodes.now c.args.number _ c.in-Pair.left c.in-Pair.right c.requires.number c.in-Pair.is)) c.truncate.ensures.items c.merge-merged.result
    (pair_waits c.args.params.now c.args.sinks.now first c.args.nodes.now c.args.number c.requires.number before.stretch
    c.args.self.now.waiting.items before.each_waits _ c.in-Pair.left c.in-Pair.right c.in-Pair.is
    (take (c.len-rest.result - 2) c.args.self.now.waiting.items) c.index-in-Pair.result.now c.index-in-Pair-2.result.now
    (latest_two c.args.self.now.waiting.items (c.len-rest.result - 2) c.index-in-Pair.result.now c.index-in-Pair-2.result.now (omega (
      arith,
      c.len-rest.ensures,
      c.args.self.now.waiting.ok.0,
      two_ready c.args.params.now c.args.sinks.now first c.args.nodes.now c.args.number c.requires.number before.stretch
          c.args.self.now.waiting.items before.each_waits _ c.in-Pair.left c.in-Pair.right c.in-Pair.is,
    )) c.index-in-Pair.ensures c.index-in-Pair-2.ensures) c.merge-merged.result
    (pair_stands c.args.params.now c.args.sinks.now first c.args.nodes.now c.args.number c.requires.number before.stretch
    c.args.self.now.waiting.items before.each_waits _ c.in-Pair.left c.in-Pair.right c.in-Pair.is
    (take (c.len-rest.result - 2) c.args.self.now.waiting.items) c.index-in-Pair.result.now c.index-in-Pair-2.result.now
    (latest_two c.args.self.now.waiting.items (c.len-rest.result - 2) c.index-in-Pair.result.now c.index-in-Pair-2.result.now (omega (
      arith,
      c.len-rest.ensures,
      c.args.self.now.waiting.ok.0,
      two_ready c.args.params.now c.args.sinks.now first c.args.nodes.now c.args.number c.requires.number before.stretch
          c.args.self.now.waiting.items before.each_waits _ c.in-Pair.left c.in-Pair.right c.in-Pair.is,
    )) c.index-in-Pair.ensures c.index-in-Pair-2.ensures)
    c.merge-merged.result c.merge-merged.ensures.merges.merged)))

pub returns-in-Pair-clause-merges : goal.returns-in-Pair-clause-merges
returns-in-Pair-clause-merges g c =
    omega (arith, c.merge-merged.ensures.tick, leaves_at_pair c.args.nodes.now c.args.number _ c.in-Pair.left c.in-Pair.right c.requires.number c.in-Pair.is)
