use Rattle.std.proofs.Common.{◌≡◌, ◌+◌, ◌∷◌, ◌++◌, [], pos, true, false, sym, ap, subst, arith, ◌∙◌, drop}
use Rattle.std.specs.Slice.Iter.{iter_rest}
use Rattle.cts_units.specs.declared.params.Sink.{Sink}
use Rattle.cts_postorder.proofs.Waiting.{one_waits, root_waits}
use Rattle.cts_tree.specs.Nodes.{children_from}
use Rattle.cts_elmore.specs.Loads.{leaf_pins}
use Rattle.cts_embed.specs.Balance.{IsBalance}
use Rattle.cts_embed.proofs.Ascent.{IsAscent, ascent_named, ascent_at_start, ascent_at_leaf, ascent_at_pair, pin_waits, pins_after_leaf, pins_after_pair, ascent_all, counted, left_within, right_within, right_within_set, two_ready, buffer_named, left_ready, right_ready, pair_beyond}
use Rattle.cts_embed.proofs.Root.{root_in_range}
use Rattle.cts_embed.proofs.wires.balance_part.Goals.{in-Leaf, in-Pair+in-Ok}
use Rattle.cts_embed.proofs.wires.balance_part.Goals as goal

-- the value past the end of the list
abbrev none : Sink
none = record { id = 0; x = pos 0; y = pos 0; cap = 0; offset = 0 }

pub loop-number-init : goal.loop-number-init
loop-number-init c = record {
  ascent = ascent_at_start c.args.instance.now c.args.first c.args.nodes.now c.requires.post_order c.new-waiting.result.items c.new-waiting.ensures.items;
  left = c.iter-leaves.ensures.rest ∙ c.requires.pins;
}

pub take_pin-requires : goal.take_pin-requires
take_pin-requires c = record {
  some = pin_waits c.args.instance.now c.args.first c.args.nodes.now c.requires.post_order c.loop-number.number c.loop-number.waiting.items
      c.loop-number.nodes c.loop-number.invariant.ascent (omega (arith, c.loop-number-test.true, c.loop-number.auto.nodes)) c.requires.fits
      (iter_rest c.loop-number.leaves) c.loop-number.invariant.left c.in-Leaf.id c.in-Leaf.sink _ c.in-Leaf.is;
}

pub bounds-nodes-left : goal.bounds-nodes-left
bounds-nodes-left c =
    left_within c.args.instance.now c.args.first c.args.nodes.now c.requires.post_order c.loop-number.number c.loop-number.waiting.items
    c.loop-number.nodes c.loop-number.invariant.ascent (omega (arith, c.loop-number-test.true, c.loop-number.auto.nodes))
    c.in-Pair.left c.in-Pair.right c.in-Pair.buffer _ c.in-Pair.is

pub bounds-nodes-left-in-Pair : goal.bounds-nodes-left-in-Pair
bounds-nodes-left-in-Pair c =
    left_within c.args.instance.now c.args.first c.args.nodes.now c.requires.post_order c.loop-number.number c.loop-number.waiting.items
    c.loop-number.nodes c.loop-number.invariant.ascent (omega (arith, c.loop-number-test.true, c.loop-number.auto.nodes))
    c.in-Pair.left c.in-Pair.right c.in-Pair.buffer _ c.in-Pair.is

pub bounds-nodes-left-in-Ok : goal.bounds-nodes-left-in-Ok
bounds-nodes-left-in-Ok c =
    left_within c.args.instance.now c.args.first c.args.nodes.now c.requires.post_order c.loop-number.number c.loop-number.waiting.items
    c.loop-number.nodes c.loop-number.invariant.ascent (omega (arith, c.loop-number-test.true, c.loop-number.auto.nodes))
    c.in-Pair.left c.in-Pair.right c.in-Pair.buffer _ c.in-Pair.is

pub bounds-nodes-right : goal.bounds-nodes-right
bounds-nodes-right c =
    right_within c.args.instance.now c.args.first c.args.nodes.now c.requires.post_order c.loop-number.number c.loop-number.waiting.items
    c.loop-number.nodes c.loop-number.invariant.ascent (omega (arith, c.loop-number-test.true, c.loop-number.auto.nodes))
    c.in-Pair.left c.in-Pair.right c.in-Pair.buffer _ c.in-Pair.is

pub bounds-nodes-right-in-Pair : goal.bounds-nodes-right-in-Pair
bounds-nodes-right-in-Pair c =
    right_within c.args.instance.now c.args.first c.args.nodes.now c.requires.post_order c.loop-number.number c.loop-number.waiting.items
    c.loop-number.nodes c.loop-number.invariant.ascent (omega (arith, c.loop-number-test.true, c.loop-number.auto.nodes))
    c.in-Pair.left c.in-Pair.right c.in-Pair.buffer _ c.in-Pair.is

pub bounds-nodes-left-in-Ok-2 : goal.bounds-nodes-left-in-Ok-2
bounds-nodes-left-in-Ok-2 c =
    left_within c.args.instance.now c.args.first c.args.nodes.now c.requires.post_order c.loop-number.number c.loop-number.waiting.items
    c.loop-number.nodes c.loop-number.invariant.ascent (omega (arith, c.loop-number-test.true, c.loop-number.auto.nodes))
    c.in-Pair.left c.in-Pair.right c.in-Pair.buffer _ c.in-Pair.is

pub bounds-nodes-right-in-Ok : goal.bounds-nodes-right-in-Ok
bounds-nodes-right-in-Ok c =
    right_within_set c.args.instance.now c.args.first c.args.nodes.now c.requires.post_order c.loop-number.number c.loop-number.waiting.items
    c.loop-number.nodes c.loop-number.invariant.ascent (omega (arith, c.loop-number-test.true, c.loop-number.auto.nodes))
    c.in-Pair.left c.in-Pair.right c.in-Pair.buffer _ c.in-Pair.is _

pub bounds-nodes-right-in-Ok-2 : goal.bounds-nodes-right-in-Ok-2
bounds-nodes-right-in-Ok-2 c =
    right_within_set c.args.instance.now c.args.first c.args.nodes.now c.requires.post_order c.loop-number.number c.loop-number.waiting.items
    c.loop-number.nodes c.loop-number.invariant.ascent (omega (arith, c.loop-number-test.true, c.loop-number.auto.nodes))
    c.in-Pair.left c.in-Pair.right c.in-Pair.buffer _ c.in-Pair.is _

pub take_pair-requires : goal.take_pair-requires
take_pair-requires c = record {
  two = omega (
    arith,
    two_ready c.args.instance.now c.args.first c.args.nodes.now c.requires.post_order c.loop-number.number c.loop-number.waiting.items
        c.loop-number.nodes c.loop-number.invariant.ascent (omega (arith, c.loop-number-test.true, c.loop-number.auto.nodes))
        c.in-Pair.left c.in-Pair.right c.in-Pair.buffer _ c.in-Pair.is,
  );
}

pub pair_balance-requires-clause-buffer : goal.pair_balance-requires-clause-buffer
pair_balance-requires-clause-buffer c =
    buffer_named c.args.instance.now c.args.first c.args.nodes.now c.requires.post_order c.loop-number.number c.loop-number.waiting.items
    c.loop-number.nodes c.loop-number.invariant.ascent (omega (arith, c.loop-number-test.true, c.loop-number.auto.nodes))
    c.in-Pair.left c.in-Pair.right c.in-Pair.buffer _ c.in-Pair.is
    c.requires.fits c.params-params.result.now c.params-params.ensures.part

pub pair_balance-requires-clause-a : goal.pair_balance-requires-clause-a
pair_balance-requires-clause-a c =
    left_ready c.args.instance.now c.args.first c.args.nodes.now c.requires.post_order c.loop-number.number c.loop-number.waiting.items
    c.loop-number.nodes c.loop-number.invariant.ascent (omega (arith, c.loop-number-test.true, c.loop-number.auto.nodes))
    c.in-Pair.left c.in-Pair.right c.in-Pair.buffer _ c.in-Pair.is
    c.take_pair.new.waiting.items c.take_pair.result.0 c.take_pair.result.1 c.take_pair.ensures c.params-params.ensures.valid c.requires.fits

pub pair_balance-requires-clause-b : goal.pair_balance-requires-clause-b
pair_balance-requires-clause-b c =
    right_ready c.args.instance.now c.args.first c.args.nodes.now c.requires.post_order c.loop-number.number c.loop-number.waiting.items
    c.loop-number.nodes c.loop-number.invariant.ascent (omega (arith, c.loop-number-test.true, c.loop-number.auto.nodes))
    c.in-Pair.left c.in-Pair.right c.in-Pair.buffer _ c.in-Pair.is
    c.take_pair.new.waiting.items c.take_pair.result.0 c.take_pair.result.1 c.take_pair.ensures c.params-params.ensures.valid c.requires.fits

pub returns-in_default-clause-ends : goal.returns-in_default-clause-ends
returns-in_default-clause-ends c =
    (pair_beyond c.args.instance.now c.args.first c.args.nodes.now c.requires.post_order c.loop-number.number c.loop-number.waiting.items
    c.loop-number.nodes c.loop-number.invariant.ascent (omega (arith, c.loop-number-test.true, c.loop-number.auto.nodes))
    c.in-Pair.left c.in-Pair.right c.in-Pair.buffer _ c.in-Pair.is
    c.take_pair.new.waiting.items c.take_pair.result.0 c.take_pair.result.1 c.take_pair.ensures
    c.params-params.result.now c.params-params.ensures.part _ _ c.in_default.ensures.beyond)

pub loop-number-preserved : goal.loop-number-preserved
loop-number-preserved c =
    let ascent : IsAscent c.args.instance.now c.args.first c.args.nodes.now (c.loop-number.number + 1)
    (c.match-nodes-number.waiting.items ++ c.match-nodes-number.balance ∷ []) c.match-nodes-number.nodes =
    elim c.match-nodes-number.branch [
      | in-Leaf w ↦
          ascent_named c.args.instance.now c.args.first c.args.nodes.now (c.loop-number.number + 1) c.match-nodes-number.waiting.items
          c.loop-number.waiting.items c.match-nodes-number.balance w.leaf_balance-balance.result c.match-nodes-number.nodes
          c.loop-number.nodes (ap (λ v. v.items) w.waiting-is) w.balance-is w.nodes-is
          (ascent_at_leaf c.args.instance.now c.args.first c.args.nodes.now c.requires.post_order c.loop-number.number c.loop-number.waiting.items
          c.loop-number.nodes c.loop-number.invariant.ascent (omega (arith, c.loop-number-test.true, c.loop-number.auto.nodes)) c.requires.fits
          (iter_rest c.loop-number.leaves) c.loop-number.invariant.left
          w.in-Leaf.id w.in-Leaf.sink _ w.in-Leaf.is w.take_pin.result (iter_rest w.take_pin.new.pins)
          w.take_pin.ensures none w.leaf_balance-balance.result w.leaf_balance-balance.ensures)
      | in-Pair+in-Ok w ↦
          ascent_named c.args.instance.now c.args.first c.args.nodes.now (c.loop-number.number + 1) c.match-nodes-number.waiting.items
          w.take_pair.new.waiting.items c.match-nodes-number.balance w.in-Ok.pair c.match-nodes-number.nodes _
          (ap (λ v. v.items) w.waiting-is) w.balance-is w.nodes-is
          (ascent_at_pair c.args.instance.now c.args.first c.args.nodes.now c.requires.post_order c.loop-number.number c.loop-number.waiting.items
          c.loop-number.nodes c.loop-number.invariant.ascent (omega (arith, c.loop-number-test.true, c.loop-number.auto.nodes))
          w.in-Pair.left w.in-Pair.right w.in-Pair.buffer _ w.in-Pair.is
          w.take_pair.new.waiting.items w.take_pair.result.0 w.take_pair.result.1 w.take_pair.ensures
          c.params-params.result.now c.params-params.ensures.part w.index-nodes-left.result w.index-nodes-right.result
          w.in-Ok.pair w.in-Ok.ensures.pair w.index-nodes-left-in-Pair.result w.index-nodes-right-in-Pair.result)
    ] in
    let left : iter_rest c.match-nodes-number.leaves ≡ leaf_pins c.args.instance.now (drop (c.loop-number.number + 1) c.args.nodes.now) =
    elim c.match-nodes-number.branch [
      | in-Leaf w ↦
          ap iter_rest w.leaves-is
          ∙ pins_after_leaf c.args.instance.now c.args.first c.args.nodes.now c.requires.post_order c.loop-number.number c.loop-number.waiting.items
          c.loop-number.nodes c.loop-number.invariant.ascent (omega (arith, c.loop-number-test.true, c.loop-number.auto.nodes)) c.requires.fits
          (iter_rest c.loop-number.leaves) c.loop-number.invariant.left
          w.in-Leaf.id w.in-Leaf.sink _ w.in-Leaf.is w.take_pin.result (iter_rest w.take_pin.new.pins)
          w.take_pin.ensures
      | in-Pair+in-Ok w ↦
          ap iter_rest w.leaves-is
          ∙ pins_after_pair c.args.instance.now c.args.first c.args.nodes.now c.requires.post_order c.loop-number.number c.loop-number.waiting.items
          c.loop-number.nodes c.loop-number.invariant.ascent (omega (arith, c.loop-number-test.true, c.loop-number.auto.nodes))
          w.in-Pair.left w.in-Pair.right w.in-Pair.buffer _ w.in-Pair.is (iter_rest c.loop-number.leaves) c.loop-number.invariant.left
    ] in
    record {
      ascent = subst (λ vs. IsAscent c.args.instance.now c.args.first c.args.nodes.now (c.loop-number.number + 1) vs c.match-nodes-number.nodes)
          (sym c.in_ok-push.ensures.items) ascent;
      left = left;
    }

pub unreachable-requires : goal.unreachable-requires
unreachable-requires c =
    let none : false ≡ true =
    c.in_default-pop.ensures.variant.1
    (omega (
      arith,
      c.loop-number.waiting.ok.0,
      one_waits (children_from c.args.first) c.args.nodes.now (IsBalance c.args.instance.now.params c.args.instance.now.sinks) c.loop-number.number
          (omega (arith, c.loop-number-test.false, c.loop-number.auto.nodes))
          (omega (arith, c.loop-number.auto.number-end, c.loop-number.auto.nodes))
          c.loop-number.waiting.items c.loop-number.invariant.ascent.waits,
    )) in
    cc

pub overflow_sub-left : goal.overflow_sub-left
overflow_sub-left c =
    (counted c.args.instance.now c.args.first c.args.nodes.now c.requires.post_order c.loop-number.number c.loop-number.waiting.items
    c.loop-number.nodes c.loop-number.invariant.ascent (omega (arith, c.loop-number-test.true, c.loop-number.auto.nodes))
    c.in-Pair.left c.in-Pair.right c.in-Pair.buffer _ c.in-Pair.is c.requires.numbered).0

pub overflow_sub-right : goal.overflow_sub-right
overflow_sub-right c =
    (counted c.args.instance.now c.args.first c.args.nodes.now c.requires.post_order c.loop-number.number c.loop-number.waiting.items
    c.loop-number.nodes c.loop-number.invariant.ascent (omega (arith, c.loop-number-test.true, c.loop-number.auto.nodes))
    c.in-Pair.left c.in-Pair.right c.in-Pair.buffer _ c.in-Pair.is c.requires.numbered).1

pub returns-clause-balance : goal.returns-clause-balance
returns-clause-balance c =
    root_waits (children_from c.args.first) c.args.nodes.now (IsBalance c.args.instance.now.params c.args.instance.now.sinks) c.loop-number.number
    (omega (arith, c.loop-number-test.false, c.loop-number.auto.nodes))
    (omega (arith, c.loop-number.auto.number-end, c.loop-number.auto.nodes))
    c.loop-number.waiting.items c.loop-number.invariant.ascent.waits c.pop.new.self.items c.in-Some.root c.in-Some.ensures.items

pub returns-clause-nodes : goal.returns-clause-nodes
returns-clause-nodes c =
    ascent_all c.args.instance.now c.args.first c.args.nodes.now c.requires.post_order c.loop-number.number c.loop-number.waiting.items
    c.loop-number.nodes c.loop-number.invariant.ascent (omega (arith, c.loop-number-test.false, c.loop-number.auto.nodes))

pub returns-clause-range : goal.returns-clause-range
returns-clause-range c =
    root_in_range (children_from c.args.first) c.args.instance.now c.args.nodes.now c.requires.post_order c.in-Some.root
    (root_waits (children_from c.args.first) c.args.nodes.now (IsBalance c.args.instance.now.params c.args.instance.now.sinks) c.loop-number.number
    (omega (arith, c.loop-number-test.false, c.loop-number.auto.nodes))
    (omega (arith, c.loop-number.auto.number-end, c.loop-number.auto.nodes))
    c.loop-number.waiting.items c.loop-number.invariant.ascent.waits c.pop.new.self.items c.in-Some.root c.in-Some.ensures.items)
    c.params-params.ensures.valid c.requires.fits
