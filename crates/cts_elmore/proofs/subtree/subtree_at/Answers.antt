use Rattle.std.proofs.Common.{arith}
use Rattle.std.specs.Slice.Iter.{iter_rest}
use Rattle.cts_elmore.proofs.Node.{if_none, leaf_here_is, leaf_next, left_within, right_within, two_ready, left_in_range, right_in_range, over_by_left, over_by_right, pair_here, pair_next, pair_fails}
use Rattle.cts_elmore.proofs.subtree.subtree_at.Goals as goal

pub take_pair-requires : goal.take_pair-requires
take_pair-requires c =
    record {
      two = omega (
        arith,
        two_ready c.args.instance.now c.params-params.ensures.valid c.args.first c.args.nodes.now c.requires.post_order c.requires.numbered c.requires.fits c.args.number c.requires.number
            c.args.waiting.now.items c.requires.before c.in-Pair.left c.in-Pair.right c.in-Pair.buffer _ c.in-Pair.is,
      );
    }

pub bounds-nodes-left : goal.bounds-nodes-left
bounds-nodes-left c =
    left_within c.args.instance.now c.params-params.ensures.valid c.args.first c.args.nodes.now c.requires.post_order c.requires.numbered c.requires.fits c.args.number c.requires.number
    c.args.waiting.now.items c.requires.before c.in-Pair.left c.in-Pair.right c.in-Pair.buffer _ c.in-Pair.is

pub bounds-nodes-left-in-Pair : goal.bounds-nodes-left-in-Pair
bounds-nodes-left-in-Pair c =
    left_within c.args.instance.now c.params-params.ensures.valid c.args.first c.args.nodes.now c.requires.post_order c.requires.numbered c.requires.fits c.args.number c.requires.number
    c.args.waiting.now.items c.requires.before c.in-Pair.left c.in-Pair.right c.in-Pair.buffer _ c.in-Pair.is

pub through_wire-requires-clause-part : goal.through_wire-requires-clause-part
through_wire-requires-clause-part c =
    left_in_range c.args.instance.now c.params-params.ensures.valid c.args.first c.args.nodes.now c.requires.post_order c.requires.numbered c.requires.fits c.args.number c.requires.number
    c.args.waiting.now.items c.requires.before c.in-Pair.left c.in-Pair.right c.in-Pair.buffer _ c.in-Pair.is
    c.take_pair.new.waiting.items c.take_pair.result.0 c.take_pair.result.1 c.take_pair.ensures

pub returns-in_err-a-in-Pair-clause-over : goal.returns-in_err-a-in-Pair-clause-over
returns-in_err-a-in-Pair-clause-over c =
    if_none _ (over_by_left c.args.instance.now c.params-params.ensures.valid c.args.first c.args.nodes.now c.requires.post_order c.requires.numbered c.requires.fits c.args.number c.requires.number
    c.args.waiting.now.items c.requires.before c.in-Pair.left c.in-Pair.right c.in-Pair.buffer _ c.in-Pair.is
    c.take_pair.new.waiting.items c.take_pair.result.0 c.take_pair.result.1 c.take_pair.ensures
    _ c.in_err-a-in-Pair.ensures.branch)

pub bounds-nodes-right : goal.bounds-nodes-right
bounds-nodes-right c =
    right_within c.args.instance.now c.params-params.ensures.valid c.args.first c.args.nodes.now c.requires.post_order c.requires.numbered c.requires.fits c.args.number c.requires.number
    c.args.waiting.now.items c.requires.before c.in-Pair.left c.in-Pair.right c.in-Pair.buffer _ c.in-Pair.is

pub bounds-nodes-right-in_ok-a-in-Pair : goal.bounds-nodes-right-in_ok-a-in-Pair
bounds-nodes-right-in_ok-a-in-Pair c =
    right_within c.args.instance.now c.params-params.ensures.valid c.args.first c.args.nodes.now c.requires.post_order c.requires.numbered c.requires.fits c.args.number c.requires.number
    c.args.waiting.now.items c.requires.before c.in-Pair.left c.in-Pair.right c.in-Pair.buffer _ c.in-Pair.is

pub through_wire-requires-in-Pair-clause-part : goal.through_wire-requires-in-Pair-clause-part
through_wire-requires-in-Pair-clause-part c =
    right_in_range c.args.instance.now c.params-params.ensures.valid c.args.first c.args.nodes.now c.requires.post_order c.requires.numbered c.requires.fits c.args.number c.requires.number
    c.args.waiting.now.items c.requires.before c.in-Pair.left c.in-Pair.right c.in-Pair.buffer _ c.in-Pair.is
    c.take_pair.new.waiting.items c.take_pair.result.0 c.take_pair.result.1 c.take_pair.ensures

pub returns-in_err-b-in-Pair-clause-over : goal.returns-in_err-b-in-Pair-clause-over
returns-in_err-b-in-Pair-clause-over c =
    if_none _ (over_by_right c.args.instance.now c.params-params.ensures.valid c.args.first c.args.nodes.now c.requires.post_order c.requires.numbered c.requires.fits c.args.number c.requires.number
    c.args.waiting.now.items c.requires.before c.in-Pair.left c.in-Pair.right c.in-Pair.buffer _ c.in-Pair.is
    c.take_pair.new.waiting.items c.take_pair.result.0 c.take_pair.result.1 c.take_pair.ensures
    _ c.in_err-b-in-Pair.ensures.branch)

pub returns-in-Some-clause-here : goal.returns-in-Some-clause-here
returns-in-Some-clause-here c =
    leaf_here_is c.args.instance.now c.params-params.ensures.valid c.args.first c.args.nodes.now c.requires.post_order c.requires.numbered c.requires.fits c.args.number c.requires.number
    c.args.waiting.now.items c.requires.before c.in-Leaf.id c.in-Leaf.sink _ c.in-Leaf.is
    (iter_rest c.args.pins.now) (iter_rest c.next.new.self) c.in-Some.pin.now c.in-Some.ensures.steps c.requires.pins
    c.leaf.result c.leaf.ensures

pub returns-in-Some-clause-next : goal.returns-in-Some-clause-next
returns-in-Some-clause-next c =
    leaf_next c.args.instance.now c.params-params.ensures.valid c.args.first c.args.nodes.now c.requires.post_order c.requires.numbered c.requires.fits c.args.number c.requires.number
    c.args.waiting.now.items c.requires.before c.in-Leaf.id c.in-Leaf.sink _ c.in-Leaf.is c.leaf.result
    (leaf_here_is c.args.instance.now c.params-params.ensures.valid c.args.first c.args.nodes.now c.requires.post_order c.requires.numbered c.requires.fits c.args.number c.requires.number
    c.args.waiting.now.items c.requires.before c.in-Leaf.id c.in-Leaf.sink _ c.in-Leaf.is
    (iter_rest c.args.pins.now) (iter_rest c.next.new.self) c.in-Some.pin.now c.in-Some.ensures.steps c.requires.pins
    c.leaf.result c.leaf.ensures)

pub returns-in_ok-b-in-Pair-clause-here : goal.returns-in_ok-b-in-Pair-clause-here
returns-in_ok-b-in-Pair-clause-here c =
    pair_here c.args.instance.now c.params-params.ensures.valid c.args.first c.args.nodes.now c.requires.post_order c.requires.numbered c.requires.fits c.args.number c.requires.number
    c.args.waiting.now.items c.requires.before c.in-Pair.left c.in-Pair.right c.in-Pair.buffer _ c.in-Pair.is
    c.take_pair.new.waiting.items c.take_pair.result.0 c.take_pair.result.1 c.take_pair.ensures
    c.index-nodes-left.result c.index-nodes-right.result c.params-params.result.now c.params-params.ensures.part c.in_ok-a-in-Pair.a c.in_ok-b-in-Pair.b
    c.in_ok-a-in-Pair.ensures.branch c.in_ok-b-in-Pair.ensures.branch
    c.in_ok-a-in-Pair.ensures.within c.in_ok-b-in-Pair.ensures.within c.pair.result c.pair.ensures

pub returns-in_ok-b-in-Pair-clause-next : goal.returns-in_ok-b-in-Pair-clause-next
returns-in_ok-b-in-Pair-clause-next c =
    pair_next c.args.instance.now c.params-params.ensures.valid c.args.first c.args.nodes.now c.requires.post_order c.requires.numbered c.requires.fits c.args.number c.requires.number
    c.args.waiting.now.items c.requires.before c.in-Pair.left c.in-Pair.right c.in-Pair.buffer _ c.in-Pair.is
    c.take_pair.new.waiting.items c.take_pair.result.0 c.take_pair.result.1 c.take_pair.ensures
    c.index-nodes-left.result c.index-nodes-right.result c.params-params.result.now c.params-params.ensures.part c.in_ok-a-in-Pair.a c.in_ok-b-in-Pair.b
    c.in_ok-a-in-Pair.ensures.branch c.in_ok-b-in-Pair.ensures.branch
    c.in_ok-a-in-Pair.ensures.within c.in_ok-b-in-Pair.ensures.within c.pair.result c.pair.ensures

pub returns-in_ok-b-in-Pair-clause-over : goal.returns-in_ok-b-in-Pair-clause-over
returns-in_ok-b-in-Pair-clause-over c =
    pair_fails c.args.instance.now c.params-params.ensures.valid c.args.first c.args.nodes.now c.requires.post_order c.requires.numbered c.requires.fits c.args.number c.requires.number
    c.args.waiting.now.items c.requires.before c.in-Pair.left c.in-Pair.right c.in-Pair.buffer _ c.in-Pair.is
    c.take_pair.new.waiting.items c.take_pair.result.0 c.take_pair.result.1 c.take_pair.ensures
    c.index-nodes-left.result c.index-nodes-right.result c.params-params.result.now c.params-params.ensures.part c.in_ok-a-in-Pair.a c.in_ok-b-in-Pair.b
    c.in_ok-a-in-Pair.ensures.branch c.in_ok-b-in-Pair.ensures.branch
    c.pair.result c.pair.ensures
