use Rattle.std.proofs.Common.{◌≡◌, ◌-◌, length, replicate, set, sym, subst, arith}
use Rattle.std.specs.List.{All}
use Rattle.std.proofs.lemmas.List.Elements.{All-replicate, All-set}
use Rattle.cts_report_reader.specs.Seen.{IsSeen}
use Rattle.cts_check.specs.Ranges.{IsInRange}
use Rattle.cts_check.proofs.UpperEnds.{down_at_start, down_at_leaf, down_at_pair, down_at_end, left_within, right_within}
use Rattle.cts_check.proofs.ends.upper_ends.Goals as goal

pub loop-number-init : goal.loop-number-init
loop-number-init c =
    let filled : c.in_ok-ends.ends.items ≡ replicate (length c.args.nodes.now) c.source_point.result =
    c.in_ok-ends.ensures.items_if_clones_equal (λ y same. same) in
    record {
      down = down_at_start c.args.instance.now c.args.nodes.now c.requires.post_order c.source_point.result c.in_ok-ends.ends.items
          c.source_point.ensures.upper_end filled;
      seen = subst (All IsSeen) (sym filled) (All-replicate IsSeen (length c.args.nodes.now) c.source_point.result c.source_point.ensures.in_range);
    }

pub index_mut-requires : goal.index_mut-requires
index_mut-requires c =
    omega (
      arith,
      c.loop-number.ends.ok.0,
      left_within c.args.instance.now c.args.nodes.now c.requires.post_order c.loop-number.number c.loop-number.ends.items
          c.loop-number-test.true c.loop-number.auto.number c.loop-number.invariant.down c.index-nodes-number.result c.index-nodes-number.is
          c.in-Pair.left c.in-Pair.right c.in-Pair.buffer c.in-Pair.is,
    )

pub index_mut-requires-in-Pair : goal.index_mut-requires-in-Pair
index_mut-requires-in-Pair c =
    omega (
      arith,
      c.loop-number.ends.ok.0,
      right_within c.args.instance.now c.args.nodes.now c.requires.post_order c.loop-number.number c.loop-number.ends.items
          c.loop-number-test.true c.loop-number.auto.number c.loop-number.invariant.down c.index-nodes-number.result c.index-nodes-number.is
          c.in-Pair.left c.in-Pair.right c.in-Pair.buffer c.in-Pair.is,
    )

pub loop-number-preserved-in-Pair : goal.loop-number-preserved-in-Pair
loop-number-preserved-in-Pair c =
    let place = c.halves-place.result in
    let ends = c.loop-number.ends.items in
    let node_in_range : IsInRange c.index-nodes-number.result =
    subst IsInRange (sym c.index-nodes-number.is)
    (c.requires.in_range (c.loop-number.number - 1) c.index-nodes-number.result (omega (arith, c.loop-number-test.true, c.loop-number.auto.number))) in
    let seen : IsSeen place = subst IsSeen (sym c.halves-place.ensures.point) node_in_range.place in
    record {
      down = down_at_pair c.args.instance.now c.args.nodes.now c.requires.post_order c.loop-number.number ends
          c.loop-number-test.true c.loop-number.auto.number c.loop-number.invariant.down c.index-nodes-number.result c.index-nodes-number.is
          c.in-Pair.left c.in-Pair.right c.in-Pair.buffer c.in-Pair.is place c.halves-place.ensures.point;
      seen = All-set IsSeen (set ends c.in-Pair.left place) c.in-Pair.right place seen
          (All-set IsSeen ends c.in-Pair.left place seen c.loop-number.invariant.seen);
    }

pub loop-number-preserved : goal.loop-number-preserved
loop-number-preserved c = record {
  down = down_at_leaf c.args.instance.now c.args.nodes.now c.requires.post_order c.loop-number.number c.loop-number.ends.items
      c.loop-number-test.true c.loop-number.auto.number c.loop-number.invariant.down c.index-nodes-number.result c.index-nodes-number.is
      c.in_default.field-0 c.in_default.field-1 c.in_default.is;
  seen = c.loop-number.invariant.seen;
}

pub returns-clause-ends : goal.returns-clause-ends
returns-clause-ends c =
    down_at_end c.args.instance.now c.args.nodes.now c.requires.post_order c.loop-number.ends.items c.loop-number.number
    (omega (arith, c.loop-number-test.false)) c.loop-number.invariant.down
