-- Each worker is given one of the halves, and the two lists that come of them make the list of the whole.
use Rattle.std.proofs.Common.{rules, ◌≡◌, ◌+◌, ◌-◌, ◌*◌, true, not, [], length, sym, ap, subst, ◌∙◌, arith}
use Rattle.std.proofs.lemmas.Result.{IfOk-at_ok, IfOk-weaker}
use Rattle.cts_topo.specs.Topology.{turned, left_part, right_part}
use Rattle.cts_topo.proofs.Shuffles.{Shuffled, length-Shuffled}
use Rattle.cts_topo.proofs.Pivots.{not_turned, turned_back}
use Rattle.cts_shape_workers.specs.Growing.{CanGrow, Grows}
use Rattle.cts_shape_workers.proofs.Growing.{grows_pair, grows_shuffled, can_grow_turned}
use Rattle.cts_shape_workers.proofs.divide.+parts.Goals as goal

pub add_parts_by-split_at_mut-left_spare-requires : goal.add_parts_by-split_at_mut-left_spare-requires
add_parts_by-split_at_mut-left_spare-requires g t c =
    omega (arith, length-Shuffled c.requires.ready.pins.same, c.halve-half.ensures.within.1)

pub add_parts_by-beside-right-requires-after_bounds : goal.add_parts_by-beside-right-requires-after_bounds
add_parts_by-beside-right-requires-after_bounds g t c κs within =
    let half = c.halve-half.ensures in
    let along = c.split_at_mut-left_along.ensures in
    let across = c.split_at_mut-left_across.ensures in
    let spare = c.split_at_mut-left_spare.ensures in
    let long : length c.args.along.now ≡ length c.args.across.now = length-Shuffled c.requires.ready.pins.same in
    let back : CanGrow (c.args.first + (c.len.result + 2 * c.halve-half.result - 1)) c.args.wide c.split_at_mut-left_along.result.1.now
    c.split_at_mut-left_across.result.1.now c.split_at_mut-left_spare.result.1.now c.in_ok-apart.apart.items =
    record {
      pins = rw (along.back, across.back) half.halves.right;
      long = omega (arith, long, spare.back_len, along.back_len);
      room = omega (
        arith,
        ap length c.in_ok-apart.ensures.items,
        along.front_len,
        along.back_len,
        c.requires.ready.room,
        c.len.ensures,
        c.args.nodes.ok.0,
        half.within.0,
      );
    } in
    let front : CanGrow c.args.first c.args.wide c.split_at_mut-left_along.result.0.now c.split_at_mut-left_across.result.0.now
    c.split_at_mut-left_spare.result.0.now c.args.nodes.items =
    record {
      pins = rw (along.front, across.front) half.halves.left;
      long = omega (arith, spare.front_len, along.front_len);
      room = omega (arith, along.front_len, half.within.1, c.requires.ready.room);
    } in
    search rules

pub add_parts_by-returns : goal.add_parts_by-returns
add_parts_by-returns g t c =
    let half = c.halve-half.ensures in
    let along = c.split_at_mut-left_along.ensures in
    let left = c.in_ok-left.field-0.items in
    let right = c.in_ok-right.field-0.items in
    let next = c.args.first + (c.len.result + 2 * c.halve-half.result - 1) in
    let l : Grows c.args.first c.split_at_mut-left_along.result.0.now c.args.nodes.items left =
    IfOk-at_ok (λ all. Grows c.args.first c.split_at_mut-left_along.result.0.now c.args.nodes.items all.items) c.in_ok-left.was
    c.beside-right.ensures.second in
    let r : Grows next c.split_at_mut-left_along.result.1.now [] right =
    subst (λ ns. Grows next c.split_at_mut-left_along.result.1.now ns right) c.in_ok-apart.ensures.items
    (IfOk-at_ok (λ all. Grows next c.split_at_mut-left_along.result.1.now c.in_ok-apart.apart.items all.items) c.in_ok-right.was
    c.beside-right.ensures.first) in
    IfOk-weaker c.pair_over.result _ _
    (λ all h. subst (Grows c.args.first c.args.along.now c.args.nodes.items) (sym h)
    (grows_pair c.args.first next c.args.along.now c.split_at_mut-left_along.result.0.now c.split_at_mut-left_along.result.1.now
    c.args.nodes.items left right (c.args.first + length left - 1) (c.args.first + length left + length right - 1) c.requires.two
    (subst (Shuffled (left_part c.args.along.now)) (sym along.front) half.halves.left_is)
    (subst (Shuffled (right_part c.args.along.now)) (sym along.back) half.halves.right_is)
    (omega (arith, along.front_len, half.within.0))
    (omega (arith, along.back_len, half.within.1))
    (omega (arith, along.front_len, along.back_len))
    l r
    (omega (arith, c.len.ensures, c.args.nodes.ok.0, along.front_len, half.within.0))
    (omega (arith, l.count, along.front_len, half.within.0))
    (omega (arith, l.count, along.front_len, half.within.0))))
    c.pair_over.ensures

pub add_tree_by-add_parts_by-requires-clause-two : goal.add_tree_by-add_parts_by-requires-clause-two
add_tree_by-add_parts_by-requires-clause-two g t c κs within =
    omega (arith, length-Shuffled c.requires.ready.pins.same, c.if-along-lt-FEW.false)

pub add_tree_by-add_parts_by-requires-clause-axis : goal.add_tree_by-add_parts_by-requires-clause-axis
add_tree_by-add_parts_by-requires-clause-axis g t c κs within =
    let over : turned c.args.wide c.args.along.now ≡ true = sym c.is_turned.ensures ∙ c.if-is_turned.true in
    not_turned (not c.args.wide) c.args.across.now (turned_back c.args.wide c.args.along.now c.args.across.now c.requires.ready.pins.same over)

pub add_tree_by-add_parts_by-requires-clause-ready : goal.add_tree_by-add_parts_by-requires-clause-ready
add_tree_by-add_parts_by-requires-clause-ready g t c κs within = can_grow_turned _ _ _ _ _ _ c.requires.ready

pub add_tree_by-returns-then-is_turned : goal.add_tree_by-returns-then-is_turned
add_tree_by-returns-then-is_turned g t c =
    IfOk-weaker c.add_parts_by.result _ _
    (λ all h. grows_shuffled c.args.first c.args.along.now c.args.across.now c.args.nodes.items all.items c.requires.ready.pins.same h)
    c.add_parts_by.ensures
