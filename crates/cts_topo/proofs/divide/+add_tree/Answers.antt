-- One pin is a leaf, pins that run further along the other axis are turned, and others are divided at the middle of their order.
use Rattle.std.proofs.Common.{◌≡◌, true, not, ◌+◌, ◌<◌, ◌++◌, length, IsSortedBy, sym, ap, subst, ◌∙◌, arith}
use Rattle.cts_postorder.specs.BinaryTree.{labels}
use Rattle.cts_topo.specs.Topology.{is_before, is_wide, turned, left_part, right_part, AddsTree}
use Rattle.cts_topo.proofs.Shuffles.{Shuffled, length-Shuffled}
use Rattle.cts_topo.proofs.Divisions.{division-Shuffled}
use Rattle.cts_topo.proofs.Divided.{divisible_turned, divided_one, divided_two, divided_pair}
use Rattle.cts_topo.proofs.Pivots.{not_turned, fewer_turned, fewer_halved, turns_left, map_ok}
use Rattle.cts_topo.proofs.divide.+add_tree.Goals as goal

pub returns-then-along-eq1-clause-nodes : goal.returns-then-along-eq1-clause-nodes
returns-then-along-eq1-clause-nodes t c limit fits =
    c.in_ok-push.ensures.items ∙ divided_one c.args.first _ _ _ c.if-along-eq1.true limit fits

pub add_tree-requires : goal.add_tree-requires
add_tree-requires t c =
    let pins = c.requires.divisible in
    let over : turned c.args.wide c.args.along.now ≡ true = sym c.is_turned.ensures ∙ c.if-is_turned.true in
    let less : turns_left (not c.args.wide) c.args.across.now < turns_left c.args.wide c.args.along.now =
    fewer_turned c.args.wide c.args.along.now c.args.across.now pins.same over in
    let long : length c.args.along.now ≡ length c.args.across.now = length-Shuffled pins.same in (
      omega (arith, less, c.decreases),
      (
        divisible_turned c.args.wide c.args.along.now c.args.across.now pins,
        (omega (arith, long, c.requires.spare), omega (arith, long, c.requires.room)),
      ),
    )

pub returns-then-is_turned-clause-count : goal.returns-then-is_turned-clause-count
returns-then-is_turned-clause-count t c =
    map_ok c.add_tree.result _ _ (λ h. omega (arith, h, length-Shuffled c.requires.divisible.same)) c.add_tree.ensures.count

pub returns-then-is_turned-clause-nodes : goal.returns-then-is_turned-clause-nodes
returns-then-is_turned-clause-nodes t c =
    let same = c.requires.divisible.same in
    map_ok c.add_tree.result _ _
    (λ h limit fits.
    h limit (omega (arith, fits, length-Shuffled same))
    ∙ ap (λ t. c.args.nodes.now.items ++ labels t)
    (sym (division-Shuffled limit (c.args.first + length c.args.nodes.now.items) c.args.along.now c.args.across.now same)))
    c.add_tree.ensures.nodes

pub returns-then-along-eq2-clause-nodes : goal.returns-then-along-eq2-clause-nodes
returns-then-along-eq2-clause-nodes t c =
    let pins = c.requires.divisible in
    let axis : is_wide c.args.along.now ≡ c.args.wide =
    not_turned c.args.wide c.args.along.now (sym c.is_turned.ensures ∙ c.if-is_turned.false) in
    map_ok c.push_two.result _ _
    (λ h limit fits.
    h
    ∙ divided_two c.args.first c.args.along.now c.args.nodes.now.items _ _ c.if-along-eq2.true pins.distinct
    (subst (λ w. IsSortedBy (is_before w) c.args.along.now) (sym axis) pins.sorted_along) limit fits)
    c.push_two.ensures

pub halve-half-requires-clause-axis : goal.halve-half-requires-clause-axis
halve-half-requires-clause-axis t c =
    not_turned c.args.wide c.args.along.now (sym c.is_turned.ensures ∙ c.if-is_turned.false)

pub split_at_mut-left_spare-requires : goal.split_at_mut-left_spare-requires
split_at_mut-left_spare-requires t c =
    omega (arith, length-Shuffled c.requires.divisible.same, c.halve-half.ensures.within.1)

pub add_tree-requires-2 : goal.add_tree-requires-2
add_tree-requires-2 t c =
    let half = c.halve-half.ensures in
    let along = c.split_at_mut-left_along.ensures in
    let across = c.split_at_mut-left_across.ensures in
    let less : turns_left c.args.wide c.split_at_mut-left_along.result.0.now < turns_left c.args.wide c.args.along.now =
    fewer_halved c.args.wide c.args.along.now _ (omega (arith, along.front_len, half.within.1)) in (
      omega (arith, less, c.decreases),
      (
        rw (along.front, across.front) half.halves.left,
        (
          omega (arith, c.split_at_mut-left_spare.ensures.front_len, along.front_len),
          omega (arith, along.front_len, half.within.1, c.requires.room),
        ),
      ),
    )

pub add_tree-requires-3 : goal.add_tree-requires-3
add_tree-requires-3 t c =
    let half = c.halve-half.ensures in
    let along = c.split_at_mut-left_along.ensures in
    let across = c.split_at_mut-left_across.ensures in
    let long : length c.args.along.now ≡ length c.args.across.now = length-Shuffled c.requires.divisible.same in
    let less : turns_left c.args.wide c.split_at_mut-left_along.result.1.now < turns_left c.args.wide c.args.along.now =
    fewer_halved c.args.wide c.args.along.now _ (omega (arith, along.back_len, half.within.0)) in (
      omega (arith, less, c.decreases),
      (
        rw (along.back, across.back) half.halves.right,
        (
          omega (arith, long, c.split_at_mut-left_spare.ensures.back_len, along.back_len),
          omega (arith, along.front_len, along.back_len, c.requires.room, c.in_ok-add_tree.ensures.count),
        ),
      ),
    )

pub returns-clause-nodes : goal.returns-clause-nodes
returns-clause-nodes t c =
    let half = c.halve-half.ensures in
    let along = c.split_at_mut-left_along.ensures in
    subst (AddsTree c.args.first c.args.along.now c.args.nodes.now.items) (sym c.in_ok-push-2.ensures.items)
    (divided_pair c.args.first c.args.along.now c.split_at_mut-left_along.result.0.now c.split_at_mut-left_along.result.1.now (omega arith)
    (subst (Shuffled (left_part c.args.along.now)) (sym along.front) half.halves.left_is)
    (subst (Shuffled (right_part c.args.along.now)) (sym along.back) half.halves.right_is)
    (omega (arith, along.front_len, half.within.0))
    (omega (arith, along.back_len, half.within.1))
    (omega (arith, along.front_len, along.back_len))
    c.args.nodes.now.items c.add_tree-2.new.nodes.items c.add_tree-3.new.nodes.items
    c.in_ok-add_tree.ensures.nodes c.in_ok-add_tree-2.ensures.nodes _ _
    (omega (arith, c.len.ensures, c.add_tree-2.new.nodes.ok.0, c.in_ok-add_tree.ensures.count, along.front_len, half.within.0))
    (omega (arith, c.len-2.ensures, c.add_tree-3.new.nodes.ok.0, c.in_ok-add_tree-2.ensures.count, along.back_len, half.within.1)))
