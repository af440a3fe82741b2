-- Both sorted lists have the pins of the sinks, so what is divided is the tree over these.
use Rattle.std.proofs.Common.{◌≡◌, ◌+◌, ◌*◌, true, false, map, length, IsSortedBy, sym, ap, subst, ◌∙◌, arith}
use Rattle.cts_postorder.specs.PostOrder.{IsPostOrder}
use Rattle.cts_topo.specs.Shape.{children, IsShapeOver}
use Rattle.cts_topo.specs.Topology.{is_before, pins_from}
use Rattle.cts_topo.proofs.PinsFrom.{length-pins_from}
use Rattle.cts_topo.proofs.Shuffles.{Shuffled, shuffled_of, length-Shuffled}
use Rattle.cts_topo.proofs.Whole.{divisible_pins, shuffled_is_shape, shape_is_post_order, shape_is_over, length-shape_of}
use Rattle.cts_topo.proofs.divide.topology.Goals as goal

pub sorted_along-requires : goal.sorted_along-requires
sorted_along-requires c =
    omega (arith, ap length (c.as_slice.ensures.value ∙ c.in_ok-spare.ensures), length-pins_from 0 c.args.sinks.now, c.requires.few)

pub sorted_along-requires-2 : goal.sorted_along-requires-2
sorted_along-requires-2 c =
    let items = shuffled_of _ _ c.in_ok-by_x.ensures.permutation in
    omega (
      arith,
      ap length c.as_slice-2.ensures.value,
      length-Shuffled items,
      ap length (c.as_slice.ensures.value ∙ c.in_ok-spare.ensures),
      length-pins_from 0 c.args.sinks.now,
      c.requires.few,
    )

pub add_tree-requires-clause-divisible : goal.add_tree-requires-clause-divisible
add_tree-requires-clause-divisible c =
    let items : Shuffled (pins_from 0 c.args.sinks.now) c.as_mut_slice.result.now =
    subst (Shuffled (pins_from 0 c.args.sinks.now)) (sym c.as_mut_slice.ensures.value)
    (subst (λ zs. Shuffled zs c.in_ok-by_x.by_x.items) (c.as_slice.ensures.value ∙ c.in_ok-spare.ensures)
    (shuffled_of _ _ c.in_ok-by_x.ensures.permutation)) in
    divisible_pins c.args.sinks.now _ _ c.requires items
    (subst (IsSortedBy (is_before true)) (sym c.as_mut_slice.ensures.value) c.in_ok-by_x.ensures.sorted)
    (subst (Shuffled c.as_mut_slice.result.now) (sym c.as_mut_slice-2.ensures.value)
    (subst (λ zs. Shuffled zs c.in_ok-by_y.by_y.items) (c.as_slice-2.ensures.value ∙ sym c.as_mut_slice.ensures.value)
    (shuffled_of _ _ c.in_ok-by_y.ensures.permutation)))
    (subst (IsSortedBy (is_before false)) (sym c.as_mut_slice-2.ensures.value) c.in_ok-by_y.ensures.sorted)

pub add_tree-requires-clause-spare : goal.add_tree-requires-clause-spare
add_tree-requires-clause-spare c =
    let items : Shuffled (pins_from 0 c.args.sinks.now) c.as_mut_slice.result.now =
    subst (Shuffled (pins_from 0 c.args.sinks.now)) (sym c.as_mut_slice.ensures.value)
    (subst (λ zs. Shuffled zs c.in_ok-by_x.by_x.items) (c.as_slice.ensures.value ∙ c.in_ok-spare.ensures)
    (shuffled_of _ _ c.in_ok-by_x.ensures.permutation)) in
    ap length (c.as_mut_slice-3.ensures.value ∙ c.in_ok-spare.ensures) ∙ length-Shuffled items

pub add_tree-requires-clause-room : goal.add_tree-requires-clause-room
add_tree-requires-clause-room c =
    let items : Shuffled (pins_from 0 c.args.sinks.now) c.as_mut_slice.result.now =
    subst (Shuffled (pins_from 0 c.args.sinks.now)) (sym c.as_mut_slice.ensures.value)
    (subst (λ zs. Shuffled zs c.in_ok-by_x.by_x.items) (c.as_slice.ensures.value ∙ c.in_ok-spare.ensures)
    (shuffled_of _ _ c.in_ok-by_x.ensures.permutation)) in
    omega (arith, length-Shuffled items, length-pins_from 0 c.args.sinks.now, c.requires.few, c.in_ok-nodes.ensures.len)

pub of-requires : goal.of-requires
of-requires c =
    let items : Shuffled (pins_from 0 c.args.sinks.now) c.as_mut_slice.result.now =
    subst (Shuffled (pins_from 0 c.args.sinks.now)) (sym c.as_mut_slice.ensures.value)
    (subst (λ zs. Shuffled zs c.in_ok-by_x.by_x.items) (c.as_slice.ensures.value ∙ c.in_ok-spare.ensures)
    (shuffled_of _ _ c.in_ok-by_x.ensures.permutation)) in
    subst (λ ns. IsPostOrder (map children ns))
    (sym (shuffled_is_shape _ _ _ _ items c.in_ok-nodes.ensures.items c.in_ok-add_tree.ensures.nodes))
    (shape_is_post_order _ c.requires)

pub returns-clause-definition : goal.returns-clause-definition
returns-clause-definition c =
    let items : Shuffled (pins_from 0 c.args.sinks.now) c.as_mut_slice.result.now =
    subst (Shuffled (pins_from 0 c.args.sinks.now)) (sym c.as_mut_slice.ensures.value)
    (subst (λ zs. Shuffled zs c.in_ok-by_x.by_x.items) (c.as_slice.ensures.value ∙ c.in_ok-spare.ensures)
    (shuffled_of _ _ c.in_ok-by_x.ensures.permutation)) in
    c.of.ensures ∙ shuffled_is_shape _ _ _ _ items c.in_ok-nodes.ensures.items c.in_ok-add_tree.ensures.nodes

pub returns-clause-each_sink_once : goal.returns-clause-each_sink_once
returns-clause-each_sink_once c =
    let items : Shuffled (pins_from 0 c.args.sinks.now) c.as_mut_slice.result.now =
    subst (Shuffled (pins_from 0 c.args.sinks.now)) (sym c.as_mut_slice.ensures.value)
    (subst (λ zs. Shuffled zs c.in_ok-by_x.by_x.items) (c.as_slice.ensures.value ∙ c.in_ok-spare.ensures)
    (shuffled_of _ _ c.in_ok-by_x.ensures.permutation)) in
    let is = c.of.ensures ∙ shuffled_is_shape _ _ _ _ items c.in_ok-nodes.ensures.items c.in_ok-add_tree.ensures.nodes in
    subst (IsShapeOver (length c.args.sinks.now)) (sym is) (shape_is_over _ c.requires)

pub returns-clause-count : goal.returns-clause-count
returns-clause-count c =
    let items : Shuffled (pins_from 0 c.args.sinks.now) c.as_mut_slice.result.now =
    subst (Shuffled (pins_from 0 c.args.sinks.now)) (sym c.as_mut_slice.ensures.value)
    (subst (λ zs. Shuffled zs c.in_ok-by_x.by_x.items) (c.as_slice.ensures.value ∙ c.in_ok-spare.ensures)
    (shuffled_of _ _ c.in_ok-by_x.ensures.permutation)) in
    let is = c.of.ensures ∙ shuffled_is_shape _ _ _ _ items c.in_ok-nodes.ensures.items c.in_ok-add_tree.ensures.nodes in
    subst (λ ns. length ns + 1 ≡ 2 * length c.args.sinks.now) (sym is) (length-shape_of _ c.requires)
