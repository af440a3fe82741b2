-- Both sorted lists have the pins of the sinks, so what is divided is the tree over these.
use Rattle.std.proofs.Common.{◌≡◌, ◌+◌, ◌*◌, true, false, length, IsSortedBy, sym, ap, subst, ◌∙◌, arith}
use Rattle.cts_topo.specs.Shape.{IsShapeOver}
use Rattle.cts_topo.specs.Topology.{is_before}
use Rattle.cts_topo.proofs.PinsFrom.{length-pins_from}
use Rattle.cts_topo.proofs.Shuffles.{length-Shuffled}
use Rattle.cts_topo.proofs.WholeAgain.{pins_of_sinks, both_orders, whole_of}
use Rattle.cts_topo.proofs.again.topology_again.Goals as goal

pub sorted_again-requires-clause-few : goal.sorted_again-requires-clause-few
sorted_again-requires-clause-few c =
    omega (arith, ap length c.in_ok-pins.ensures, length-pins_from 0 c.args.sinks.now, c.requires.few)

pub sorted_again-requires-2-clause-few : goal.sorted_again-requires-2-clause-few
sorted_again-requires-2-clause-few c =
    omega (arith, ap length c.in_ok-pins.ensures, length-pins_from 0 c.args.sinks.now, c.requires.few)

pub add_tree-requires-clause-divisible : goal.add_tree-requires-clause-divisible
add_tree-requires-clause-divisible c =
    both_orders c.args.sinks.now _ _ c.requires
    (pins_of_sinks _ _ _ _ _ c.in_ok-pins.ensures c.as_slice-3.ensures.value c.in_ok-by_x.ensures.same c.as_mut_slice.ensures.value)
    (subst (IsSortedBy (is_before true)) (sym c.as_mut_slice.ensures.value) c.in_ok-by_x.ensures.sorted)
    (pins_of_sinks _ _ _ _ _ c.in_ok-pins.ensures c.as_slice-5.ensures.value c.in_ok-by_y.ensures.same c.as_mut_slice-2.ensures.value)
    (subst (IsSortedBy (is_before false)) (sym c.as_mut_slice-2.ensures.value) c.in_ok-by_y.ensures.sorted)

pub add_tree-requires-clause-spare : goal.add_tree-requires-clause-spare
add_tree-requires-clause-spare c =
    let items = pins_of_sinks _ _ _ _ _ c.in_ok-pins.ensures c.as_slice-3.ensures.value c.in_ok-by_x.ensures.same c.as_mut_slice.ensures.value in
    ap length c.as_mut_slice-3.ensures.value ∙ c.in_ok-spare.ensures ∙ ap length c.in_ok-pins.ensures ∙ length-Shuffled items

pub add_tree-requires-clause-room : goal.add_tree-requires-clause-room
add_tree-requires-clause-room c =
    let items = pins_of_sinks _ _ _ _ _ c.in_ok-pins.ensures c.as_slice-3.ensures.value c.in_ok-by_x.ensures.same c.as_mut_slice.ensures.value in
    omega (arith, length-Shuffled items, length-pins_from 0 c.args.sinks.now, c.requires.few, c.in_ok-nodes.ensures.len)

pub of-requires : goal.of-requires
of-requires c =
    let items = pins_of_sinks _ _ _ _ _ c.in_ok-pins.ensures c.as_slice-3.ensures.value c.in_ok-by_x.ensures.same c.as_mut_slice.ensures.value in
    (whole_of c.args.sinks.now _ _ _ c.requires items c.in_ok-nodes.ensures.items c.in_ok-add_tree.ensures.nodes).post_order

pub returns-clause-definition : goal.returns-clause-definition
returns-clause-definition c =
    let items = pins_of_sinks _ _ _ _ _ c.in_ok-pins.ensures c.as_slice-3.ensures.value c.in_ok-by_x.ensures.same c.as_mut_slice.ensures.value in
    let whole = whole_of c.args.sinks.now _ _ _ c.requires items c.in_ok-nodes.ensures.items c.in_ok-add_tree.ensures.nodes in
    c.of.ensures ∙ whole.shape

pub returns-clause-each_sink_once : goal.returns-clause-each_sink_once
returns-clause-each_sink_once c =
    let items = pins_of_sinks _ _ _ _ _ c.in_ok-pins.ensures c.as_slice-3.ensures.value c.in_ok-by_x.ensures.same c.as_mut_slice.ensures.value in
    let whole = whole_of c.args.sinks.now _ _ _ c.requires items c.in_ok-nodes.ensures.items c.in_ok-add_tree.ensures.nodes in
    subst (IsShapeOver (length c.args.sinks.now)) (sym c.of.ensures) whole.over

pub returns-clause-count : goal.returns-clause-count
returns-clause-count c =
    let items = pins_of_sinks _ _ _ _ _ c.in_ok-pins.ensures c.as_slice-3.ensures.value c.in_ok-by_x.ensures.same c.as_mut_slice.ensures.value in
    let whole = whole_of c.args.sinks.now _ _ _ c.requires items c.in_ok-nodes.ensures.items c.in_ok-add_tree.ensures.nodes in
    subst (λ ns. length ns + 1 ≡ 2 * length c.args.sinks.now) (sym c.of.ensures) whole.count
