-- Both sorted lists have the pins of the sinks, so what is divided is the tree over these.
use Rattle.std.proofs.Common.{◌≡◌, ◌+◌, ◌*◌, true, false, map, length, IsPermutation, IsSortedBy, sym, ap, subst, ◌∙◌, arith}
use Rattle.std.proofs.lemmas.Result.{IfOk-at_ok}
use Rattle.cts_postorder.specs.PostOrder.{IsPostOrder}
use Rattle.cts_topo.specs.Shape.{children, IsShapeOver}
use Rattle.cts_topo.specs.Topology.{is_before, pins_from, shape_of}
use Rattle.cts_topo.proofs.PinsFrom.{length-pins_from}
use Rattle.cts_topo.proofs.Shuffles.{Shuffled}
use Rattle.cts_topo.proofs.Whole.{shuffled_is_shape, shape_is_post_order, shape_is_over, length-shape_of}
use Rattle.cts_shape_workers.proofs.Sinks.{sorted_pins, can_begin}
use Rattle.cts_shape_workers.proofs.topology.topology_by.Goals as goal

pub sorted_both-by_x-requires : goal.sorted_both-by_x-requires
sorted_both-by_x-requires g c =
    omega (arith, ap length (c.as_slice.ensures.value ∙ c.in_ok-spare.ensures), length-pins_from 0 c.args.sinks.now, c.requires.few)

pub add_tree_by-requires-clause-ready : goal.add_tree_by-requires-clause-ready
add_tree_by-requires-clause-ready g c κs within =
    let pins = c.as_slice.ensures.value ∙ c.in_ok-spare.ensures in
    let sorted = c.sorted_both-by_x.ensures in
    can_begin c.args.sinks.now _ _ _ _ c.requires
    (sorted_pins _ _ _ _ pins (IfOk-at_ok (λ v. IsPermutation c.as_slice.result.now v.items) c.in_ok-by_x.was sorted.same_x)
    c.as_mut_slice.ensures.value)
    (subst (IsSortedBy (is_before true)) (sym c.as_mut_slice.ensures.value)
    (IfOk-at_ok (λ v. IsSortedBy (is_before true) v.items) c.in_ok-by_x.was sorted.sorted_x))
    (sorted_pins _ _ _ _ pins (IfOk-at_ok (λ v. IsPermutation c.as_slice.result.now v.items) c.in_ok-by_y.was sorted.same_y)
    c.as_mut_slice-2.ensures.value)
    (subst (IsSortedBy (is_before false)) (sym c.as_mut_slice-2.ensures.value)
    (IfOk-at_ok (λ v. IsSortedBy (is_before false) v.items) c.in_ok-by_y.was sorted.sorted_y))
    (c.as_mut_slice-3.ensures.value ∙ c.in_ok-spare.ensures)
    c.in_ok-nodes.ensures.items

pub of-requires : goal.of-requires
of-requires g c =
    let items : Shuffled (pins_from 0 c.args.sinks.now) c.as_mut_slice.result.now =
    sorted_pins _ _ _ _ (c.as_slice.ensures.value ∙ c.in_ok-spare.ensures)
    (IfOk-at_ok (λ v. IsPermutation c.as_slice.result.now v.items) c.in_ok-by_x.was c.sorted_both-by_x.ensures.same_x)
    c.as_mut_slice.ensures.value in
    subst (λ ns. IsPostOrder (map children ns))
    (sym (shuffled_is_shape c.args.sinks.now _ _ _ items c.in_ok-nodes.ensures.items c.in_ok-nodes-2.ensures.tree))
    (shape_is_post_order c.args.sinks.now c.requires)

pub returns-clause-definition : goal.returns-clause-definition
returns-clause-definition g c =
    let items : Shuffled (pins_from 0 c.args.sinks.now) c.as_mut_slice.result.now =
    sorted_pins _ _ _ _ (c.as_slice.ensures.value ∙ c.in_ok-spare.ensures)
    (IfOk-at_ok (λ v. IsPermutation c.as_slice.result.now v.items) c.in_ok-by_x.was c.sorted_both-by_x.ensures.same_x)
    c.as_mut_slice.ensures.value in
    c.of.ensures ∙ shuffled_is_shape c.args.sinks.now _ _ _ items c.in_ok-nodes.ensures.items c.in_ok-nodes-2.ensures.tree

pub returns-clause-each_sink_once : goal.returns-clause-each_sink_once
returns-clause-each_sink_once g c =
    let items : Shuffled (pins_from 0 c.args.sinks.now) c.as_mut_slice.result.now =
    sorted_pins _ _ _ _ (c.as_slice.ensures.value ∙ c.in_ok-spare.ensures)
    (IfOk-at_ok (λ v. IsPermutation c.as_slice.result.now v.items) c.in_ok-by_x.was c.sorted_both-by_x.ensures.same_x)
    c.as_mut_slice.ensures.value in
    let is : c.of.result ≡ shape_of c.args.sinks.now =
    c.of.ensures ∙ shuffled_is_shape c.args.sinks.now _ _ _ items c.in_ok-nodes.ensures.items c.in_ok-nodes-2.ensures.tree in
    subst (IsShapeOver (length c.args.sinks.now)) (sym is) (shape_is_over c.args.sinks.now c.requires)

pub returns-clause-count : goal.returns-clause-count
returns-clause-count g c =
    let items : Shuffled (pins_from 0 c.args.sinks.now) c.as_mut_slice.result.now =
    sorted_pins _ _ _ _ (c.as_slice.ensures.value ∙ c.in_ok-spare.ensures)
    (IfOk-at_ok (λ v. IsPermutation c.as_slice.result.now v.items) c.in_ok-by_x.was c.sorted_both-by_x.ensures.same_x)
    c.as_mut_slice.ensures.value in
    let is : c.of.result ≡ shape_of c.args.sinks.now =
    c.of.ensures ∙ shuffled_is_shape c.args.sinks.now _ _ _ items c.in_ok-nodes.ensures.items c.in_ok-nodes-2.ensures.tree in
    subst (λ ns. length ns + 1 ≡ 2 * length c.args.sinks.now) (sym is) (length-shape_of c.args.sinks.now c.requires)
