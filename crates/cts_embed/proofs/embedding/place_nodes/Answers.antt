use Rattle.std.proofs.Common.{◌≡◌, false, true, List, [], ◌∷◌, ◌++◌, Result, Ok, ◌-◌, Err, length, drop, get_or, arith, sym, ap, subst, ◌∙◌, take_all}
use Rattle.std.specs.List.{AllZip}
use Rattle.cts_postorder.specs.Occurrence.{occurrences_of}
use Rattle.cts_topo.specs.declared.shape.ShapeNode.{ShapeNode}
use Rattle.cts_topo.specs.declared.shape.ShapeNode.TheVariants.{Leaf}
use Rattle.cts_topo.specs.Shape.{children, IsShapeOver}
use Rattle.cts_units.specs.declared.params.Sink.{Sink}
use Rattle.std.specs.Result.{IsErrAnd, IfErr}
use Rattle.cts_instance.specs.declared.parts.Parts.{Parts}
use Rattle.cts_tree.specs.declared.nodes.TreeNode.{TreeNode}
use Rattle.cts_embed.specs.declared.end.EmbedEnd.{EmbedEnd}
use Rattle.cts_embed.specs.declared.end.EmbedEnd.TheVariants.{NoMemory}
use Rattle.cts_embed.specs.Ends.{EmbedEnds}
use Rattle.cts_embed.specs.Leaves.{ids_of_leaves}
use Rattle.cts_embed.specs.PlacedTree.{IsPlacedFrom, IsPlacedNode}
use Rattle.cts_embed.proofs.Starts.{starts_begin, some_start, from_in_range, placed_more, starts_at_leaf, starts_at_pair, all_placed, none_placed}
use Rattle.cts_embed.proofs.SitesOfPlans.{sites_long, finished_at}
use Rattle.cts_embed.proofs.LeafIds.{own_left, ids_left, id_taken}
use Rattle.cts_topo.proofs.Counts.{length-shape}
use Rattle.cts_embed.proofs.Cuts.{greatest_cut}
use Rattle.cts_embed.proofs.PlacedFits.{placed_fits}
use Rattle.cts_embed.proofs.embedding.place_nodes.Goals as goal

pub ids_of_leaves-requires : goal.ids_of_leaves-requires
ids_of_leaves-requires c = record {
  shape = subst (λ (sinks : List Sink). IsShapeOver (length sinks) c.args.nodes.now) (sym c.sinks.ensures.part) c.requires.shape;
}

pub loop-number-init : goal.loop-number-init
loop-number-init c = record {
  ids = c.in_ok-ids.ensures ∙ ap (λ (sinks : List Sink). ids_of_leaves sinks c.args.nodes.now) c.sinks.ensures.part
      ∙ ap (ids_of_leaves c.args.instance.now.sinks) (sym (take_all (length c.args.nodes.now) c.args.nodes.now (omega arith)));
  starts_are = starts_begin c.args.instance.now c.args.nodes.now c.requires.shape.post_order c.push.new.self.items c.source_place.result
      c.source_place.ensures.place (c.in_ok-push.ensures.items ∙ ap (λ starts. starts ++ c.source_place.result ∷ []) c.new-starts.ensures.items);
  placed = none_placed c.args.instance.now c.args.nodes.now c.requires.shape.post_order c.in_ok-placed.placed.items c.in_ok-placed.ensures.items;
}

pub unreachable-requires : goal.unreachable-requires
unreachable-requires c =
    let none : false ≡ true =
    c.in_default.ensures.variant.1
    (omega (
      arith,
      c.loop-number.starts.ok.0,
      some_start c.args.instance.now c.args.nodes.now c.requires.shape.post_order c.loop-number.number c.loop-number-test.true c.loop-number.auto.number
          c.loop-number.starts.items c.loop-number.invariant.starts_are,
    )) in
    cc

pub take_id-id-requires : goal.take_id-id-requires
take_id-id-requires c = record {
  own = own_left c.args.instance.now.sinks c.args.nodes.now c.requires.shape c.loop-number.number c.loop-number-test.true c.loop-number.auto.number
      (Leaf 0) c.loop-number.ids.items c.loop-number.invariant.ids;
}

pub bounds-sites-number : goal.bounds-sites-number
bounds-sites-number c =
    omega (
      arith,
      c.loop-number-test.true,
      c.loop-number.auto.number,
      sites_long c.args.instance.now c.args.nodes.now c.args.sites.now c.requires.sites,
    )

pub place_node-requires-clause-region : goal.place_node-requires-clause-region
place_node-requires-clause-region c =
    (finished_at c.args.instance.now c.args.nodes.now c.args.sites.now c.requires.sites (c.loop-number.number - 1)
    (omega (arith, c.loop-number-test.true, c.loop-number.auto.number)) c.index-sites-number.result c.index-sites-number.is).in_range c.source_place.ensures.valid

pub place_node-requires-clause-from : goal.place_node-requires-clause-from
place_node-requires-clause-from c =
    from_in_range c.args.instance.now c.args.nodes.now c.requires.shape.post_order c.loop-number.number c.loop-number-test.true c.loop-number.auto.number
    c.loop-number.starts.items c.loop-number.invariant.starts_are c.pop.new.self.items c.in-Some.from c.in-Some.ensures.items c.source_place.ensures.valid

pub overflow_cast-result : goal.overflow_cast-result
overflow_cast-result c =
    omega (
      arith,
      length-shape (length c.args.instance.now.sinks) c.args.nodes.now c.requires.shape,
      c.source_place.ensures.valid.sink_count,
      c.loop-number.auto.number,
    )

pub returns-in-Err-Cut-clause-ends : goal.returns-in-Err-Cut-clause-ends
returns-in-Err-Cut-clause-ends c =
    let at = finished_at c.args.instance.now c.args.nodes.now c.args.sites.now c.requires.sites (c.loop-number.number - 1)
    (omega (arith, c.loop-number-test.true, c.loop-number.auto.number)) c.index-sites-number.result c.index-sites-number.is in
    greatest_cut c.args.instance.now c.args.nodes.now c.requires.shape.post_order c.loop-number.number c.loop-number-test.true c.loop-number.auto.number
    c.loop-number.starts.items c.loop-number.invariant.starts_are c.pop.new.self.items c.in-Some.from c.in-Some.ensures.items (c.requires.sites.0) (c.requires.sites.1) (Leaf 0) at.node at.is_node c.loop-number.placed.items c.loop-number.invariant.placed
    (c.place_node.ensures.cut (c.in-Err-Cut.is ∙ ap Err c.in-Err-Cut.field-0-is) c.args.instance.now at.node at.is_site c.requires.ground (at.is_leaf (Leaf 0)))

pub loop-number-preserved-in-Continue-branch-6 : goal.loop-number-preserved-in-Continue-branch-6
loop-number-preserved-in-Continue-branch-6 c =
    let at = finished_at c.args.instance.now c.args.nodes.now c.args.sites.now c.requires.sites (c.loop-number.number - 1)
    (omega (arith, c.loop-number-test.true, c.loop-number.auto.number)) c.index-sites-number.result c.index-sites-number.is in
    let placed : IsPlacedFrom c.args.instance.now (get_or c.args.nodes.now (c.loop-number.number - 1) (Leaf 0)) at.node c.in-Some.from c.in-Ok.node =
    c.in-Ok.ensures.placed c.args.instance.now at.node at.is_site c.requires.ground (id_taken c.args.instance.now.sinks c.args.nodes.now c.requires.shape c.loop-number.number c.loop-number-test.true c.loop-number.auto.number
    (Leaf 0) c.loop-number.ids.items c.loop-number.invariant.ids c.take_id-id.new.ids.items c.take_id-id.result c.take_id-id.ensures) (at.is_leaf (Leaf 0)) in
    record {
      ids = ids_left c.args.instance.now.sinks c.args.nodes.now c.requires.shape c.loop-number.number c.loop-number-test.true c.loop-number.auto.number
          (Leaf 0) c.loop-number.ids.items c.loop-number.invariant.ids c.take_id-id.new.ids.items c.take_id-id.result c.take_id-id.ensures;
      starts_are = starts_at_pair c.args.instance.now c.args.nodes.now c.requires.shape.post_order c.loop-number.number c.loop-number-test.true c.loop-number.auto.number
          c.loop-number.starts.items c.loop-number.invariant.starts_are c.pop.new.self.items c.in-Some.from c.in-Some.ensures.items (c.requires.sites.0) (c.requires.sites.1) (Leaf 0) at.node at.is_node c.in-Ok.node placed
          c.in-Pair.left c.in-Pair.right c.in-Pair.is c.push-in-Pair.new.self.items c.push-in-Pair-2.new.self.items
          c.in_ok-push-2.ensures.items c.in_ok-push-3.ensures.items;
      placed = subst (AllZip (IsPlacedNode c.args.instance.now) (drop (c.loop-number.number - 1) (occurrences_of children c.args.nodes.now)))
          (sym {A = List TreeNode} c.in_ok-push_front.ensures.items)
          (placed_more c.args.instance.now c.args.nodes.now c.requires.shape.post_order c.loop-number.number c.loop-number-test.true c.loop-number.auto.number
          c.loop-number.starts.items c.loop-number.invariant.starts_are c.pop.new.self.items c.in-Some.from c.in-Some.ensures.items (c.requires.sites.0) (c.requires.sites.1) (Leaf 0) at.node at.is_node c.in-Ok.node placed c.loop-number.placed.items c.loop-number.invariant.placed);
    }

pub loop-number-preserved : goal.loop-number-preserved
loop-number-preserved c =
    let at = finished_at c.args.instance.now c.args.nodes.now c.args.sites.now c.requires.sites (c.loop-number.number - 1)
    (omega (arith, c.loop-number-test.true, c.loop-number.auto.number)) c.index-sites-number.result c.index-sites-number.is in
    let placed : IsPlacedFrom c.args.instance.now (get_or c.args.nodes.now (c.loop-number.number - 1) (Leaf 0)) at.node c.in-Some.from c.in-Ok.node =
    c.in-Ok.ensures.placed c.args.instance.now at.node at.is_site c.requires.ground (id_taken c.args.instance.now.sinks c.args.nodes.now c.requires.shape c.loop-number.number c.loop-number-test.true c.loop-number.auto.number
    (Leaf 0) c.loop-number.ids.items c.loop-number.invariant.ids c.take_id-id.new.ids.items c.take_id-id.result c.take_id-id.ensures) (at.is_leaf (Leaf 0)) in
    record {
      ids = ids_left c.args.instance.now.sinks c.args.nodes.now c.requires.shape c.loop-number.number c.loop-number-test.true c.loop-number.auto.number
          (Leaf 0) c.loop-number.ids.items c.loop-number.invariant.ids c.take_id-id.new.ids.items c.take_id-id.result c.take_id-id.ensures;
      starts_are = starts_at_leaf c.args.instance.now c.args.nodes.now c.requires.shape.post_order c.loop-number.number c.loop-number-test.true c.loop-number.auto.number
          c.loop-number.starts.items c.loop-number.invariant.starts_are c.pop.new.self.items c.in-Some.from c.in-Some.ensures.items (Leaf 0) c.in_default-nodes.field-0 c.in_default-nodes.is;
      placed = subst (AllZip (IsPlacedNode c.args.instance.now) (drop (c.loop-number.number - 1) (occurrences_of children c.args.nodes.now)))
          (sym {A = List TreeNode} c.in_ok-push_front.ensures.items)
          (placed_more c.args.instance.now c.args.nodes.now c.requires.shape.post_order c.loop-number.number c.loop-number-test.true c.loop-number.auto.number
          c.loop-number.starts.items c.loop-number.invariant.starts_are c.pop.new.self.items c.in-Some.from c.in-Some.ensures.items (c.requires.sites.0) (c.requires.sites.1) (Leaf 0) at.node at.is_node c.in-Ok.node placed c.loop-number.placed.items c.loop-number.invariant.placed);
    }

pub returns-clause-placed : goal.returns-clause-placed
returns-clause-placed c =
    subst (AllZip (IsPlacedNode c.args.instance.now) (occurrences_of children c.args.nodes.now)) (sym (c.into.ensures.0))
    (all_placed c.args.instance.now c.args.nodes.now c.loop-number.placed.items c.loop-number.number (omega (arith, c.loop-number-test.false))
    c.loop-number.invariant.placed)

pub returns-clause-fits : goal.returns-clause-fits
returns-clause-fits c =
    placed_fits c.args.instance.now c.args.nodes.now c.into.result.items (returns-clause-placed c)
    c.source_place.ensures.valid c.requires.shape

-- want of memory has no other cause
out_of_memory : {X : Type 0} (parts : Parts) (nodes : List ShapeNode) (r : Result X EmbedEnd) → IsErrAnd r (λ e. e ≡ NoMemory)
    → IfErr r (EmbedEnds parts nodes)
out_of_memory parts nodes (Ok x) is = tt
out_of_memory parts nodes (Err e) is = subst (EmbedEnds parts nodes) (sym is) tt

pub returns-in_err-push_front-clause-ends : goal.returns-in_err-push_front-clause-ends
returns-in_err-push_front-clause-ends c =
    out_of_memory c.args.instance.now c.args.nodes.now c.from_residual-in_err-push_front.result (c.from_residual-in_err-push_front.ensures.1)

pub returns-in_err-push-3-clause-ends : goal.returns-in_err-push-3-clause-ends
returns-in_err-push-3-clause-ends c =
    out_of_memory c.args.instance.now c.args.nodes.now c.from_residual-in_err-push-3.result (c.from_residual-in_err-push-3.ensures.1)
