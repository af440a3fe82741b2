-- All nodes are the tree of the root, whose route starts at the source.
use Rattle.std.proofs.Common.{◌-◌, length, arith}
use Rattle.std.proofs.lemmas.Result.{IfOk-weaker}
use Rattle.cts_topo.proofs.Counts.{length-shape}
use Rattle.cts_embed.proofs.PlacedFits.{placed_fits}
use Rattle.cts_embed.proofs.Stretches.{all_placed, all_ends, err_weaker}
use Rattle.cts_embed.proofs.AllNodes.{last_next, whole_stretch, whole_ready}
use Rattle.cts_shape_workers.proofs.places.place_all.Goals as goal

pub overflow_sub-whole : goal.overflow_sub-whole
overflow_sub-whole g c = omega (arith, last_next c.args.nodes.now c.requires.shape.post_order)

pub overflow_cast-whole : goal.overflow_cast-whole
overflow_cast-whole g c =
    omega (
      arith,
      length-shape (length c.args.instance.now.sinks) c.args.nodes.now c.requires.shape,
      c.in_ok-ground.ensures.free.valid.sink_count,
    )

pub by_halves-requires-clause-ready : goal.by_halves-requires-clause-ready
by_halves-requires-clause-ready g c κs within = record {
  prepared = record { ground = c.in_ok-ground.ensures; ids = c.requires.ids };
  placeable = record {
    ready = whole_ready c.args.nodes.now c.requires.shape.post_order c.args.instance.now c.args.sites.now c.source_place.result
        c.requires.shape c.requires.sites c.source_place.ensures.place;
    stretch = whole_stretch c.args.nodes.now c.requires.shape.post_order;
  };
  places = omega (arith, last_next c.args.nodes.now c.requires.shape.post_order, c.requires.room);
}

pub returns-clause-placed : goal.returns-clause-placed
returns-clause-placed g c =
    IfOk-weaker c.by_halves.result _ _
    (λ x are. all_placed c.args.instance.now c.args.nodes.now c.requires.shape.post_order (length c.args.nodes.now - 1)
    (last_next c.args.nodes.now c.requires.shape.post_order) _ are)
    c.by_halves.ensures.placed

pub returns-clause-fits : goal.returns-clause-fits
returns-clause-fits g c =
    IfOk-weaker c.by_halves.result _ _
    (λ x are. placed_fits c.args.instance.now c.args.nodes.now _
    (all_placed c.args.instance.now c.args.nodes.now c.requires.shape.post_order (length c.args.nodes.now - 1)
    (last_next c.args.nodes.now c.requires.shape.post_order) _ are)
    c.source_place.ensures.valid c.requires.shape)
    c.by_halves.ensures.placed

pub returns-clause-ends : goal.returns-clause-ends
returns-clause-ends g c =
    err_weaker c.by_halves.result _ _
    (λ end ends. all_ends c.args.instance.now c.args.nodes.now c.requires.shape.post_order (length c.args.nodes.now - 1)
    (last_next c.args.nodes.now c.requires.shape.post_order) end ends)
    c.by_halves.ensures.ends
