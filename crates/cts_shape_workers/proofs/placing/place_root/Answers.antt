use Rattle.std.proofs.Common.{arith}
use Rattle.cts_embed.proofs.StretchIds.{id_at, ids_long}
use Rattle.cts_shape_workers.proofs.placing.place_root.Goals as goal

pub bounds-work-part : goal.bounds-work-part
bounds-work-part c =
    omega (
      arith,
      ids_long c.args.work.now.instance.now.sinks c.args.work.now.nodes.now c.args.work.now.ids.now c.requires.prepared.ids,
      c.requires.placeable.ready.within,
    )

pub place_known-requires-clause-id : goal.place_known-requires-clause-id
place_known-requires-clause-id c = λ e.
    id_at c.args.work.now.instance.now.sinks c.args.work.now.nodes.now c.args.work.now.ids.now c.args.part.now.root e 0 c.requires.prepared.ids
    c.requires.placeable.ready.within
