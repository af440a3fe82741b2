use Rattle.std.proofs.Common.{length}
use Rattle.cts_topo.specs.declared.shape.ShapeNode.TheVariants.{Leaf}
use Rattle.cts_topo.proofs.Counts.{leaf_within}
use Rattle.cts_embed.proofs.place.place_at.Goals as goal

pub id_of-id-requires : goal.id_of-id-requires
id_of-id-requires c = λ sink is.
    leaf_within (length c.args.instance.now.sinks) c.args.nodes.now c.requires.ready.shape c.args.number (Leaf 0) sink
    c.requires.ready.within is
