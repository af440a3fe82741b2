use Rattle.std.proofs.Common.{subst}
use Rattle.cts_embed.specs.PlacedTree.{IsPlacedTree}
use Rattle.cts_embed.proofs.PlacedFits.{placed_post_order}
use Rattle.cts_embed.proofs.embedding.embed_sites.Goals as goal

pub of-requires : goal.of-requires
of-requires c =
    placed_post_order c.args.instance.now c.args.shape.now c.in_ok-placed.placed.items
    (subst (λ nodes. IsPlacedTree c.args.instance.now nodes c.in_ok-placed.placed.items) c.nodes.ensures.nodes c.in_ok-placed.ensures.placed)
    c.requires.shape.post_order
