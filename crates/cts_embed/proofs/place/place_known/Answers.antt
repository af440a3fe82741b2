use Rattle.std.proofs.Common.{ap, ◌∙◌, Err, arith}
use Rattle.cts_topo.specs.declared.shape.ShapeNode.TheVariants.{Leaf}
use Rattle.cts_embed.proofs.SitesOfPlans.{sites_long}
use Rattle.cts_embed.proofs.Stretches.{at_site, ready_in_range, placed_here, cut_here}
use Rattle.cts_embed.proofs.place.place_known.Goals as goal

pub bounds-sites-number : goal.bounds-sites-number
bounds-sites-number c =
    omega (
      arith,
      c.requires.ready.within,
      sites_long c.args.instance.now c.args.nodes.now c.args.sites.now c.requires.ready.are_sites,
    )

pub place_node-requires-clause-region : goal.place_node-requires-clause-region
place_node-requires-clause-region c =
    (at_site c.args.instance.now c.args.nodes.now c.args.sites.now c.args.number c.args.from c.requires.ready
    c.index-sites-number.result c.index-sites-number.is).in_range c.requires.ground.free.valid

pub place_node-requires-clause-from : goal.place_node-requires-clause-from
place_node-requires-clause-from c =
    ready_in_range c.args.instance.now c.args.nodes.now c.args.sites.now c.args.number c.args.from c.requires.ready
    c.requires.ground.free.valid

pub returns-in-Ok-clause-placed : goal.returns-in-Ok-clause-placed
returns-in-Ok-clause-placed c =
    let at = at_site c.args.instance.now c.args.nodes.now c.args.sites.now c.args.number c.args.from c.requires.ready
    c.index-sites-number.result c.index-sites-number.is in
    placed_here c.args.instance.now c.args.nodes.now c.args.sites.now c.args.number c.args.from c.requires.ready (Leaf 0)
    c.index-sites-number.result c.index-sites-number.is c.in-Ok.placed
    (c.in-Ok.ensures.placed c.args.instance.now at.node at.is_site c.requires.ground (c.requires.id _) (at.is_leaf (Leaf 0)))

pub returns-in-Err-Cut-clause-ends : goal.returns-in-Err-Cut-clause-ends
returns-in-Err-Cut-clause-ends c =
    let at = at_site c.args.instance.now c.args.nodes.now c.args.sites.now c.args.number c.args.from c.requires.ready
    c.index-sites-number.result c.index-sites-number.is in
    cut_here c.args.instance.now c.args.nodes.now c.args.sites.now c.args.number c.args.from c.requires.ready (Leaf 0)
    c.index-sites-number.result c.index-sites-number.is
    (c.place_node.ensures.cut (c.in-Err-Cut.is ∙ ap Err c.in-Err-Cut.field-0-is) c.args.instance.now at.node at.is_site c.requires.ground
    (at.is_leaf (Leaf 0)))
