use Rattle.std.proofs.Common.{rules, ◌+◌, ◌<◌, sym, ap, subst}
use Rattle.cts_geom.specs.declared.points.Spot.{Spot}
use Rattle.cts_postorder.proofs.Lists.{is_pair}
use Rattle.cts_topo.specs.declared.shape.ShapeNode.TheVariants.{Leaf}
use Rattle.cts_topo.specs.Shape.{children}
use Rattle.cts_embed.proofs.Stretches.{leaf_stretch}
use Rattle.cts_shape_workers.specs.Placing.{AreBranches}
use Rattle.cts_shape_workers.proofs.Branches.{parts_are}
use Rattle.cts_shape_workers.proofs.placing.branches.Goals as goal

pub overflow_add-result : goal.overflow_add-result
overflow_add-result c =
    let below : c.in-Pair.left < c.args.part.now.root =
    (is_pair children c.args.work.now.nodes.now c.requires.ready.shape.post_order c.args.part.now.root (Leaf 0) (c.in-Pair.left, c.in-Pair.right)
    c.requires.ready.within (ap children c.in-Pair.is)).left_below in
    search rules

pub returns-in-Leaf : goal.returns-in-Leaf
returns-in-Leaf c node same placed =
    sym (leaf_stretch c.args.work.now.nodes.now c.args.part.now.first c.args.part.now.root c.in-Leaf.sink (Leaf 0) c.requires.ready.within
    c.in-Leaf.is c.requires.stretch)

pub returns-in-Pair : goal.returns-in-Pair
returns-in-Pair c node same placed =
    subst (λ (at : Spot). AreBranches c.args.work.now c.args.part.now node
    (record { first = c.args.part.now.first; root = c.in-Pair.left; from = at })
    (record { first = c.in-Pair.left + 1; root = c.in-Pair.right; from = at })) same
    (parts_are c.args.work.now c.args.part.now c.requires c.in-Pair.left c.in-Pair.right c.in-Pair.is node placed)
