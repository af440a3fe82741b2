-- The room is full, so that it is the placed tree.
use Rattle.std.proofs.Common.{List, map, sym, subst, arith}
use Rattle.cts_postorder.specs.PostOrder.{IsPostOrder}
use Rattle.cts_topo.specs.declared.shape.ShapeNode.{ShapeNode}
use Rattle.cts_tree.specs.declared.nodes.TreeNode.{TreeNode}
use Rattle.cts_tree.specs.Nodes.{tree_children}
use Rattle.cts_embed.specs.PlacedTree.{IsPlacedTree}
use Rattle.cts_embed.proofs.PlacedFits.{placed_post_order}
use Rattle.cts_embed.proofs.AllNodes.{room_filled}
use Rattle.cts_shape_workers.proofs.places.embed_by.Goals as goal

pub of-requires : goal.of-requires
of-requires g c =
    let placed : IsPlacedTree c.args.instance.now c.args.shape.now c.place_all.new.out =
    subst (λ (nodes : List ShapeNode). IsPlacedTree c.args.instance.now nodes c.place_all.new.out) c.nodes.ensures.nodes
    c.in_ok-place_all.ensures.placed in
    subst (λ (nodes : List TreeNode). IsPostOrder (map tree_children nodes))
    (sym (room_filled c.args.shape.now c.requires.shape.post_order c.args.instance.now c.place_all.new.out _ c.args.room.len
    (omega (arith, c.args.room.ok.0, c.requires.room)) placed))
    (placed_post_order c.args.instance.now c.args.shape.now c.place_all.new.out placed c.requires.shape.post_order)
