-- Each route of the tree of a shape has few corners.
use Rattle.std.proofs.Common.{◌≤◌, length, ap, arith}
use Rattle.cts_geom.specs.Points.{point_of}
use Rattle.cts_postorder.specs.Occurrence.{Occurrence, occurrences_of}
use Rattle.cts_postorder.proofs.Zips.{all_zip-all}
use Rattle.cts_tree.specs.declared.nodes.TreeNode.{TreeNode}
use Rattle.cts_route.proofs.FewCorners.{few_corners}
use Rattle.cts_instance.specs.declared.parts.Parts.{Parts}
use Rattle.cts_instance.specs.Validity.{IsValid}
use Rattle.cts_topo.specs.declared.shape.ShapeNode.{ShapeNode}
use Rattle.cts_topo.specs.Shape.{children}
use Rattle.cts_embed.proofs.Grounds.{blocks_in_range}
use Rattle.cts_plain.specs.Laws.{TreesHaveFewCorners}
use Rattle.cts_plain.proofs.Reached.{IsMadeOf}
use Rattle.cts_plain.proofs.Sound.{nodes_made}

node_few : (i : Parts) → IsValid i → (o : Occurrence ShapeNode) (n : TreeNode) → IsMadeOf i o n → length n.route.corners ≤ 65536
node_few i valid o n (m, is, keeps) =
    let few = few_corners i.blocks i.die (point_of is.from) (point_of m.place) m.route (blocks_in_range i valid).count is.placed.route in
    let same = ap (λ r. length r.corners) keeps.route in
    omega (arith, few, same)

pub trees_few_corners : TreesHaveFewCorners
trees_few_corners i shape tree valid over is =
    all_zip-all (IsMadeOf i) (λ (n : TreeNode). length n.route.corners ≤ 65536) (node_few i valid) (occurrences_of children shape) tree
    (nodes_made i shape tree valid over is)
