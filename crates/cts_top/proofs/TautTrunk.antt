-- The wire to the root of a synthesised tree is as long as its route, since no balance lengthens it.
use Rattle.std.proofs.Common.{◌≡◌, ◌*◌, List, length, get_or, Some, sym, ap, subst, ◌∙◌, arith}
use Rattle.std.specs.Prelude.{[], IfSome}
use Rattle.std.proofs.lemmas.Int.{ints}
use Rattle.cts_geom.specs.declared.points.Half.{Half}
use Rattle.cts_geom.specs.declared.points.Spot.{Spot}
use Rattle.cts_geom.specs.Points.{point_of}
use Rattle.cts_geom.proofs.PointLemmas.{half_same}
use Rattle.cts_block.specs.declared.blocks.Block.{Block}
use Rattle.cts_postorder.specs.BinaryTree.{BinaryTree, label}
use Rattle.cts_postorder.specs.Occurrence.{Occurrence, occurrence}
use Rattle.cts_postorder.specs.PostOrder.{root_of}
use Rattle.cts_postorder.proofs.Alike.{AlikeLists, alike_label, alike_lists}
use Rattle.cts_tree.specs.declared.nodes.TreeNode.{TreeNode}
use Rattle.cts_tree.specs.declared.route.Route.{Route}
use Rattle.cts_tree.specs.Nodes.{tree_children, children_of}
use Rattle.cts_tree.specs.Path.{path_length}
use Rattle.cts_route.specs.Laws.{HasCornersIn, IsLegalWay}
use Rattle.cts_route.proofs.Legal.{routes_legal}
use Rattle.cts_instance.specs.declared.parts.Parts.{Parts}
use Rattle.cts_instance.specs.Validity.{IsBlock, IsValid}
use Rattle.cts_topo.specs.declared.shape.ShapeNode.{ShapeNode}
use Rattle.cts_topo.specs.Shape.{children, IsShapeOver}
use Rattle.cts_embed.specs.Places.{IsRouteStart, source_of}
use Rattle.cts_embed.specs.BalancedTree.{IsBalancedNode, IsWireLength}
use Rattle.cts_embed.proofs.NodeKinds.{same_kids}
use Rattle.cts_embed.proofs.PlacedFits.{placed_post_order}
use Rattle.cts_embed.proofs.Starts.{place_in_die, start_in_die}
use Rattle.cts_elmore.specs.Sound.{upper_end}
use Rattle.cts_trunk.specs.Laid.{HasTautTrunk}
use Rattle.cts_trunk.specs.Places.{trunk_way}
use Rattle.cts_plain.specs.Synthesis.{IsSynthesis, IsTreeOf, made}
use Rattle.cts_plain.proofs.Reached.{IsMadeOf}
use Rattle.cts_plain.proofs.Sound.{nodes_made}
use Rattle.cts_plain.proofs.Valid.{shape_over}

module _ (i : Parts) (valid : IsValid i) where
  corners_in : (block : Block) → IsBlock i.die block → HasCornersIn i.die block
  corners_in block is = record {
    x1_low = is.from.west;
    x1_high = is.from.east;
    x2_low = is.to.west;
    x2_high = is.to.east;
    y1_low = is.from.south;
    y1_high = is.from.north;
    y2_low = is.to.south;
    y2_high = is.to.north;
  }

  source_end : point_of (source_of i) ≡ upper_end i []
  source_end = half_same (point_of (source_of i)) (upper_end i []) (omega (arith, ints)) (omega (arith, ints))

  -- the way of the root's route is as long as the route
  root_way : (s : BinaryTree ShapeNode) (n : TreeNode) → IsMadeOf i (occurrence [] s) n → path_length (trunk_way i n) ≡ 2 * n.route.length
  unfolding IsRouteStart
  root_way s n (m, placed, keeps) =
      let start : point_of placed.from ≡ upper_end i [] = ap point_of placed.start ∙ source_end in
      let way : IsLegalWay i.blocks i.die (point_of placed.from) (point_of m.place) m.route =
      routes_legal i.blocks i.die (point_of placed.from) (point_of m.place) m.route valid.die.x_order valid.die.y_order
      (λ k d h. corners_in (get_or i.blocks k d) (valid.blocks k d h)) (start_in_die i [] placed.from valid placed.start)
      (place_in_die i (label s) placed.finished placed.from m.place valid placed.placed.place) placed.placed.route in
      let moved : IsLegalWay i.blocks i.die (upper_end i []) (point_of n.place) n.route =
      subst (λ (h : Half). IsLegalWay i.blocks i.die h (point_of n.place) n.route) start
      (subst (λ (p : Spot). IsLegalWay i.blocks i.die (point_of placed.from) (point_of p) n.route) (sym keeps.place)
      (subst (λ (r : Route). IsLegalWay i.blocks i.die (point_of placed.from) (point_of m.place) r) (sym keeps.route) way)) in
      moved.long

  module _ (shape : List ShapeNode) (over : IsShapeOver (length i.sinks) shape) (tree : List TreeNode) (is : IsTreeOf i shape tree) where
    -- the root beside the root of the placed tree
    balanced : AlikeLists (IsBalancedNode i) tree_children tree_children (λ o m same. ap children_of same.kind) is.placed tree
    balanced =
        alike_lists (IsBalancedNode i) tree_children tree_children (λ o m same. ap children_of same.kind) is.placed
        (placed_post_order i shape is.placed is.is_placed over.post_order) tree is.is_balanced.nodes

    same_children : (o : Occurrence ShapeNode) (n : TreeNode) → IsMadeOf i o n → tree_children n ≡ children (label o.here)
    same_children o n (m, placed, keeps) =
        ap children_of keeps.kind ∙ same_kids i.sinks (label o.here) placed.finished.buffer m.kind placed.placed.kind

    -- and beside that of the shape
    placed_root : AlikeLists (IsMadeOf i) children tree_children same_children shape tree
    placed_root =
        alike_lists (IsMadeOf i) children tree_children same_children shape over.post_order tree (nodes_made i shape tree valid over is)

    root_taut : HasTautTrunk i (label balanced.second)
    unfolding IsWireLength
    root_taut =
        let b : IsBalancedNode i (occurrence [] balanced.first) (label balanced.second) =
        alike_label (IsBalancedNode i) [] balanced.first balanced.second balanced.alike in
        let m : IsMadeOf i (occurrence [] placed_root.first) (label placed_root.second) =
        alike_label (IsMadeOf i) [] placed_root.first placed_root.second placed_root.alike in
        let names : Some placed_root.second ≡ Some balanced.second = sym placed_root.second_is ∙ balanced.second_is in
        let same : placed_root.second ≡ balanced.second = cc in
        let way : path_length (trunk_way i (label balanced.second)) ≡ 2 * (label balanced.second).route.length =
        subst (λ (t : BinaryTree TreeNode). path_length (trunk_way i (label t)) ≡ 2 * (label t).route.length) same
        (root_way placed_root.first (label placed_root.second) m) in
        let wire : (label balanced.second).wire ≡ (label balanced.first).route.length = b.wire in
        omega (arith, way, wire, ap (λ (r : Route). r.length) b.route)

    pub tree_taut : IfSome (root_of tree_children tree) (λ root. HasTautTrunk i (label root))
    tree_taut = subst (λ o. IfSome o (λ root. HasTautTrunk i (label root))) (sym balanced.second_is) root_taut

pub taut_trunk : (i : Parts) (tree : List TreeNode) → IsValid i → IsSynthesis i (made tree)
    → IfSome (root_of tree_children tree) (λ root. HasTautTrunk i (label root))
taut_trunk i tree valid is = tree_taut i valid _ (shape_over i valid) tree is
