-- The stretch of all nodes of a shape.
use Rattle.std.proofs.Common.{◌≡◌, ℕ, ◌+◌, ◌-◌, List, [], ◌++◌, map, take, length, get_or, sym, ap, subst, ◌∙◌, arith}
use Rattle.std.proofs.lemmas.List.{take-append-le, take_all}
use Rattle.std.proofs.lemmas.Option.{get_or_from_slice_get}
use Rattle.cts_geom.specs.declared.points.Spot.{Spot}
use Rattle.cts_postorder.specs.BinaryTree.{size}
use Rattle.cts_postorder.specs.PostOrder.{IsPostOrder, trees_of, root_of}
use Rattle.cts_postorder.specs.Occurrence.{Occurrence, occurrence, occurrences, occurrences_of}
use Rattle.cts_postorder.proofs.Sizes.{root_number-next}
use Rattle.cts_postorder.proofs.Places.{get_or-occurrences-root}
use Rattle.cts_postorder.proofs.Lists.{Whole, whole_of, length_pos}
use Rattle.cts_topo.specs.declared.shape.ShapeNode.{ShapeNode}
use Rattle.cts_topo.specs.Shape.{children, IsShapeOver}
use Rattle.cts_up.specs.declared.site.Site.{Site}
use Rattle.cts_up.specs.Sites.{AreSites}
use Rattle.cts_tree.specs.declared.nodes.TreeNode.{TreeNode}
use Rattle.cts_instance.specs.declared.parts.Parts.{Parts}
use Rattle.cts_embed.specs.Places.{IsRouteStart, source_of}
use Rattle.cts_embed.specs.PlacedTree.{IsPlacedTree}
use Rattle.cts_embed.proofs.PlacedFits.{placed_long}
use Rattle.cts_embed.specs.Stretches.{IsReady, IsStretch}

module _ (nodes : List ShapeNode) (ok : IsPostOrder (map children nodes)) where
  w : Whole children nodes
  w = whole_of children nodes ok

  pub last_next : length nodes - 1 + 1 ≡ length nodes
  last_next = omega (arith, length_pos children nodes ok)

  -- the tree at the last node has all nodes
  pub whole_stretch : IsStretch nodes 0 (length nodes - 1)
  unfolding root_of
  whole_stretch d =
      let root : get_or (trees_of children nodes) (length nodes - 1) d ≡ w.tree =
      get_or_from_slice_get (trees_of children nodes) (length nodes - 1) w.tree d w.root_is in
      omega (arith, ap size root, w.size_is, last_next)

  -- the route to it starts at the source
  pub whole_ready : (parts : Parts) (sites : List Site) (source : Spot) → IsShapeOver (length parts.sinks) nodes
      → AreSites parts.params parts.sinks nodes sites → source ≡ source_of parts → IsReady parts nodes sites (length nodes - 1) source
  unfolding IsRouteStart
  whole_ready parts sites source shape are source_is = record {
    shape = shape;
    are_sites = are;
    within = omega (arith, last_next);
    start = λ o. subst (λ (q : Occurrence ShapeNode). IsRouteStart parts q.above source) (sym (at_last o)) source_is;
  }
    where
      at_last : (o : Occurrence ShapeNode) → get_or (occurrences_of children nodes) (length nodes - 1) o ≡ occurrence [] w.tree
      at_last o =
          ap (λ os. get_or os (length nodes - 1) o) w.occurrences_are
          ∙ ap (λ k. get_or (occurrences [] w.tree) k o) (omega (arith, root_number-next 0 w.tree, w.size_is))
          ∙ get_or-occurrences-root [] w.tree o

  -- the room that it fills is it
  pub room_filled : (parts : Parts) (placed rest : List TreeNode) (count : ℕ) → count ≡ length nodes
      → IsPlacedTree parts nodes placed → take count (placed ++ rest) ≡ placed
  room_filled parts placed rest count count_is is =
      let long : count ≡ length placed = omega (arith, count_is, placed_long parts nodes placed is ok) in
      take-append-le count placed rest (omega (arith, long)) ∙ take_all count placed (omega (arith, long))
