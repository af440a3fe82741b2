-- The tree of a shape is sound.
use Rattle.std.proofs.Common.{List, map, length, sym, ap, subst}
use Rattle.std.specs.List.{All, AllZip}
use Rattle.cts_postorder.specs.PostOrder.{IsPostOrder}
use Rattle.cts_postorder.specs.Occurrence.{Occurrence, occurrences_of}
use Rattle.cts_postorder.proofs.Alike.{same_children}
use Rattle.cts_tree.specs.declared.nodes.TreeNode.{TreeNode}
use Rattle.cts_tree.specs.Nodes.{tree_children, children_of}
use Rattle.cts_instance.specs.declared.parts.Parts.{Parts}
use Rattle.cts_instance.specs.Validity.{IsValid}
use Rattle.cts_topo.specs.declared.shape.ShapeNode.{ShapeNode}
use Rattle.cts_topo.specs.Shape.{children, IsShapeOver}
use Rattle.cts_embed.specs.BalancedTree.{IsBalancedNode}
use Rattle.cts_embed.proofs.PlacedFits.{placed_post_order, placed_trees_fit_lem}
use Rattle.cts_elmore.specs.Fits.{FitsInstance}
use Rattle.cts_elmore.specs.Sound.{IsSound, StandsInDie}
use Rattle.cts_elmore.proofs.InDie.{sound_in_die}
use Rattle.cts_plain.specs.Synthesis.{IsTreeOf}
use Rattle.cts_plain.specs.Laws.{TreesAreSound}
use Rattle.cts_plain.proofs.Fitted.{fitted}
use Rattle.cts_plain.proofs.Reached.{IsMadeOf, kept, made, reaches}
use Rattle.cts_plain.proofs.WithinLimits.{within_limits}
use Rattle.cts_plain.proofs.Wires.{wires_are_legal, buffers_are_open}

module _ (i : Parts) where
  module _ (shape : List ShapeNode) (tree : List TreeNode) (valid : IsValid i) (over : IsShapeOver (length i.sinks) shape)
      (is : IsTreeOf i shape tree) where
    pub placed_ok : IsPostOrder (map tree_children is.placed)
    placed_ok = placed_post_order i shape is.placed is.is_placed over.post_order

    pub nodes_made : AllZip (IsMadeOf i) (occurrences_of children shape) tree
    nodes_made = made i valid shape over is.placed placed_ok is.is_placed tree is.is_balanced

    pub tree_ok : IsPostOrder (map tree_children tree)
    tree_ok =
        subst IsPostOrder
        (sym (same_children tree_children tree_children (IsBalancedNode i)
        (λ (o : Occurrence TreeNode) m same. ap children_of same.kind) is.placed placed_ok tree is.is_balanced.nodes))
        placed_ok

    pub sound : IsSound i tree
    sound = record {
      sinks = reaches i valid shape over is.placed placed_ok is.is_placed tree is.is_balanced;
      wires = wires_are_legal i valid shape over tree tree_ok nodes_made;
      buffers = buffers_are_open i valid shape over tree tree_ok nodes_made;
      within = within_limits i is.placed placed_ok tree is.is_balanced;
    }

    stands : All (StandsInDie i.die) tree
    stands = sound_in_die i tree valid tree_ok sound

    fits : FitsInstance i tree
    fits =
        fitted i shape is.placed tree (placed_trees_fit_lem i shape is.placed is.is_placed valid over) nodes_made
        (kept i is.placed placed_ok tree is.is_balanced)

pub trees_sound : TreesAreSound
trees_sound i shape tree valid over is =
    (sound i shape tree valid over is, stands i shape tree valid over is, fits i shape tree valid over is)
