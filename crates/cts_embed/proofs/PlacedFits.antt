-- Placed trees name what the instance has, and are in post-order.
use Rattle.std.proofs.Common.{◌≡◌, ℕ, List, map, length, Option, Some, None, sym, subst, ◌∙◌, arith}
use Rattle.std.proofs.lemmas.Option.{slice_get_within}
use Rattle.std.proofs.lemmas.Slice.Zip.{AllZip-long}
use Rattle.cts_units.specs.declared.params.Params.{Params}
use Rattle.cts_units.specs.Choice.{IsBufferChoice}
use Rattle.cts_postorder.specs.BinaryTree.{BinaryTree, tip, fork, label}
use Rattle.cts_postorder.specs.PostOrder.{IsPostOrder}
use Rattle.cts_postorder.specs.Occurrence.{occurrences_of}
use Rattle.cts_postorder.proofs.Lists.{length-occurrences_of}
use Rattle.cts_postorder.proofs.Alike.{same_children}
use Rattle.cts_postorder.proofs.Zips.{all_zip-all}
use Rattle.cts_instance.specs.declared.parts.Parts.{Parts}
use Rattle.cts_instance.specs.Validity.{IsValid}
use Rattle.cts_topo.specs.declared.shape.ShapeNode.{ShapeNode}
use Rattle.cts_topo.specs.declared.shape.ShapeNode.TheVariants.{Leaf, Pair}
use Rattle.cts_topo.specs.Shape.{children, IsShapeOver}
use Rattle.cts_topo.proofs.Counts.{length-shape}
use Rattle.cts_merge.specs.declared.side.Finished.{Finished}
use Rattle.cts_up.specs.Plan.{IsFinished}
use Rattle.cts_tree.specs.declared.nodes.NodeKind.{NodeKind}
use Rattle.cts_tree.specs.declared.nodes.NodeKind.TheVariants as kinds
use Rattle.cts_tree.specs.declared.nodes.TreeNode.{TreeNode}
use Rattle.cts_tree.specs.Nodes.{tree_children}
use Rattle.cts_embed.specs.Fitting.{Fits, NamesWithin}
use Rattle.cts_embed.specs.Places.{kind_of}
use Rattle.cts_embed.specs.PlacedTree.{IsPlacedNode, IsPlacedTree}
use Rattle.cts_geom.specs.Points.{point_of}
use Rattle.cts_block.specs.FreePoints.{IsHalfInDie}
use Rattle.cts_embed.specs.Laws.{PlacedTreesFit, PlacesLieInDie}
use Rattle.cts_embed.proofs.Starts.{placed_in_die}
use Rattle.cts_embed.proofs.NodeKinds.{LeafKind, leaf_kind, pair_kind, same_kids}

-- a buffer that is chosen is one of the library
chosen_within : (params : Params) (load count l r : ℕ) (buffer : Option ℕ) → IsBufferChoice params load buffer
    → NamesWithin count (length params.library) (kinds.Pair l r buffer)
unfolding NamesWithin
chosen_within params load count l r None choice = tt
chosen_within params load count l r (Some index) choice =
    slice_get_within params.library index choice.1.buffer choice.1.found

pub names_of : (parts : Parts) (t : BinaryTree ShapeNode) (f : Finished) (kind : NodeKind) → IsFinished parts.params parts.sinks t f
    → kind_of parts.sinks (label t) f.buffer ≡ Some kind → NamesWithin (length parts.sinks) (length parts.params.library) kind
unfolding IsFinished NamesWithin label
names_of parts (tip (Leaf s)) f kind made is =
    let leaf : LeafKind parts.sinks s kind = leaf_kind parts.sinks s f.buffer kind is in
    subst (NamesWithin (length parts.sinks) (length parts.params.library)) (sym leaf.is)
    (slice_get_within parts.sinks s leaf.sink leaf.found)
names_of parts (tip (Pair l r)) f kind made is = absurd made
names_of parts (fork a b (Leaf s)) f kind made is =
    let leaf : LeafKind parts.sinks s kind = leaf_kind parts.sinks s f.buffer kind is in
    subst (NamesWithin (length parts.sinks) (length parts.params.library)) (sym leaf.is)
    (slice_get_within parts.sinks s leaf.sink leaf.found)
names_of parts (fork a b (Pair l r)) f kind made is =
    subst (NamesWithin (length parts.sinks) (length parts.params.library)) (sym (pair_kind parts.sinks l r f.buffer kind is))
    (chosen_within parts.params _ (length parts.sinks) l r f.buffer made.4.buffer)

module _ (parts : Parts) (shape : List ShapeNode) (placed : List TreeNode) (is : IsPlacedTree parts shape placed) where
  module _ (ok : IsPostOrder (map children shape)) where
    pub placed_long : length placed ≡ length shape
    placed_long =
        AllZip-long (IsPlacedNode parts) (occurrences_of children shape) placed is ∙ length-occurrences_of children shape ok

    pub placed_post_order : IsPostOrder (map tree_children placed)
    placed_post_order =
        subst IsPostOrder (sym (same_children children tree_children (IsPlacedNode parts)
        (λ o m node. same_kids parts.sinks (label o.here) node.finished.buffer m.kind node.placed.kind) shape ok placed is)) ok

  pub placed_fits : IsValid parts → IsShapeOver (length parts.sinks) shape → Fits parts placed
  placed_fits valid over = record {
    few = omega (arith, placed_long over.post_order, length-shape (length parts.sinks) shape over, valid.sink_count);
    names = all_zip-all (IsPlacedNode parts) (λ node. NamesWithin (length parts.sinks) (length parts.params.library) node.kind)
        (λ o m node. names_of parts o.here node.finished m.kind node.made node.placed.kind) (occurrences_of children shape) placed is;
  }

pub placed_trees_fit_lem : PlacedTreesFit
placed_trees_fit_lem parts shape placed is valid over = placed_fits parts shape placed is valid over

pub places_in_die : PlacesLieInDie
places_in_die parts shape placed is valid =
    all_zip-all (IsPlacedNode parts) (λ node. IsHalfInDie parts.die (point_of node.place))
    (λ o m node. placed_in_die parts (label o.here) node.finished node.from m valid node.placed) (occurrences_of children shape) placed is
