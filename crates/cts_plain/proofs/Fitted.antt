-- The tree of a shape is made of the instance's sinks and buffers.
use Rattle.std.proofs.Common.{◌≡◌, ℕ, List, length, get_or, Option, Some, None, IsSomeAnd, refl, sym, ap, subst, ◌∙◌, arith}
use Rattle.std.specs.List.{AllZip}
use Rattle.std.proofs.lemmas.Slice.Zip.{AllZip-long}
use Rattle.cts_units.specs.declared.params.Sink.{Sink}
use Rattle.cts_postorder.specs.BinaryTree.{label}
use Rattle.cts_postorder.specs.Occurrence.{Occurrence, occurrences_of}
use Rattle.cts_postorder.proofs.Zips.{all_zip-all, all_zip-at}
use Rattle.cts_tree.specs.declared.nodes.NodeKind.{NodeKind}
use Rattle.cts_tree.specs.declared.nodes.NodeKind.TheVariants as kinds
use Rattle.cts_tree.specs.declared.nodes.TreeNode.{TreeNode}
use Rattle.cts_instance.specs.declared.parts.Parts.{Parts}
use Rattle.cts_topo.specs.declared.shape.ShapeNode.{ShapeNode}
use Rattle.cts_topo.specs.declared.shape.ShapeNode.TheVariants.{Leaf, Pair}
use Rattle.cts_topo.specs.Shape.{children}
use Rattle.cts_embed.specs.Fitting.{Fits, NamesWithin}
use Rattle.cts_embed.specs.Places.{kind_of}
use Rattle.cts_embed.proofs.NodeKinds.{LeafKind, leaf_kind, pair_kind}
use Rattle.cts_elmore.specs.Fits.{NamesSink, NamesBuffer, FitsInstance}
use Rattle.cts_plain.proofs.Reached.{Keeps, IsMadeOf}

module _ (i : Parts) where
  names_by : (n : ShapeNode) (buffer : Option ℕ) (k : NodeKind) → kind_of i.sinks n buffer ≡ Some k → NamesSink i.sinks k
  names_by (Leaf s) buffer k is =
      let leaf : LeafKind i.sinks s k = leaf_kind i.sinks s buffer k is in
      subst (NamesSink i.sinks) (sym leaf.is)
      (subst (λ (o : Option Sink). IsSomeAnd o (λ (x : Sink). x.id ≡ leaf.sink.id)) (sym leaf.found) refl)
  names_by (Pair l r) buffer k is = subst (NamesSink i.sinks) (sym (pair_kind i.sinks l r buffer k is)) tt

  names_sink : (o : Occurrence ShapeNode) (n : TreeNode) → IsMadeOf i o n → NamesSink i.sinks n.kind
  names_sink o n (m, is, keeps) =
      names_by (label o.here) is.finished.buffer n.kind (is.placed.kind ∙ ap Some (sym keeps.kind))

  buffer_within : (k : NodeKind) → NamesWithin (length i.sinks) (length i.params.library) k → NamesBuffer i.params.library k
  unfolding NamesWithin
  buffer_within (kinds.Leaf id sink) h = tt
  buffer_within (kinds.Pair l r None) h = tt
  buffer_within (kinds.Pair l r (Some index)) h = h

  pub fitted : (shape : List ShapeNode) (placed : List TreeNode) (tree : List TreeNode) → Fits i placed
      → AllZip (IsMadeOf i) (occurrences_of children shape) tree → AllZip Keeps placed tree → FitsInstance i tree
  fitted shape placed tree fits all kept =
      let long : length tree ≡ length placed = AllZip-long Keeps placed tree kept in
      record {
        few = omega (arith, long, fits.few);
        sinks = all_zip-all (IsMadeOf i) (λ n. NamesSink i.sinks n.kind) names_sink (occurrences_of children shape) tree all;
        buffers = λ k d h.
            let e : TreeNode = d in
            let keeps : Keeps (get_or placed k e) (get_or tree k d) = all_zip-at Keeps placed tree k e d kept (omega arith) in
            buffer_within (get_or tree k d).kind
            (subst (NamesWithin (length i.sinks) (length i.params.library)) (sym keeps.kind) (fits.names k e (omega arith)));
      }
