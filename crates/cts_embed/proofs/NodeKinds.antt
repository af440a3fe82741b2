-- What the nodes of a placed tree name.
use Rattle.std.proofs.Common.{◌≡◌, ℕ, List, slice_get, Option, Some, None, refl, ap}
use Rattle.std.specs.Option.{option_map}
use Rattle.cts_units.specs.declared.params.Sink.{Sink}
use Rattle.cts_tree.specs.declared.nodes.NodeKind.{NodeKind}
use Rattle.cts_tree.specs.declared.nodes.NodeKind.TheVariants as kinds
use Rattle.cts_tree.specs.Nodes.{children_of}
use Rattle.cts_topo.specs.declared.shape.ShapeNode.{ShapeNode}
use Rattle.cts_topo.specs.declared.shape.ShapeNode.TheVariants.{Leaf, Pair}
use Rattle.cts_topo.specs.Shape.{children}
use Rattle.cts_embed.specs.Places.{kind_of}

-- a leaf's sink is there
pub record LeafKind (sinks : List Sink) (s : ℕ) (kind : NodeKind) : Type 0 where
  pub sink : Sink
  pub found : slice_get sinks s ≡ Some sink
  pub is : kind ≡ kinds.Leaf sink.id s

pub leaf_kind : (sinks : List Sink) (s : ℕ) (buffer : Option ℕ) (kind : NodeKind) → kind_of sinks (Leaf s) buffer ≡ Some kind
    → LeafKind sinks s kind
unfolding kind_of
leaf_kind sinks s buffer kind is = by_sink (slice_get sinks s) refl is
  where
    by_sink : (o : Option Sink) → slice_get sinks s ≡ o → option_map (λ (x : Sink). kinds.Leaf x.id s) o ≡ Some kind → LeafKind sinks s kind
    by_sink None e named = cc
    by_sink (Some sink) e named = record { sink = sink; found = e; is = let same = named in cc }

pub pair_kind : (sinks : List Sink) (l r : ℕ) (buffer : Option ℕ) (kind : NodeKind) → kind_of sinks (Pair l r) buffer ≡ Some kind
    → kind ≡ kinds.Pair l r buffer
unfolding kind_of
pair_kind sinks l r buffer kind is = cc

-- it has the children of the shape's node
pub same_kids : (sinks : List Sink) (n : ShapeNode) (buffer : Option ℕ) (kind : NodeKind) → kind_of sinks n buffer ≡ Some kind
    → children_of kind ≡ children n
same_kids sinks (Leaf s) buffer kind is = ap children_of (leaf_kind sinks s buffer kind is).is
same_kids sinks (Pair l r) buffer kind is = ap children_of (pair_kind sinks l r buffer kind is)
