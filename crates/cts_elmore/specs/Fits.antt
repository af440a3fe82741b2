-- Trees that are made of an instance's sinks and buffers.
use Rattle.std.specs.Prelude.{◌≡◌, ◌<◌, ◌≤◌, List, length, slice_get, All, Some, None, IsSomeAnd}
use Rattle.cts_units.specs.declared.params.Sink.{Sink}
use Rattle.cts_units.specs.declared.params.Buffer.{Buffer}
use Rattle.cts_tree.specs.declared.nodes.NodeKind.{NodeKind}
use Rattle.cts_tree.specs.declared.nodes.NodeKind.TheVariants.{Leaf, Pair}
use Rattle.cts_tree.specs.declared.nodes.TreeNode.{TreeNode}
use Rattle.cts_instance.specs.declared.parts.Parts.{Parts}

-- a leaf names a sink, and has this sink's id
abbrev pub NamesSink : List Sink → NodeKind → Type 0
NamesSink sinks (Leaf id sink) = IsSomeAnd (slice_get sinks sink) (λ named. named.id ≡ id)
NamesSink sinks (Pair left right buffer) = Unit {0}

-- a buffer is one of the library
abbrev pub NamesBuffer : List Buffer → NodeKind → Type 0
NamesBuffer library (Leaf id sink) = Unit {0}
NamesBuffer library (Pair left right None) = Unit {0}
NamesBuffer library (Pair left right (Some index)) = index < length library

-- The tree has no more nodes than one of 65,536 leaves, its leaves are sinks of the instance, and its buffers are of the
-- library. Nothing is said of how many leaves a sink has.
pub record FitsInstance (i : Parts) (nodes : List TreeNode) : Type 0 where
  pub few : length nodes ≤ 131071
  pub sinks : All (λ node. NamesSink i.sinks node.kind) nodes
  pub buffers : All (λ node. NamesBuffer i.params.library node.kind) nodes
