-- Loads of a clock tree, in zF: the sums of the capacitances that a point drives. And its pins: what each sink has.
use Rattle.std.specs.Prelude.{ℕ, ◌+◌, ◌*◌, Bool, List, [], ◌∷◌, ◌++◌, sum_by, filter_map, slice_get, Option, None, is_some, if◌then◌else◌}
use Rattle.std.specs.Option.{option_and_then, option_map, option_map_or}
use Rattle.cts_units.specs.declared.params.Buffer.{Buffer}
use Rattle.cts_units.specs.declared.params.Sink.{Sink}
use Rattle.cts_postorder.specs.BinaryTree.{BinaryTree, tip, fork, label}
use Rattle.cts_tree.specs.declared.nodes.TreeNode.{TreeNode}
use Rattle.cts_tree.specs.Nodes.{leaf_sink, buffer_of}
use Rattle.cts_instance.specs.declared.parts.Parts.{Parts}
use Rattle.cts_elmore.specs.declared.pin_list.Pin.{Pin}

-- the pin of a sink
abbrev pub pin_of : Sink → Pin
pin_of sink = record { cap = sink.cap; offset = sink.offset }

module _ (i : Parts) where
  -- the capacitance of a leaf's sink
  abbrev pub sink_load : TreeNode → ℕ
  sink_load node = option_map_or (λ sink. sink.cap) (option_and_then (slice_get i.sinks) (leaf_sink node.kind)) 0

  -- and the offset that it wants, in 10^-27 s, not doubled
  abbrev pub sink_offset : TreeNode → ℕ
  sink_offset node = option_map_or (λ sink. sink.offset) (option_and_then (slice_get i.sinks) (leaf_sink node.kind)) 0

  -- the offset that is wanted at a subtree's root: that of a leaf's sink, and none at a pair
  abbrev pub offset_at : BinaryTree TreeNode → ℕ
  offset_at (tip n) = sink_offset n
  offset_at (fork l r n) = 0

  -- the pin of a node that is a leaf, and of a list of nodes those of its leaves, in their order
  abbrev pub leaf_pin : TreeNode → Option Pin
  leaf_pin node = option_map pin_of (option_and_then (slice_get i.sinks) (leaf_sink node.kind))

  abbrev pub leaf_pins : List TreeNode → List Pin
  leaf_pins nodes = filter_map leaf_pin nodes

  -- the buffer at a pair, of those in the library
  abbrev pub buffer_at : BinaryTree TreeNode → Option Buffer
  buffer_at (tip n) = None
  buffer_at (fork l r n) = option_and_then (slice_get i.params.library) (buffer_of n.kind)

  abbrev pub is_buffered : BinaryTree TreeNode → Bool
  is_buffered t = is_some (buffer_at t)

  -- the capacitance of the pin that the wire above a subtree drives: a sink's, a buffer's input, or none
  abbrev pub pin_load : BinaryTree TreeNode → ℕ
  pin_load (tip n) = sink_load n
  pin_load (fork l r n) = option_map_or (λ buffer. buffer.cin) (buffer_at (fork l r n)) 0

  -- the capacitance of the wire above a subtree
  abbrev pub wire_load : BinaryTree TreeNode → ℕ
  wire_load t = i.params.wire.c * (label t).wire

  -- the subtrees that are reached from a pair downwards without passing through a buffer below it
  unfoldable pub reached : BinaryTree TreeNode → List (BinaryTree TreeNode)
  reached (tip n) = []
  reached (fork l r n) =
      l ∷ (if is_buffered l then [] else reached l) ++ r ∷ (if is_buffered r then [] else reached r)

  -- The load at a subtree's root, below its buffer where it has one: a leaf's own sink, and at a pair all wires and pins
  -- that are reached from it.
  unfoldable pub load_below : BinaryTree TreeNode → ℕ
  load_below (tip n) = sink_load n
  load_below (fork l r n) = sum_by (λ t. wire_load t + pin_load t) (reached (fork l r n))

  -- the load that is seen from above a subtree: its buffer's input, else all that its root drives
  abbrev pub load_seen : BinaryTree TreeNode → ℕ
  load_seen t = option_map_or (λ buffer. buffer.cin) (buffer_at t) (load_below t)

  -- the load that the source drives, through the root's wire
  abbrev pub source_load : BinaryTree TreeNode → ℕ
  source_load root = load_seen root + wire_load root
