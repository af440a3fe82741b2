-- Elmore delays of a clock tree: sums over the path from the source, doubled, in 10^-27 s.
use Rattle.std.specs.Prelude.{ℕ, ◌+◌, ◌*◌, not, ◌∷◌, sum_by, find, take_while}
use Rattle.std.specs.Option.{option_map_or}
use Rattle.cts_units.specs.Delay.{wire_delay_of, buffer_delay_of}
use Rattle.cts_postorder.specs.BinaryTree.{BinaryTree, label}
use Rattle.cts_postorder.specs.Occurrence.{Occurrence}
use Rattle.cts_tree.specs.declared.nodes.TreeNode.{TreeNode}
use Rattle.cts_instance.specs.declared.parts.Parts.{Parts}
use Rattle.cts_elmore.specs.Loads.{buffer_at, is_buffered, load_below, load_seen, source_load}

module _ (i : Parts) where
  -- of the wire above a subtree, into what is seen of it
  abbrev pub wire_delay : BinaryTree TreeNode → ℕ
  wire_delay t = wire_delay_of i.params.wire.r i.params.wire.c (label t).wire (load_seen i t)

  -- of the buffer at a subtree's root, and nothing where there is none
  abbrev pub buffer_delay : BinaryTree TreeNode → ℕ
  buffer_delay t = option_map_or (λ buffer. buffer_delay_of buffer (load_below i t)) (buffer_at i t) 0

  -- of that buffer's output resistance alone, without its intrinsic delay
  abbrev pub output_delay : BinaryTree TreeNode → ℕ
  output_delay t = option_map_or (λ buffer. 2 * buffer.rout * load_below i t) (buffer_at i t) 0

  -- of the source's resistance
  abbrev pub source_delay : BinaryTree TreeNode → ℕ
  source_delay root = 2 * i.source_r * source_load i root

  -- The delay at a node: of the source, of each wire on the path down to the node, and of each buffer above it.
  unfoldable pub delay_at : BinaryTree TreeNode → Occurrence TreeNode → ℕ
  delay_at root o = source_delay root + sum_by wire_delay (o.here ∷ o.above) + sum_by buffer_delay o.above

  -- The delay of the stage that ends at a node: of the output of the last buffer above it, or of the source where there is
  -- none, and of each wire from there on.
  unfoldable pub stage_at : BinaryTree TreeNode → Occurrence TreeNode → ℕ
  stage_at root o =
      option_map_or output_delay (find (is_buffered i) o.above) (source_delay root)
      + sum_by wire_delay (o.here ∷ take_while (λ t. not (is_buffered i t)) o.above)
