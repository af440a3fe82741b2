-- What the leaves of a shape have of the sinks that they name.
use Rattle.std.specs.Prelude.{◌≡◌, List, [], filter_map, slice_get, Option}
use Rattle.std.specs.Option.{option_and_then, option_map}
use Rattle.cts_topo.specs.declared.shape.ShapeNode.{ShapeNode}
use Rattle.cts_topo.specs.Shape.{leaf_sink}
use Rattle.cts_tree.specs.declared.nodes.TreeNode.{TreeNode}
use Rattle.cts_instance.specs.declared.parts.Parts.{Parts}
use Rattle.cts_elmore.specs.declared.pin_list.Pin.{Pin}
use Rattle.cts_elmore.specs.Loads.{leaf_pins, pin_of}
use Rattle.cts_embed.specs.PlacedTree.{IsPlacedTree}
use Rattle.cts_embed.specs.declared.leaf_lists.Leaves.{Leaves}
use Rattle.cts_embed.specs.Stretches.{AreIds}

module _ (i : Parts) where
  -- the pin of a node that is a leaf, and of a list of nodes those of its leaves, in their order
  abbrev pub shape_pin : ShapeNode → Option Pin
  shape_pin node = option_map pin_of (option_and_then (slice_get i.sinks) (leaf_sink node))

  abbrev pub shape_pins : List ShapeNode → List Pin
  shape_pins nodes = filter_map shape_pin nodes

-- nothing is listed yet
pub record AreNone (leaves : Leaves) : Type 0 where
  pub ids : leaves.ids.items ≡ []
  pub pins : leaves.pins.items ≡ []

-- the ids of these sinks, and their pins, which are those of every placed tree of the shape
pub record AreLeavesOf (i : Parts) (nodes : List ShapeNode) (leaves : Leaves) : Type 0 where
  pub ids : AreIds i.sinks nodes leaves.ids.items
  pub pins : (placed : List TreeNode) → IsPlacedTree i nodes placed → leaves.pins.items ≡ leaf_pins i placed
