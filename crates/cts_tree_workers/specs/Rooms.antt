-- The rooms in which workers write a tree.
use Rattle.std.specs.Prelude.{◌≡◌, ℕ, List, [], length}
use Rattle.cts_instance.specs.declared.parts.Parts.{Parts}
use Rattle.cts_topo.specs.declared.shape.ShapeNode.{ShapeNode}
use Rattle.cts_embed.specs.LeafLists.{AreLeavesOf, AreNone}
use Rattle.cts_tree_workers.specs.declared.rooms.Rooms.{Rooms}

-- nothing stands in them yet
pub record AreEmpty (rooms : Rooms) : Type 0 where
  pub nodes : rooms.nodes.items ≡ []
  pub figures : rooms.figures.items ≡ []
  pub leaves : AreNone rooms.leaves

-- each list of nodes has a place for each of so many, and nothing is listed of the leaves
pub record AreFor (count : ℕ) (rooms : Rooms) : Type 0 where
  pub nodes : length rooms.nodes.items ≡ count
  pub figures : length rooms.figures.items ≡ count
  pub leaves : AreNone rooms.leaves

-- there is a place for each node of a shape, and the leaves are those of the shape over the instance's sinks
pub record AreReady (i : Parts) (shape : List ShapeNode) (rooms : Rooms) : Type 0 where
  pub nodes : length rooms.nodes.items ≡ length shape
  pub leaves : AreLeavesOf i shape rooms.leaves
