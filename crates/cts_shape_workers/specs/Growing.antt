-- What a worker is given, and what it makes of it.
use Rattle.std.specs.Prelude.{◌≡◌, ℕ, ◌+◌, ◌*◌, ◌^◌, ◌≤◌, Bool, List, length}
use Rattle.cts_topo.specs.declared.pin.Pin.{Pin}
use Rattle.cts_topo.specs.declared.shape.ShapeNode.{ShapeNode}
use Rattle.cts_topo.specs.Divisible.{IsDivisible}
use Rattle.cts_topo.specs.Topology.{AddsTree}

-- a list of nodes, whose first one has this number, can grow by the tree over pins in two lists, with a third one as long
pub record CanGrow (first : ℕ) (wide : Bool) (along across spare : List Pin) (nodes : List ShapeNode) : Type 0 where
  pub pins : IsDivisible wide along across
  pub long : length spare ≡ length along
  pub room : first + length nodes + 2 * length along ≤ 2 ^ 32

-- it grew by that tree, which has two nodes a pin, less one
pub record Grows (first : ℕ) (pins : List Pin) (old new : List ShapeNode) : Type 0 where
  pub tree : AddsTree first pins old new
  pub count : length new + 1 ≡ length old + 2 * length pins
