-- Why a pass gives no plan.
use Rattle.std.specs.Prelude.{◌≡◌, ℕ, ◌+◌, List, length, take}
use Rattle.cts_units.specs.declared.params.Sink.{Sink}
use Rattle.cts_units.specs.declared.params.Params.{Params}
use Rattle.cts_topo.specs.declared.shape.ShapeNode.{ShapeNode}
use Rattle.cts_topo.specs.Shape.{leaf_sinks}
use Rattle.cts_up.specs.declared.end.UpEnd.{UpEnd}
use Rattle.cts_up.specs.declared.end.UpEnd.TheVariants.{Beyond, NoMemory}
use Rattle.cts_up.specs.Plan.{IsLeastBeyond}

-- a pass may end so: at the least node that is beyond, or for want of memory
abbrev pub Ends : Params → List Sink → List ShapeNode → UpEnd → Type 0
Ends params sinks nodes (Beyond node) = IsLeastBeyond params sinks nodes node
Ends params sinks nodes NoMemory = Unit {0}

-- Where a node is beyond, the count of merges has grown by one for each pair up to that node: by the nodes that are no
-- leaves.
abbrev pub CountsPairs : List ShapeNode → ℕ → ℕ → UpEnd → Type 0
CountsPairs nodes before after (Beyond node) = after + length (leaf_sinks (take (node + 1) nodes)) ≡ before + node + 1
CountsPairs nodes before after NoMemory = Unit {0}
