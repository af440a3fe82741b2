-- The range of the numbers of a balanced node.
use Rattle.std.specs.Prelude.{◌^◌, ◌≤◌}
use Rattle.cts_units.specs.Limits.{max_delay, max_load}
use Rattle.cts_embed.specs.declared.node.NodeBalance.{NodeBalance}

-- the limits of a greatest doubled delay and of a load, a least delay that is no greater, and the wires of a tree of 131,071 nodes
pub record IsInRange (node : NodeBalance) : Type 0 where
  pub greatest : node.greatest ≤ max_delay
  pub least : node.least ≤ node.greatest
  pub load : node.load ≤ max_load
  pub wires : node.wires ≤ 2 ^ 49
