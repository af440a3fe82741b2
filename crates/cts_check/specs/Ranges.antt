-- The numbers of a node that a report may tell.
use Rattle.std.specs.Prelude.{◌^◌, ◌<◌, ◌≤◌, length, All}
use Rattle.cts_geom.specs.Points.{point_of}
use Rattle.cts_tree.specs.declared.nodes.TreeNode.{TreeNode}
use Rattle.cts_report_reader.specs.Seen.{IsSeen}

-- Coordinates are those that a die can have. A route has at most 65,536 corners, and a wire at most 2^31 - 1 nm.
pub record IsInRange (node : TreeNode) : Type 0 where
  pub place : IsSeen (point_of node.place)
  pub corners : All IsSeen node.route.corners
  pub few : length node.route.corners ≤ 65536
  pub wire : node.wire < 2 ^ 31
