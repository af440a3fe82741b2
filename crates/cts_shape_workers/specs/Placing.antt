-- The places of a tree's nodes as a pass by halves: what it asks for, what its halves are, and what it comes to.
use Rattle.std.specs.Prelude.{◌≡◌, ◌+◌, ◌<◌, ◌≤◌, List, length, Result, IfOk, IfErr}
use Rattle.cts_tree.specs.declared.nodes.TreeNode.{TreeNode}
use Rattle.cts_embed.specs.declared.end.EmbedEnd.{EmbedEnd}
use Rattle.cts_embed.specs.Prepared.{IsGroundOf}
use Rattle.cts_embed.specs.Stretches.{AreIds, ArePlaced, IsPlacedAt, IsReady, IsStretch, StretchEnds}
use Rattle.cts_shape_workers.specs.declared.placing.Branch.{Branch}
use Rattle.cts_shape_workers.specs.declared.placing.Placing.{Placing}

-- the shape, its sites and the ids are those of the instance
pub record IsPrepared (work : Placing) : Type 0 where
  pub ground : IsGroundOf work.instance.now work.ground.now
  pub ids : AreIds work.instance.now.sinks work.nodes.now work.ids.now

-- a tree can be placed from here
pub record CanBePlaced (work : Placing) (part : Branch) : Type 0 where
  pub ready : IsReady work.instance.now work.nodes.now work.sites.now part.root part.from
  pub stretch : IsStretch work.nodes.now part.first part.root

-- .. in a room that has a place for each node
pub record HasRoom (work : Placing) (part : Branch) (room : List TreeNode) : Type 0 where
  pub prepared : IsPrepared work
  pub placeable : CanBePlaced work part
  pub places : part.first + length room ≡ part.root + 1

-- two trees are the parts of a third one, whose root is this node
pub record AreBranches (work : Placing) (part : Branch) (node : TreeNode) (left right : Branch) : Type 0 where
  pub placed : IsPlacedAt work.instance.now work.nodes.now part.root node
  pub left_first : left.first ≡ part.first
  pub right_first : right.first ≡ left.root + 1
  pub right_root : right.root + 1 ≡ part.root
  pub order : (part.first ≤ left.root) × (left.root < right.root)
  pub left_placeable : CanBePlaced work left
  pub right_placeable : CanBePlaced work right

-- the room has the nodes of the placed tree, or a node is cut
pub record ArePlacedBy (work : Placing) (part : Branch) (room : List TreeNode) (end : Result Unit EmbedEnd) : Type 0 where
  pub placed : IfOk end (λ _. ArePlaced work.instance.now work.nodes.now part.first part.root room)
  pub ends : IfErr end (StretchEnds work.instance.now work.nodes.now part.first part.root)
