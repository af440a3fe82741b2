-- What holds of every plan.
use Rattle.std.specs.Prelude.{◌≡◌, ℕ, ◌^◌, ◌⊎◌, ℤ, pos, neg_ℤ, ◌<ℤ◌, ◌*ℤ◌, List, length, All}
use Rattle.cts_geom.specs.declared.bounds.Die.{Die}
use Rattle.cts_geom.specs.declared.regions.Region.{Region}
use Rattle.cts_geom.specs.Points.{point_of, spot_at}
use Rattle.cts_geom.specs.RegionLaws.{IsBoxed, IsInBox, IsSegment}
use Rattle.cts_units.specs.declared.params.Sink.{Sink}
use Rattle.cts_units.specs.declared.params.Params.{Params}
use Rattle.cts_units.specs.Limits.{IsParams, IsWire}
use Rattle.cts_postorder.specs.BinaryTree.{BinaryTree}
use Rattle.cts_topo.specs.declared.shape.ShapeNode.{ShapeNode}
use Rattle.cts_topo.specs.Shape.{IsShapeOver}
use Rattle.cts_merge.specs.declared.side.Finished.{Finished}
use Rattle.cts_merge.specs.Side.{IsMergeable}
use Rattle.cts_up.specs.Sinks.{AreSinksInRange, IsOnDie}
use Rattle.cts_up.specs.Plan.{IsFinished, IsPlan, IsLeastBeyond}

-- a tree is made of one thing alone
abbrev pub FinishedIsOne : Type 0
FinishedIsOne =
    (params : Params) (sinks : List Sink) (t : BinaryTree ShapeNode) (f g : Finished) → IsFinished params sinks t f
    → IsFinished params sinks t g → f ≡ g

-- a shape has one plan
abbrev pub PlanIsOne : Type 0
PlanIsOne =
    (params : Params) (sinks : List Sink) (nodes : List ShapeNode) (plan other : List Finished)
    → IsPlan params sinks nodes plan → IsPlan params sinks nodes other → plan ≡ other

-- and no node that is beyond where it has a plan
abbrev pub PlanIsNotBeyond : Type 0
PlanIsNotBeyond =
    (params : Params) (sinks : List Sink) (nodes : List ShapeNode) (plan : List Finished) (k : ℕ)
    → IsPlan params sinks nodes plan → IsLeastBeyond params sinks nodes k → ⊥

abbrev pub LeastBeyondIsOne : Type 0
LeastBeyondIsOne =
    (params : Params) (sinks : List Sink) (nodes : List ShapeNode) (j k : ℕ)
    → IsLeastBeyond params sinks nodes j → IsLeastBeyond params sinks nodes k → j ≡ k

-- a shape over sinks has a plan, or else a node that is beyond
abbrev pub ShapesHavePlans : Type 0
ShapesHavePlans =
    (params : Params) (sinks : List Sink) (nodes : List ShapeNode) → IsWire params.wire → IsShapeOver (length sinks) nodes
    → ((plan : List Finished) × IsPlan params sinks nodes plan) ⊎ ((k : ℕ) × IsLeastBeyond params sinks nodes k)

-- every region is a point, or a segment at 45 degrees to the axes
abbrev pub RegionsAreSegments : Type 0
RegionsAreSegments =
    (params : Params) (sinks : List Sink) (t : BinaryTree ShapeNode) (f : Finished) → IsFinished params sinks t f
    → IsSegment f.side.region

-- every region lies in each box of x and y, in half nm, that holds the sinks
abbrev pub RegionsLieInBox : Type 0
RegionsLieInBox =
    (params : Params) (sinks : List Sink) (t : BinaryTree ShapeNode) (f : Finished) → IsFinished params sinks t f
    → (x1 x2 y1 y2 : ℤ) → All (λ sink. IsInBox x1 x2 y1 y2 (point_of (spot_at sink.x sink.y))) sinks
    → IsBoxed x1 x2 y1 y2 f.side.region

-- every point of every region over sinks of a die lies in that die or on its edges; the nm of the die are doubled, since
-- points are in half nm
abbrev pub RegionsLieInDie : Type 0
RegionsLieInDie =
    (params : Params) (sinks : List Sink) (t : BinaryTree ShapeNode) (f : Finished) → IsFinished params sinks t f
    → (die : Die) → All (IsOnDie die) sinks
    → IsBoxed (pos 2 *ℤ die.x1) (pos 2 *ℤ die.x2) (pos 2 *ℤ die.y1) (pos 2 *ℤ die.y2) f.side.region

-- below 2^32 in size
pub record IsSmall (z : ℤ) : Type 0 where
  pub low : neg_ℤ (pos (2 ^ 32)) <ℤ z
  pub high : z <ℤ pos (2 ^ 32)

pub record HasSmallEnds (region : Region) : Type 0 where
  pub u1 : IsSmall region.u1
  pub u2 : IsSmall region.u2
  pub v1 : IsSmall region.v1
  pub v2 : IsSmall region.v2

-- the coordinates of every region over sinks of a die are below 2^32 in size
abbrev pub RegionsAreSmall : Type 0
RegionsAreSmall =
    (params : Params) (sinks : List Sink) (t : BinaryTree ShapeNode) (f : Finished) → IsFinished params sinks t f
    → AreSinksInRange sinks → HasSmallEnds f.side.region

-- so every side is one that a merge accepts
abbrev pub SidesCanBeMerged : Type 0
SidesCanBeMerged =
    (params : Params) (sinks : List Sink) (t : BinaryTree ShapeNode) (f : Finished) → IsFinished params sinks t f
    → IsParams params → AreSinksInRange sinks → IsMergeable f.side
