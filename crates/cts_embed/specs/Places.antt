-- Where the nodes of a tree stand: the downward pass of deferred-merge embedding (Chao, Hsu, Ho 1992), from the source.
-- Moving a place off the blocks is this project's own rule.
use Rattle.std.specs.Prelude.{◌≡◌, ℕ, List, [], ◌∷◌, slice_get, Option, Some, MatchOption}
use Rattle.std.specs.Option.{is_some, option_map}
use Rattle.cts_geom.specs.declared.points.Spot.{Spot}
use Rattle.cts_geom.specs.Points.{spot_at}
use Rattle.cts_geom.specs.Regions.{IsNearest}
use Rattle.cts_units.specs.declared.params.Sink.{Sink}
use Rattle.cts_block.specs.NearestFree.{IsNearestFree}
use Rattle.cts_postorder.specs.BinaryTree.{BinaryTree, label}
use Rattle.cts_tree.specs.declared.nodes.NodeKind.{NodeKind}
use Rattle.cts_tree.specs.declared.nodes.NodeKind.TheVariants as kinds
use Rattle.cts_instance.specs.declared.parts.Parts.{Parts}
use Rattle.cts_topo.specs.declared.shape.ShapeNode.{ShapeNode}
use Rattle.cts_topo.specs.declared.shape.ShapeNode.TheVariants.{Leaf, Pair}
use Rattle.cts_merge.specs.declared.side.Finished.{Finished}
use Rattle.cts_up.specs.Plan.{IsFinished}

-- the place of the clock source
abbrev pub source_of : Parts → Spot
source_of parts = spot_at parts.source_x parts.source_y

-- the first place of a node: of its region, the point that is nearest to a place above it, the least (u, v) on ties
abbrev pub IsFirstPlace : Finished → Spot → Spot → Type 0
IsFirstPlace node from first = IsNearest node.side.region from first

-- the final place of a pair: its first place where that is free for what the pair has, a buffer or wires alone, and else
-- the nearest point that is
pub record IsPairPlace (parts : Parts) (pair : Finished) (from place : Spot) : Type 0 where
  pub first : Spot
  pub nearest : IsFirstPlace pair from first
  pub moved : IsNearestFree parts.blocks parts.die (is_some pair.buffer) first place

-- the final place of a node: a leaf's is its sink
unfoldable pub IsNodePlace : Parts → ShapeNode → Finished → Spot → Spot → Type 0
IsNodePlace parts (Leaf sink) node from place = MatchOption (slice_get parts.sinks sink) ⊥ (λ s. place ≡ spot_at s.x s.y)
IsNodePlace parts (Pair left right) node from place = IsPairPlace parts node from place

-- the final place of a tree's root, by what the upward pass made of it, seen from a place above it
pub record IsPlaceBelow (parts : Parts) (from : Spot) (t : BinaryTree ShapeNode) (place : Spot) : Type 0 where
  pub node : Finished
  pub finished : IsFinished parts.params parts.sinks t node
  pub is_place : IsNodePlace parts (label t) node from place

-- where the route to a tree starts that stands below these pairs, the nearest first: the root's at the source, every other
-- one at the final place of the pair above
unfoldable pub IsRouteStart : Parts → List (BinaryTree ShapeNode) → Spot → Type 0
IsRouteStart parts [] from = from ≡ source_of parts
IsRouteStart parts (pair ∷ up) from = (above : Spot) × IsRouteStart parts up above × IsPlaceBelow parts above pair from

-- what a node is, with the id of a leaf's sink, and with the buffer of a pair
unfoldable pub kind_of : List Sink → ShapeNode → Option ℕ → Option NodeKind
kind_of sinks (Leaf sink) buffer = option_map (λ s. kinds.Leaf s.id sink) (slice_get sinks sink)
kind_of sinks (Pair left right) buffer = Some (kinds.Pair left right buffer)
